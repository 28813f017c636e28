-- What is found in each kind of expression and declaration.
use Rattle.std.proofs.Common.{◌≡◌, ℕ, Bool, List, Option, Some, None, ap, ◌∙◌, sym, map, option_map}
use Rattle.mo_syntax.specs.declared.text.Text.{Text}
use Rattle.mo_syntax.specs.declared.name.Name.{Name}
use Rattle.mo_syntax.specs.declared.declarations.Visibility.{Visibility}
use Rattle.mo_syntax.specs.declared.types.TypeExpression.{TypeExpression}
use Rattle.mo_syntax.specs.declared.types.TypeParameter.{TypeParameter}
use Rattle.mo_syntax.specs.declared.patterns.Pattern.{Pattern}
use Rattle.mo_syntax.specs.declared.patterns.Parameters.{Parameters}
use Rattle.mo_syntax.specs.declared.literal.Literal.{Literal}
use Rattle.mo_syntax.specs.declared.operators.BinaryOperator.{BinaryOperator}
use Rattle.mo_syntax.specs.declared.operators.AssignmentOperator.{AssignmentOperator}
use Rattle.mo_syntax.specs.declared.declarations.Declaration.{Declaration, fold-roll-Declaration}
use Rattle.mo_syntax.specs.declared.declarations.Declaration.TheVariants as d
use Rattle.mo_syntax.specs.declared.expressions.Expression.{Expression, fold-roll-Expression}
use Rattle.mo_syntax.specs.declared.expressions.Expression.TheVariants as e
use Rattle.mo_syntax.specs.declared.declarations.DeclarationField.{DeclarationField, roll-DeclarationField, fold-roll-DeclarationField}
use Rattle.mo_syntax.specs.declared.expressions.Case.{Case, roll-Case, fold-roll-Case}
use Rattle.mo_syntax.specs.declared.expressions.ExpressionField.{ExpressionField, roll-ExpressionField, fold-roll-ExpressionField}
use Rattle.mo_syntax.specs.declared.declarations.Declaration.TheOpen as F
use Rattle.mo_scopes.specs.Findings.{InScope}
use Rattle.mo_pattern_names.specs.TypeNames.{Entry}
use Rattle.mo_bindings.specs.ExpressionNames.{Declared, Whole, Member, in_declaration, in_expression, in_member, in_case, in_field, declaration_step, expression_step, declaration_field_step, case_step, expression_field_step}

pub found_Let : (x0 : Pattern) (x1 : Expression) → in_declaration (d.Let x0 x1) ≡ declaration_step (F.Let x0 (in_expression x1))
unfolding in_declaration in_expression in_member in_case in_field
found_Let x0 x1 = ap in_declaration (sym (d.rolls-Let x0 x1)) ∙ fold-roll-Declaration Declared Whole Member InScope Entry declaration_step expression_step declaration_field_step case_step expression_field_step (F.Let x0 x1)

pub found_Var : (x0 : Name) (x1 : Option TypeExpression) (x2 : Expression) → in_declaration (d.Var x0 x1 x2) ≡ declaration_step (F.Var x0 x1 (in_expression x2))
unfolding in_declaration in_expression in_member in_case in_field
found_Var x0 x1 x2 = ap in_declaration (sym (d.rolls-Var x0 x1 x2)) ∙ fold-roll-Declaration Declared Whole Member InScope Entry declaration_step expression_step declaration_field_step case_step expression_field_step (F.Var x0 x1 x2)

pub found_Func : (x0 : Name) (x1 : Option (List TypeParameter)) (x2 : Parameters) (x3 : Option TypeExpression) (x4 : Bool) (x5 : Expression) → in_declaration (d.Func x0 x1 x2 x3 x4 x5) ≡ declaration_step (F.Func x0 x1 x2 x3 x4 (in_expression x5))
unfolding in_declaration in_expression in_member in_case in_field
found_Func x0 x1 x2 x3 x4 x5 = ap in_declaration (sym (d.rolls-Func x0 x1 x2 x3 x4 x5)) ∙ fold-roll-Declaration Declared Whole Member InScope Entry declaration_step expression_step declaration_field_step case_step expression_field_step (F.Func x0 x1 x2 x3 x4 x5)

pub found_TypeAlias : (x0 : Name) (x1 : Option (List Name)) (x2 : TypeExpression) → in_declaration (d.TypeAlias x0 x1 x2) ≡ declaration_step (F.TypeAlias x0 x1 x2)
unfolding in_declaration in_expression in_member in_case in_field
found_TypeAlias x0 x1 x2 = ap in_declaration (sym (d.rolls-TypeAlias x0 x1 x2)) ∙ fold-roll-Declaration Declared Whole Member InScope Entry declaration_step expression_step declaration_field_step case_step expression_field_step (F.TypeAlias x0 x1 x2)

pub found_Class : (x0 : Name) (x1 : Option (List TypeParameter)) (x2 : Parameters) (x3 : List DeclarationField) (x4 : Bool) → in_declaration (d.Class x0 x1 x2 x3 x4) ≡ declaration_step (F.Class x0 x1 x2 (map in_member x3) x4)
unfolding in_declaration in_expression in_member in_case in_field
found_Class x0 x1 x2 x3 x4 = ap in_declaration (sym (d.rolls-Class x0 x1 x2 x3 x4)) ∙ fold-roll-Declaration Declared Whole Member InScope Entry declaration_step expression_step declaration_field_step case_step expression_field_step (F.Class x0 x1 x2 x3 x4)

pub found_NamedObject : (x0 : Name) (x1 : List DeclarationField) (x2 : Bool) → in_declaration (d.NamedObject x0 x1 x2) ≡ declaration_step (F.NamedObject x0 (map in_member x1) x2)
unfolding in_declaration in_expression in_member in_case in_field
found_NamedObject x0 x1 x2 = ap in_declaration (sym (d.rolls-NamedObject x0 x1 x2)) ∙ fold-roll-Declaration Declared Whole Member InScope Entry declaration_step expression_step declaration_field_step case_step expression_field_step (F.NamedObject x0 x1 x2)

pub found_Evaluate : (x0 : Expression) → in_declaration (d.Evaluate x0) ≡ declaration_step (F.Evaluate (in_expression x0))
unfolding in_declaration in_expression in_member in_case in_field
found_Evaluate x0 = ap in_declaration (sym (d.rolls-Evaluate x0)) ∙ fold-roll-Declaration Declared Whole Member InScope Entry declaration_step expression_step declaration_field_step case_step expression_field_step (F.Evaluate x0)

pub found_Assign : (x0 : AssignmentOperator) (x1 : Expression) (x2 : Expression) → in_expression (e.Assign x0 x1 x2) ≡ expression_step (F.Assign x0 (in_expression x1) (in_expression x2))
unfolding in_declaration in_expression in_member in_case in_field
found_Assign x0 x1 x2 = ap in_expression (sym (e.rolls-Assign x0 x1 x2)) ∙ fold-roll-Expression Declared Whole Member InScope Entry declaration_step expression_step declaration_field_step case_step expression_field_step (F.Assign x0 x1 x2)

pub found_Annotated : (x0 : Expression) (x1 : TypeExpression) → in_expression (e.Annotated x0 x1) ≡ expression_step (F.Annotated (in_expression x0) x1)
unfolding in_declaration in_expression in_member in_case in_field
found_Annotated x0 x1 = ap in_expression (sym (e.rolls-Annotated x0 x1)) ∙ fold-roll-Expression Declared Whole Member InScope Entry declaration_step expression_step declaration_field_step case_step expression_field_step (F.Annotated x0 x1)

pub found_Binary : (x0 : BinaryOperator) (x1 : Expression) (x2 : Expression) → in_expression (e.Binary x0 x1 x2) ≡ expression_step (F.Binary x0 (in_expression x1) (in_expression x2))
unfolding in_declaration in_expression in_member in_case in_field
found_Binary x0 x1 x2 = ap in_expression (sym (e.rolls-Binary x0 x1 x2)) ∙ fold-roll-Expression Declared Whole Member InScope Entry declaration_step expression_step declaration_field_step case_step expression_field_step (F.Binary x0 x1 x2)

pub found_If : (x0 : Expression) (x1 : Expression) (x2 : Option Expression) → in_expression (e.If x0 x1 x2) ≡ expression_step (F.If (in_expression x0) (in_expression x1) (option_map in_expression x2))
unfolding in_declaration in_expression in_member in_case in_field
found_If x0 x1 None = ap in_expression (sym (e.rolls-If x0 x1 None)) ∙ fold-roll-Expression Declared Whole Member InScope Entry declaration_step expression_step declaration_field_step case_step expression_field_step (F.If x0 x1 None)
found_If x0 x1 (Some x2) = ap in_expression (sym (e.rolls-If x0 x1 (Some x2))) ∙ fold-roll-Expression Declared Whole Member InScope Entry declaration_step expression_step declaration_field_step case_step expression_field_step (F.If x0 x1 (Some x2))

pub found_Switch : (x0 : Expression) (x1 : List Case) (x2 : Bool) → in_expression (e.Switch x0 x1 x2) ≡ expression_step (F.Switch (in_expression x0) (map in_case x1) x2)
unfolding in_declaration in_expression in_member in_case in_field
found_Switch x0 x1 x2 = ap in_expression (sym (e.rolls-Switch x0 x1 x2)) ∙ fold-roll-Expression Declared Whole Member InScope Entry declaration_step expression_step declaration_field_step case_step expression_field_step (F.Switch x0 x1 x2)

pub found_While : (x0 : Expression) (x1 : Expression) → in_expression (e.While x0 x1) ≡ expression_step (F.While (in_expression x0) (in_expression x1))
unfolding in_declaration in_expression in_member in_case in_field
found_While x0 x1 = ap in_expression (sym (e.rolls-While x0 x1)) ∙ fold-roll-Expression Declared Whole Member InScope Entry declaration_step expression_step declaration_field_step case_step expression_field_step (F.While x0 x1)

pub found_Loop : (x0 : Expression) (x1 : Option Expression) → in_expression (e.Loop x0 x1) ≡ expression_step (F.Loop (in_expression x0) (option_map in_expression x1))
unfolding in_declaration in_expression in_member in_case in_field
found_Loop x0 None = ap in_expression (sym (e.rolls-Loop x0 None)) ∙ fold-roll-Expression Declared Whole Member InScope Entry declaration_step expression_step declaration_field_step case_step expression_field_step (F.Loop x0 None)
found_Loop x0 (Some x1) = ap in_expression (sym (e.rolls-Loop x0 (Some x1))) ∙ fold-roll-Expression Declared Whole Member InScope Entry declaration_step expression_step declaration_field_step case_step expression_field_step (F.Loop x0 (Some x1))

pub found_For : (x0 : Pattern) (x1 : Expression) (x2 : Expression) → in_expression (e.For x0 x1 x2) ≡ expression_step (F.For x0 (in_expression x1) (in_expression x2))
unfolding in_declaration in_expression in_member in_case in_field
found_For x0 x1 x2 = ap in_expression (sym (e.rolls-For x0 x1 x2)) ∙ fold-roll-Expression Declared Whole Member InScope Entry declaration_step expression_step declaration_field_step case_step expression_field_step (F.For x0 x1 x2)

pub found_Label : (x0 : Name) (x1 : Option TypeExpression) (x2 : Expression) → in_expression (e.Label x0 x1 x2) ≡ expression_step (F.Label x0 x1 (in_expression x2))
unfolding in_declaration in_expression in_member in_case in_field
found_Label x0 x1 x2 = ap in_expression (sym (e.rolls-Label x0 x1 x2)) ∙ fold-roll-Expression Declared Whole Member InScope Entry declaration_step expression_step declaration_field_step case_step expression_field_step (F.Label x0 x1 x2)

pub found_Break : (x0 : Name) (x1 : Option Expression) → in_expression (e.Break x0 x1) ≡ expression_step (F.Break x0 (option_map in_expression x1))
unfolding in_declaration in_expression in_member in_case in_field
found_Break x0 None = ap in_expression (sym (e.rolls-Break x0 None)) ∙ fold-roll-Expression Declared Whole Member InScope Entry declaration_step expression_step declaration_field_step case_step expression_field_step (F.Break x0 None)
found_Break x0 (Some x1) = ap in_expression (sym (e.rolls-Break x0 (Some x1))) ∙ fold-roll-Expression Declared Whole Member InScope Entry declaration_step expression_step declaration_field_step case_step expression_field_step (F.Break x0 (Some x1))

pub found_Continue : (x0 : Name) → in_expression (e.Continue x0) ≡ expression_step (F.Continue x0)
unfolding in_declaration in_expression in_member in_case in_field
found_Continue x0 = ap in_expression (sym (e.rolls-Continue x0)) ∙ fold-roll-Expression Declared Whole Member InScope Entry declaration_step expression_step declaration_field_step case_step expression_field_step (F.Continue x0)

pub found_Return : (x0 : Option Expression) → in_expression (e.Return x0) ≡ expression_step (F.Return (option_map in_expression x0))
unfolding in_declaration in_expression in_member in_case in_field
found_Return None = ap in_expression (sym (e.rolls-Return None)) ∙ fold-roll-Expression Declared Whole Member InScope Entry declaration_step expression_step declaration_field_step case_step expression_field_step (F.Return None)
found_Return (Some x0) = ap in_expression (sym (e.rolls-Return (Some x0))) ∙ fold-roll-Expression Declared Whole Member InScope Entry declaration_step expression_step declaration_field_step case_step expression_field_step (F.Return (Some x0))

pub found_Do : (x0 : Expression) → in_expression (e.Do x0) ≡ expression_step (F.Do (in_expression x0))
unfolding in_declaration in_expression in_member in_case in_field
found_Do x0 = ap in_expression (sym (e.rolls-Do x0)) ∙ fold-roll-Expression Declared Whole Member InScope Entry declaration_step expression_step declaration_field_step case_step expression_field_step (F.Do x0)

pub found_DoOptional : (x0 : Expression) → in_expression (e.DoOptional x0) ≡ expression_step (F.DoOptional (in_expression x0))
unfolding in_declaration in_expression in_member in_case in_field
found_DoOptional x0 = ap in_expression (sym (e.rolls-DoOptional x0)) ∙ fold-roll-Expression Declared Whole Member InScope Entry declaration_step expression_step declaration_field_step case_step expression_field_step (F.DoOptional x0)

pub found_Await : (x0 : Expression) → in_expression (e.Await x0) ≡ expression_step (F.Await (in_expression x0))
unfolding in_declaration in_expression in_member in_case in_field
found_Await x0 = ap in_expression (sym (e.rolls-Await x0)) ∙ fold-roll-Expression Declared Whole Member InScope Entry declaration_step expression_step declaration_field_step case_step expression_field_step (F.Await x0)

pub found_Throw : (x0 : Expression) → in_expression (e.Throw x0) ≡ expression_step (F.Throw (in_expression x0))
unfolding in_declaration in_expression in_member in_case in_field
found_Throw x0 = ap in_expression (sym (e.rolls-Throw x0)) ∙ fold-roll-Expression Declared Whole Member InScope Entry declaration_step expression_step declaration_field_step case_step expression_field_step (F.Throw x0)

pub found_Try : (x0 : Expression) (x1 : Pattern) (x2 : Expression) → in_expression (e.Try x0 x1 x2) ≡ expression_step (F.Try (in_expression x0) x1 (in_expression x2))
unfolding in_declaration in_expression in_member in_case in_field
found_Try x0 x1 x2 = ap in_expression (sym (e.rolls-Try x0 x1 x2)) ∙ fold-roll-Expression Declared Whole Member InScope Entry declaration_step expression_step declaration_field_step case_step expression_field_step (F.Try x0 x1 x2)

pub found_Assert : (x0 : Expression) → in_expression (e.Assert x0) ≡ expression_step (F.Assert (in_expression x0))
unfolding in_declaration in_expression in_member in_case in_field
found_Assert x0 = ap in_expression (sym (e.rolls-Assert x0)) ∙ fold-roll-Expression Declared Whole Member InScope Entry declaration_step expression_step declaration_field_step case_step expression_field_step (F.Assert x0)

pub found_Ignore : (x0 : Expression) → in_expression (e.Ignore x0) ≡ expression_step (F.Ignore (in_expression x0))
unfolding in_declaration in_expression in_member in_case in_field
found_Ignore x0 = ap in_expression (sym (e.rolls-Ignore x0)) ∙ fold-roll-Expression Declared Whole Member InScope Entry declaration_step expression_step declaration_field_step case_step expression_field_step (F.Ignore x0)

pub found_Debug : (x0 : Expression) → in_expression (e.Debug x0) ≡ expression_step (F.Debug (in_expression x0))
unfolding in_declaration in_expression in_member in_case in_field
found_Debug x0 = ap in_expression (sym (e.rolls-Debug x0)) ∙ fold-roll-Expression Declared Whole Member InScope Entry declaration_step expression_step declaration_field_step case_step expression_field_step (F.Debug x0)

pub found_Function : (x0 : Parameters) (x1 : Option TypeExpression) (x2 : Bool) (x3 : Expression) → in_expression (e.Function x0 x1 x2 x3) ≡ expression_step (F.Function x0 x1 x2 (in_expression x3))
unfolding in_declaration in_expression in_member in_case in_field
found_Function x0 x1 x2 x3 = ap in_expression (sym (e.rolls-Function x0 x1 x2 x3)) ∙ fold-roll-Expression Declared Whole Member InScope Entry declaration_step expression_step declaration_field_step case_step expression_field_step (F.Function x0 x1 x2 x3)

pub found_ObjectBlock : (x0 : List DeclarationField) (x1 : Bool) → in_expression (e.ObjectBlock x0 x1) ≡ expression_step (F.ObjectBlock (map in_member x0) x1)
unfolding in_declaration in_expression in_member in_case in_field
found_ObjectBlock x0 x1 = ap in_expression (sym (e.rolls-ObjectBlock x0 x1)) ∙ fold-roll-Expression Declared Whole Member InScope Entry declaration_step expression_step declaration_field_step case_step expression_field_step (F.ObjectBlock x0 x1)

pub found_Optional : (x0 : Expression) → in_expression (e.Optional x0) ≡ expression_step (F.Optional (in_expression x0))
unfolding in_declaration in_expression in_member in_case in_field
found_Optional x0 = ap in_expression (sym (e.rolls-Optional x0)) ∙ fold-roll-Expression Declared Whole Member InScope Entry declaration_step expression_step declaration_field_step case_step expression_field_step (F.Optional x0)

pub found_Negative : (x0 : Expression) → in_expression (e.Negative x0) ≡ expression_step (F.Negative (in_expression x0))
unfolding in_declaration in_expression in_member in_case in_field
found_Negative x0 = ap in_expression (sym (e.rolls-Negative x0)) ∙ fold-roll-Expression Declared Whole Member InScope Entry declaration_step expression_step declaration_field_step case_step expression_field_step (F.Negative x0)

pub found_Not : (x0 : Expression) → in_expression (e.Not x0) ≡ expression_step (F.Not (in_expression x0))
unfolding in_declaration in_expression in_member in_case in_field
found_Not x0 = ap in_expression (sym (e.rolls-Not x0)) ∙ fold-roll-Expression Declared Whole Member InScope Entry declaration_step expression_step declaration_field_step case_step expression_field_step (F.Not x0)

pub found_Tagged : (x0 : Name) (x1 : Option Expression) → in_expression (e.Tagged x0 x1) ≡ expression_step (F.Tagged x0 (option_map in_expression x1))
unfolding in_declaration in_expression in_member in_case in_field
found_Tagged x0 None = ap in_expression (sym (e.rolls-Tagged x0 None)) ∙ fold-roll-Expression Declared Whole Member InScope Entry declaration_step expression_step declaration_field_step case_step expression_field_step (F.Tagged x0 None)
found_Tagged x0 (Some x1) = ap in_expression (sym (e.rolls-Tagged x0 (Some x1))) ∙ fold-roll-Expression Declared Whole Member InScope Entry declaration_step expression_step declaration_field_step case_step expression_field_step (F.Tagged x0 (Some x1))

pub found_Member : (x0 : Expression) (x1 : Name) → in_expression (e.Member x0 x1) ≡ expression_step (F.Member (in_expression x0) x1)
unfolding in_declaration in_expression in_member in_case in_field
found_Member x0 x1 = ap in_expression (sym (e.rolls-Member x0 x1)) ∙ fold-roll-Expression Declared Whole Member InScope Entry declaration_step expression_step declaration_field_step case_step expression_field_step (F.Member x0 x1)

pub found_Projection : (x0 : Expression) (x1 : ℕ) → in_expression (e.Projection x0 x1) ≡ expression_step (F.Projection (in_expression x0) x1)
unfolding in_declaration in_expression in_member in_case in_field
found_Projection x0 x1 = ap in_expression (sym (e.rolls-Projection x0 x1)) ∙ fold-roll-Expression Declared Whole Member InScope Entry declaration_step expression_step declaration_field_step case_step expression_field_step (F.Projection x0 x1)

pub found_Index : (x0 : Expression) (x1 : Expression) → in_expression (e.Index x0 x1) ≡ expression_step (F.Index (in_expression x0) (in_expression x1))
unfolding in_declaration in_expression in_member in_case in_field
found_Index x0 x1 = ap in_expression (sym (e.rolls-Index x0 x1)) ∙ fold-roll-Expression Declared Whole Member InScope Entry declaration_step expression_step declaration_field_step case_step expression_field_step (F.Index x0 x1)

pub found_Call : (x0 : Expression) (x1 : Option (List TypeExpression)) (x2 : List Expression) → in_expression (e.Call x0 x1 x2) ≡ expression_step (F.Call (in_expression x0) x1 (map in_expression x2))
unfolding in_declaration in_expression in_member in_case in_field
found_Call x0 x1 x2 = ap in_expression (sym (e.rolls-Call x0 x1 x2)) ∙ fold-roll-Expression Declared Whole Member InScope Entry declaration_step expression_step declaration_field_step case_step expression_field_step (F.Call x0 x1 x2)

pub found_Bang : (x0 : Expression) → in_expression (e.Bang x0) ≡ expression_step (F.Bang (in_expression x0))
unfolding in_declaration in_expression in_member in_case in_field
found_Bang x0 = ap in_expression (sym (e.rolls-Bang x0)) ∙ fold-roll-Expression Declared Whole Member InScope Entry declaration_step expression_step declaration_field_step case_step expression_field_step (F.Bang x0)

pub found_Constant : (x0 : Literal) → in_expression (e.Constant x0) ≡ expression_step (F.Constant x0)
unfolding in_declaration in_expression in_member in_case in_field
found_Constant x0 = ap in_expression (sym (e.rolls-Constant x0)) ∙ fold-roll-Expression Declared Whole Member InScope Entry declaration_step expression_step declaration_field_step case_step expression_field_step (F.Constant x0)

pub found_Variable : (x0 : Name) → in_expression (e.Variable x0) ≡ expression_step (F.Variable x0)
unfolding in_declaration in_expression in_member in_case in_field
found_Variable x0 = ap in_expression (sym (e.rolls-Variable x0)) ∙ fold-roll-Expression Declared Whole Member InScope Entry declaration_step expression_step declaration_field_step case_step expression_field_step (F.Variable x0)

pub found_Parenthesized : (x0 : List Expression) → in_expression (e.Parenthesized x0) ≡ expression_step (F.Parenthesized (map in_expression x0))
unfolding in_declaration in_expression in_member in_case in_field
found_Parenthesized x0 = ap in_expression (sym (e.rolls-Parenthesized x0)) ∙ fold-roll-Expression Declared Whole Member InScope Entry declaration_step expression_step declaration_field_step case_step expression_field_step (F.Parenthesized x0)

pub found_Array : (x0 : Bool) (x1 : List Expression) → in_expression (e.Array x0 x1) ≡ expression_step (F.Array x0 (map in_expression x1))
unfolding in_declaration in_expression in_member in_case in_field
found_Array x0 x1 = ap in_expression (sym (e.rolls-Array x0 x1)) ∙ fold-roll-Expression Declared Whole Member InScope Entry declaration_step expression_step declaration_field_step case_step expression_field_step (F.Array x0 x1)

pub found_Object : (x0 : List ExpressionField) (x1 : Bool) → in_expression (e.Object x0 x1) ≡ expression_step (F.Object (map in_field x0) x1)
unfolding in_declaration in_expression in_member in_case in_field
found_Object x0 x1 = ap in_expression (sym (e.rolls-Object x0 x1)) ∙ fold-roll-Expression Declared Whole Member InScope Entry declaration_step expression_step declaration_field_step case_step expression_field_step (F.Object x0 x1)

pub found_ActorReference : (x0 : Bool) (x1 : Text) → in_expression (e.ActorReference x0 x1) ≡ expression_step (F.ActorReference x0 x1)
unfolding in_declaration in_expression in_member in_case in_field
found_ActorReference x0 x1 = ap in_expression (sym (e.rolls-ActorReference x0 x1)) ∙ fold-roll-Expression Declared Whole Member InScope Entry declaration_step expression_step declaration_field_step case_step expression_field_step (F.ActorReference x0 x1)

pub found_Block : (x0 : List Declaration) (x1 : Bool) → in_expression (e.Block x0 x1) ≡ expression_step (F.Block (map in_declaration x0) x1)
unfolding in_declaration in_expression in_member in_case in_field
found_Block x0 x1 = ap in_expression (sym (e.rolls-Block x0 x1)) ∙ fold-roll-Expression Declared Whole Member InScope Entry declaration_step expression_step declaration_field_step case_step expression_field_step (F.Block x0 x1)

pub found_DeclarationField : (visibility : Option Visibility) (declaration : Declaration) → in_member (roll-DeclarationField (record { visibility = visibility; declaration = declaration })) ≡ declaration_field_step (record { visibility = visibility; declaration = (in_declaration declaration) })
unfolding in_declaration in_expression in_member in_case in_field
found_DeclarationField visibility declaration = fold-roll-DeclarationField Declared Whole Member InScope Entry declaration_step expression_step declaration_field_step case_step expression_field_step (record { visibility = visibility; declaration = declaration })

pub found_Case : (pattern : Pattern) (body : Expression) → in_case (roll-Case (record { pattern = pattern; body = body })) ≡ case_step (record { pattern = pattern; body = (in_expression body) })
unfolding in_declaration in_expression in_member in_case in_field
found_Case pattern body = fold-roll-Case Declared Whole Member InScope Entry declaration_step expression_step declaration_field_step case_step expression_field_step (record { pattern = pattern; body = body })

pub found_ExpressionField : (mutable : Bool) (name : Name) (annotation : Option TypeExpression) (value : Option Expression) → in_field (roll-ExpressionField (record { mutable = mutable; name = name; annotation = annotation; value = value })) ≡ expression_field_step (record { mutable = mutable; name = name; annotation = annotation; value = (option_map in_expression value) })
unfolding in_declaration in_expression in_member in_case in_field
found_ExpressionField mutable name annotation None = fold-roll-ExpressionField Declared Whole Member InScope Entry declaration_step expression_step declaration_field_step case_step expression_field_step (record { mutable = mutable; name = name; annotation = annotation; value = None })
found_ExpressionField mutable name annotation (Some value) = fold-roll-ExpressionField Declared Whole Member InScope Entry declaration_step expression_step declaration_field_step case_step expression_field_step (record { mutable = mutable; name = name; annotation = annotation; value = (Some value) })
