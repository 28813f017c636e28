-- The equations of the writing and of the grammar, at each kind of tree.
use Rattle.std.proofs.Common.{◌≡◌, ℕ, ◌≤◌, Bool, true, false, List, Option, Some, None, refl, ap, ◌∙◌, sym, map, option_map}
use Rattle.mo_syntax.specs.declared.name.Name.{Name}
use Rattle.mo_syntax.specs.declared.text.Text.{Text}
use Rattle.mo_syntax.specs.declared.declarations.Visibility.{Visibility}
use Rattle.mo_syntax.specs.declared.token.TokenKind.{TokenKind}
use Rattle.mo_syntax.specs.declared.token.TokenKind.TheVariants as t
use Rattle.mo_syntax.specs.declared.mark.Mark.TheVariants as m
use Rattle.mo_syntax.specs.declared.types.TypeExpression.{TypeExpression}
use Rattle.mo_syntax.specs.declared.types.TypeParameter.{TypeParameter}
use Rattle.mo_syntax.specs.declared.patterns.Pattern.{Pattern}
use Rattle.mo_syntax.specs.declared.patterns.Parameters.{Parameters}
use Rattle.mo_syntax.specs.declared.literal.Literal.{Literal}
use Rattle.mo_syntax.specs.declared.operators.BinaryOperator.{BinaryOperator}
use Rattle.mo_syntax.specs.declared.operators.AssignmentOperator.{AssignmentOperator}
use Rattle.mo_syntax.specs.TypeGrammar.{IsType, AreTypeParameters}
use Rattle.mo_syntax.specs.PatternGrammar.{AreParameters}
use Rattle.mo_syntax.specs.ExpressionGrammar.{behind_last}
use Rattle.mo_syntax.specs.declared.declarations.Declaration.{Declaration, Declaration-F, roll-Declaration, fold-roll-Declaration, rec-roll-Declaration, map-Declaration}
use Rattle.mo_syntax.specs.declared.declarations.Declaration.TheVariants as d
use Rattle.mo_syntax.specs.declared.expressions.Expression.{Expression, Expression-F, roll-Expression, fold-roll-Expression, rec-roll-Expression, map-Expression}
use Rattle.mo_syntax.specs.declared.expressions.Expression.TheVariants as e
use Rattle.mo_syntax.specs.declared.declarations.DeclarationField.{DeclarationField, roll-DeclarationField, fold-roll-DeclarationField, rec-roll-DeclarationField, map-DeclarationField}
use Rattle.mo_syntax.specs.declared.expressions.Case.{Case, roll-Case, fold-roll-Case, rec-roll-Case, map-Case}
use Rattle.mo_syntax.specs.declared.expressions.ExpressionField.{ExpressionField, roll-ExpressionField, fold-roll-ExpressionField, rec-roll-ExpressionField, map-ExpressionField}
use Rattle.mo_syntax.specs.declared.declarations.Declaration.TheOpen as F
use Rattle.mo_syntax.specs.Writing.{Writing}
use Rattle.mo_syntax.specs.Parts.{Each}
use Rattle.mo_syntax.specs.ExpressionGrammar.{declaration_tokens, expression_tokens, declaration_field_tokens, case_tokens, expression_field_tokens, declaration_step, expression_step, declaration_field_step, case_step, expression_field_step, declaration_rule, expression_rule, declaration_field_rule, case_rule, expression_field_rule, IsDeclaration, IsExpression, IsDeclarationField, IsCase, IsExpressionField}
use Rattle.mo_syntax.proofs.Mapped.{Listed-map, MayEnd-map}

-- ---- the writing

pub tokens_Let : (x0 : Pattern) (x1 : Expression) → declaration_tokens (d.Let x0 x1) ≡ declaration_step (F.Let x0 (expression_tokens x1))
unfolding declaration_tokens expression_tokens declaration_field_tokens case_tokens expression_field_tokens
tokens_Let x0 x1 = ap declaration_tokens (sym (d.rolls-Let x0 x1)) ∙ fold-roll-Declaration Writing Writing Writing Writing Writing declaration_step expression_step declaration_field_step case_step expression_field_step (F.Let x0 x1)

pub tokens_Var : (x0 : Name) (x1 : Option TypeExpression) (x2 : Expression) → declaration_tokens (d.Var x0 x1 x2) ≡ declaration_step (F.Var x0 x1 (expression_tokens x2))
unfolding declaration_tokens expression_tokens declaration_field_tokens case_tokens expression_field_tokens
tokens_Var x0 x1 x2 = ap declaration_tokens (sym (d.rolls-Var x0 x1 x2)) ∙ fold-roll-Declaration Writing Writing Writing Writing Writing declaration_step expression_step declaration_field_step case_step expression_field_step (F.Var x0 x1 x2)

pub tokens_Func : (x0 : Name) (x1 : Option (List TypeParameter)) (x2 : Parameters) (x3 : Option TypeExpression) (x4 : Bool) (x5 : Expression) → declaration_tokens (d.Func x0 x1 x2 x3 x4 x5) ≡ declaration_step (F.Func x0 x1 x2 x3 x4 (expression_tokens x5))
unfolding declaration_tokens expression_tokens declaration_field_tokens case_tokens expression_field_tokens
tokens_Func x0 x1 x2 x3 x4 x5 = ap declaration_tokens (sym (d.rolls-Func x0 x1 x2 x3 x4 x5)) ∙ fold-roll-Declaration Writing Writing Writing Writing Writing declaration_step expression_step declaration_field_step case_step expression_field_step (F.Func x0 x1 x2 x3 x4 x5)

pub tokens_TypeAlias : (x0 : Name) (x1 : Option (List Name)) (x2 : TypeExpression) → declaration_tokens (d.TypeAlias x0 x1 x2) ≡ declaration_step (F.TypeAlias x0 x1 x2)
unfolding declaration_tokens expression_tokens declaration_field_tokens case_tokens expression_field_tokens
tokens_TypeAlias x0 x1 x2 = ap declaration_tokens (sym (d.rolls-TypeAlias x0 x1 x2)) ∙ fold-roll-Declaration Writing Writing Writing Writing Writing declaration_step expression_step declaration_field_step case_step expression_field_step (F.TypeAlias x0 x1 x2)

pub tokens_Class : (x0 : Name) (x1 : Option (List TypeParameter)) (x2 : Parameters) (x3 : List DeclarationField) (x4 : Bool) → declaration_tokens (d.Class x0 x1 x2 x3 x4) ≡ declaration_step (F.Class x0 x1 x2 (map declaration_field_tokens x3) x4)
unfolding declaration_tokens expression_tokens declaration_field_tokens case_tokens expression_field_tokens
tokens_Class x0 x1 x2 x3 x4 = ap declaration_tokens (sym (d.rolls-Class x0 x1 x2 x3 x4)) ∙ fold-roll-Declaration Writing Writing Writing Writing Writing declaration_step expression_step declaration_field_step case_step expression_field_step (F.Class x0 x1 x2 x3 x4)

pub tokens_NamedObject : (x0 : Name) (x1 : List DeclarationField) (x2 : Bool) → declaration_tokens (d.NamedObject x0 x1 x2) ≡ declaration_step (F.NamedObject x0 (map declaration_field_tokens x1) x2)
unfolding declaration_tokens expression_tokens declaration_field_tokens case_tokens expression_field_tokens
tokens_NamedObject x0 x1 x2 = ap declaration_tokens (sym (d.rolls-NamedObject x0 x1 x2)) ∙ fold-roll-Declaration Writing Writing Writing Writing Writing declaration_step expression_step declaration_field_step case_step expression_field_step (F.NamedObject x0 x1 x2)

pub tokens_Evaluate : (x0 : Expression) → declaration_tokens (d.Evaluate x0) ≡ declaration_step (F.Evaluate (expression_tokens x0))
unfolding declaration_tokens expression_tokens declaration_field_tokens case_tokens expression_field_tokens
tokens_Evaluate x0 = ap declaration_tokens (sym (d.rolls-Evaluate x0)) ∙ fold-roll-Declaration Writing Writing Writing Writing Writing declaration_step expression_step declaration_field_step case_step expression_field_step (F.Evaluate x0)

pub tokens_Assign : (x0 : AssignmentOperator) (x1 : Expression) (x2 : Expression) → expression_tokens (e.Assign x0 x1 x2) ≡ expression_step (F.Assign x0 (expression_tokens x1) (expression_tokens x2))
unfolding declaration_tokens expression_tokens declaration_field_tokens case_tokens expression_field_tokens
tokens_Assign x0 x1 x2 = ap expression_tokens (sym (e.rolls-Assign x0 x1 x2)) ∙ fold-roll-Expression Writing Writing Writing Writing Writing declaration_step expression_step declaration_field_step case_step expression_field_step (F.Assign x0 x1 x2)

pub tokens_Annotated : (x0 : Expression) (x1 : TypeExpression) → expression_tokens (e.Annotated x0 x1) ≡ expression_step (F.Annotated (expression_tokens x0) x1)
unfolding declaration_tokens expression_tokens declaration_field_tokens case_tokens expression_field_tokens
tokens_Annotated x0 x1 = ap expression_tokens (sym (e.rolls-Annotated x0 x1)) ∙ fold-roll-Expression Writing Writing Writing Writing Writing declaration_step expression_step declaration_field_step case_step expression_field_step (F.Annotated x0 x1)

pub tokens_Binary : (x0 : BinaryOperator) (x1 : Expression) (x2 : Expression) → expression_tokens (e.Binary x0 x1 x2) ≡ expression_step (F.Binary x0 (expression_tokens x1) (expression_tokens x2))
unfolding declaration_tokens expression_tokens declaration_field_tokens case_tokens expression_field_tokens
tokens_Binary x0 x1 x2 = ap expression_tokens (sym (e.rolls-Binary x0 x1 x2)) ∙ fold-roll-Expression Writing Writing Writing Writing Writing declaration_step expression_step declaration_field_step case_step expression_field_step (F.Binary x0 x1 x2)

pub tokens_If : (x0 : Expression) (x1 : Expression) (x2 : Option Expression) → expression_tokens (e.If x0 x1 x2) ≡ expression_step (F.If (expression_tokens x0) (expression_tokens x1) (option_map expression_tokens x2))
unfolding declaration_tokens expression_tokens declaration_field_tokens case_tokens expression_field_tokens
tokens_If x0 x1 None = ap expression_tokens (sym (e.rolls-If x0 x1 None)) ∙ fold-roll-Expression Writing Writing Writing Writing Writing declaration_step expression_step declaration_field_step case_step expression_field_step (F.If x0 x1 None)
tokens_If x0 x1 (Some x2) = ap expression_tokens (sym (e.rolls-If x0 x1 (Some x2))) ∙ fold-roll-Expression Writing Writing Writing Writing Writing declaration_step expression_step declaration_field_step case_step expression_field_step (F.If x0 x1 (Some x2))

pub tokens_Switch : (x0 : Expression) (x1 : List Case) (x2 : Bool) → expression_tokens (e.Switch x0 x1 x2) ≡ expression_step (F.Switch (expression_tokens x0) (map case_tokens x1) x2)
unfolding declaration_tokens expression_tokens declaration_field_tokens case_tokens expression_field_tokens
tokens_Switch x0 x1 x2 = ap expression_tokens (sym (e.rolls-Switch x0 x1 x2)) ∙ fold-roll-Expression Writing Writing Writing Writing Writing declaration_step expression_step declaration_field_step case_step expression_field_step (F.Switch x0 x1 x2)

pub tokens_While : (x0 : Expression) (x1 : Expression) → expression_tokens (e.While x0 x1) ≡ expression_step (F.While (expression_tokens x0) (expression_tokens x1))
unfolding declaration_tokens expression_tokens declaration_field_tokens case_tokens expression_field_tokens
tokens_While x0 x1 = ap expression_tokens (sym (e.rolls-While x0 x1)) ∙ fold-roll-Expression Writing Writing Writing Writing Writing declaration_step expression_step declaration_field_step case_step expression_field_step (F.While x0 x1)

pub tokens_Loop : (x0 : Expression) (x1 : Option Expression) → expression_tokens (e.Loop x0 x1) ≡ expression_step (F.Loop (expression_tokens x0) (option_map expression_tokens x1))
unfolding declaration_tokens expression_tokens declaration_field_tokens case_tokens expression_field_tokens
tokens_Loop x0 None = ap expression_tokens (sym (e.rolls-Loop x0 None)) ∙ fold-roll-Expression Writing Writing Writing Writing Writing declaration_step expression_step declaration_field_step case_step expression_field_step (F.Loop x0 None)
tokens_Loop x0 (Some x1) = ap expression_tokens (sym (e.rolls-Loop x0 (Some x1))) ∙ fold-roll-Expression Writing Writing Writing Writing Writing declaration_step expression_step declaration_field_step case_step expression_field_step (F.Loop x0 (Some x1))

pub tokens_For : (x0 : Pattern) (x1 : Expression) (x2 : Expression) → expression_tokens (e.For x0 x1 x2) ≡ expression_step (F.For x0 (expression_tokens x1) (expression_tokens x2))
unfolding declaration_tokens expression_tokens declaration_field_tokens case_tokens expression_field_tokens
tokens_For x0 x1 x2 = ap expression_tokens (sym (e.rolls-For x0 x1 x2)) ∙ fold-roll-Expression Writing Writing Writing Writing Writing declaration_step expression_step declaration_field_step case_step expression_field_step (F.For x0 x1 x2)

pub tokens_Label : (x0 : Name) (x1 : Option TypeExpression) (x2 : Expression) → expression_tokens (e.Label x0 x1 x2) ≡ expression_step (F.Label x0 x1 (expression_tokens x2))
unfolding declaration_tokens expression_tokens declaration_field_tokens case_tokens expression_field_tokens
tokens_Label x0 x1 x2 = ap expression_tokens (sym (e.rolls-Label x0 x1 x2)) ∙ fold-roll-Expression Writing Writing Writing Writing Writing declaration_step expression_step declaration_field_step case_step expression_field_step (F.Label x0 x1 x2)

pub tokens_Break : (x0 : Name) (x1 : Option Expression) → expression_tokens (e.Break x0 x1) ≡ expression_step (F.Break x0 (option_map expression_tokens x1))
unfolding declaration_tokens expression_tokens declaration_field_tokens case_tokens expression_field_tokens
tokens_Break x0 None = ap expression_tokens (sym (e.rolls-Break x0 None)) ∙ fold-roll-Expression Writing Writing Writing Writing Writing declaration_step expression_step declaration_field_step case_step expression_field_step (F.Break x0 None)
tokens_Break x0 (Some x1) = ap expression_tokens (sym (e.rolls-Break x0 (Some x1))) ∙ fold-roll-Expression Writing Writing Writing Writing Writing declaration_step expression_step declaration_field_step case_step expression_field_step (F.Break x0 (Some x1))

pub tokens_Continue : (x0 : Name) → expression_tokens (e.Continue x0) ≡ expression_step (F.Continue x0)
unfolding declaration_tokens expression_tokens declaration_field_tokens case_tokens expression_field_tokens
tokens_Continue x0 = ap expression_tokens (sym (e.rolls-Continue x0)) ∙ fold-roll-Expression Writing Writing Writing Writing Writing declaration_step expression_step declaration_field_step case_step expression_field_step (F.Continue x0)

pub tokens_Return : (x0 : Option Expression) → expression_tokens (e.Return x0) ≡ expression_step (F.Return (option_map expression_tokens x0))
unfolding declaration_tokens expression_tokens declaration_field_tokens case_tokens expression_field_tokens
tokens_Return None = ap expression_tokens (sym (e.rolls-Return None)) ∙ fold-roll-Expression Writing Writing Writing Writing Writing declaration_step expression_step declaration_field_step case_step expression_field_step (F.Return None)
tokens_Return (Some x0) = ap expression_tokens (sym (e.rolls-Return (Some x0))) ∙ fold-roll-Expression Writing Writing Writing Writing Writing declaration_step expression_step declaration_field_step case_step expression_field_step (F.Return (Some x0))

pub tokens_Do : (x0 : Expression) → expression_tokens (e.Do x0) ≡ expression_step (F.Do (expression_tokens x0))
unfolding declaration_tokens expression_tokens declaration_field_tokens case_tokens expression_field_tokens
tokens_Do x0 = ap expression_tokens (sym (e.rolls-Do x0)) ∙ fold-roll-Expression Writing Writing Writing Writing Writing declaration_step expression_step declaration_field_step case_step expression_field_step (F.Do x0)

pub tokens_DoOptional : (x0 : Expression) → expression_tokens (e.DoOptional x0) ≡ expression_step (F.DoOptional (expression_tokens x0))
unfolding declaration_tokens expression_tokens declaration_field_tokens case_tokens expression_field_tokens
tokens_DoOptional x0 = ap expression_tokens (sym (e.rolls-DoOptional x0)) ∙ fold-roll-Expression Writing Writing Writing Writing Writing declaration_step expression_step declaration_field_step case_step expression_field_step (F.DoOptional x0)

pub tokens_Await : (x0 : Expression) → expression_tokens (e.Await x0) ≡ expression_step (F.Await (expression_tokens x0))
unfolding declaration_tokens expression_tokens declaration_field_tokens case_tokens expression_field_tokens
tokens_Await x0 = ap expression_tokens (sym (e.rolls-Await x0)) ∙ fold-roll-Expression Writing Writing Writing Writing Writing declaration_step expression_step declaration_field_step case_step expression_field_step (F.Await x0)

pub tokens_Throw : (x0 : Expression) → expression_tokens (e.Throw x0) ≡ expression_step (F.Throw (expression_tokens x0))
unfolding declaration_tokens expression_tokens declaration_field_tokens case_tokens expression_field_tokens
tokens_Throw x0 = ap expression_tokens (sym (e.rolls-Throw x0)) ∙ fold-roll-Expression Writing Writing Writing Writing Writing declaration_step expression_step declaration_field_step case_step expression_field_step (F.Throw x0)

pub tokens_Try : (x0 : Expression) (x1 : Pattern) (x2 : Expression) → expression_tokens (e.Try x0 x1 x2) ≡ expression_step (F.Try (expression_tokens x0) x1 (expression_tokens x2))
unfolding declaration_tokens expression_tokens declaration_field_tokens case_tokens expression_field_tokens
tokens_Try x0 x1 x2 = ap expression_tokens (sym (e.rolls-Try x0 x1 x2)) ∙ fold-roll-Expression Writing Writing Writing Writing Writing declaration_step expression_step declaration_field_step case_step expression_field_step (F.Try x0 x1 x2)

pub tokens_Assert : (x0 : Expression) → expression_tokens (e.Assert x0) ≡ expression_step (F.Assert (expression_tokens x0))
unfolding declaration_tokens expression_tokens declaration_field_tokens case_tokens expression_field_tokens
tokens_Assert x0 = ap expression_tokens (sym (e.rolls-Assert x0)) ∙ fold-roll-Expression Writing Writing Writing Writing Writing declaration_step expression_step declaration_field_step case_step expression_field_step (F.Assert x0)

pub tokens_Ignore : (x0 : Expression) → expression_tokens (e.Ignore x0) ≡ expression_step (F.Ignore (expression_tokens x0))
unfolding declaration_tokens expression_tokens declaration_field_tokens case_tokens expression_field_tokens
tokens_Ignore x0 = ap expression_tokens (sym (e.rolls-Ignore x0)) ∙ fold-roll-Expression Writing Writing Writing Writing Writing declaration_step expression_step declaration_field_step case_step expression_field_step (F.Ignore x0)

pub tokens_Debug : (x0 : Expression) → expression_tokens (e.Debug x0) ≡ expression_step (F.Debug (expression_tokens x0))
unfolding declaration_tokens expression_tokens declaration_field_tokens case_tokens expression_field_tokens
tokens_Debug x0 = ap expression_tokens (sym (e.rolls-Debug x0)) ∙ fold-roll-Expression Writing Writing Writing Writing Writing declaration_step expression_step declaration_field_step case_step expression_field_step (F.Debug x0)

pub tokens_Function : (x0 : Parameters) (x1 : Option TypeExpression) (x2 : Bool) (x3 : Expression) → expression_tokens (e.Function x0 x1 x2 x3) ≡ expression_step (F.Function x0 x1 x2 (expression_tokens x3))
unfolding declaration_tokens expression_tokens declaration_field_tokens case_tokens expression_field_tokens
tokens_Function x0 x1 x2 x3 = ap expression_tokens (sym (e.rolls-Function x0 x1 x2 x3)) ∙ fold-roll-Expression Writing Writing Writing Writing Writing declaration_step expression_step declaration_field_step case_step expression_field_step (F.Function x0 x1 x2 x3)

pub tokens_ObjectBlock : (x0 : List DeclarationField) (x1 : Bool) → expression_tokens (e.ObjectBlock x0 x1) ≡ expression_step (F.ObjectBlock (map declaration_field_tokens x0) x1)
unfolding declaration_tokens expression_tokens declaration_field_tokens case_tokens expression_field_tokens
tokens_ObjectBlock x0 x1 = ap expression_tokens (sym (e.rolls-ObjectBlock x0 x1)) ∙ fold-roll-Expression Writing Writing Writing Writing Writing declaration_step expression_step declaration_field_step case_step expression_field_step (F.ObjectBlock x0 x1)

pub tokens_Optional : (x0 : Expression) → expression_tokens (e.Optional x0) ≡ expression_step (F.Optional (expression_tokens x0))
unfolding declaration_tokens expression_tokens declaration_field_tokens case_tokens expression_field_tokens
tokens_Optional x0 = ap expression_tokens (sym (e.rolls-Optional x0)) ∙ fold-roll-Expression Writing Writing Writing Writing Writing declaration_step expression_step declaration_field_step case_step expression_field_step (F.Optional x0)

pub tokens_Negative : (x0 : Expression) → expression_tokens (e.Negative x0) ≡ expression_step (F.Negative (expression_tokens x0))
unfolding declaration_tokens expression_tokens declaration_field_tokens case_tokens expression_field_tokens
tokens_Negative x0 = ap expression_tokens (sym (e.rolls-Negative x0)) ∙ fold-roll-Expression Writing Writing Writing Writing Writing declaration_step expression_step declaration_field_step case_step expression_field_step (F.Negative x0)

pub tokens_Not : (x0 : Expression) → expression_tokens (e.Not x0) ≡ expression_step (F.Not (expression_tokens x0))
unfolding declaration_tokens expression_tokens declaration_field_tokens case_tokens expression_field_tokens
tokens_Not x0 = ap expression_tokens (sym (e.rolls-Not x0)) ∙ fold-roll-Expression Writing Writing Writing Writing Writing declaration_step expression_step declaration_field_step case_step expression_field_step (F.Not x0)

pub tokens_Tagged : (x0 : Name) (x1 : Option Expression) → expression_tokens (e.Tagged x0 x1) ≡ expression_step (F.Tagged x0 (option_map expression_tokens x1))
unfolding declaration_tokens expression_tokens declaration_field_tokens case_tokens expression_field_tokens
tokens_Tagged x0 None = ap expression_tokens (sym (e.rolls-Tagged x0 None)) ∙ fold-roll-Expression Writing Writing Writing Writing Writing declaration_step expression_step declaration_field_step case_step expression_field_step (F.Tagged x0 None)
tokens_Tagged x0 (Some x1) = ap expression_tokens (sym (e.rolls-Tagged x0 (Some x1))) ∙ fold-roll-Expression Writing Writing Writing Writing Writing declaration_step expression_step declaration_field_step case_step expression_field_step (F.Tagged x0 (Some x1))

pub tokens_Member : (x0 : Expression) (x1 : Name) → expression_tokens (e.Member x0 x1) ≡ expression_step (F.Member (expression_tokens x0) x1)
unfolding declaration_tokens expression_tokens declaration_field_tokens case_tokens expression_field_tokens
tokens_Member x0 x1 = ap expression_tokens (sym (e.rolls-Member x0 x1)) ∙ fold-roll-Expression Writing Writing Writing Writing Writing declaration_step expression_step declaration_field_step case_step expression_field_step (F.Member x0 x1)

pub tokens_Projection : (x0 : Expression) (x1 : ℕ) → expression_tokens (e.Projection x0 x1) ≡ expression_step (F.Projection (expression_tokens x0) x1)
unfolding declaration_tokens expression_tokens declaration_field_tokens case_tokens expression_field_tokens
tokens_Projection x0 x1 = ap expression_tokens (sym (e.rolls-Projection x0 x1)) ∙ fold-roll-Expression Writing Writing Writing Writing Writing declaration_step expression_step declaration_field_step case_step expression_field_step (F.Projection x0 x1)

pub tokens_Index : (x0 : Expression) (x1 : Expression) → expression_tokens (e.Index x0 x1) ≡ expression_step (F.Index (expression_tokens x0) (expression_tokens x1))
unfolding declaration_tokens expression_tokens declaration_field_tokens case_tokens expression_field_tokens
tokens_Index x0 x1 = ap expression_tokens (sym (e.rolls-Index x0 x1)) ∙ fold-roll-Expression Writing Writing Writing Writing Writing declaration_step expression_step declaration_field_step case_step expression_field_step (F.Index x0 x1)

pub tokens_Call : (x0 : Expression) (x1 : Option (List TypeExpression)) (x2 : List Expression) → expression_tokens (e.Call x0 x1 x2) ≡ expression_step (F.Call (expression_tokens x0) x1 (map expression_tokens x2))
unfolding declaration_tokens expression_tokens declaration_field_tokens case_tokens expression_field_tokens
tokens_Call x0 x1 x2 = ap expression_tokens (sym (e.rolls-Call x0 x1 x2)) ∙ fold-roll-Expression Writing Writing Writing Writing Writing declaration_step expression_step declaration_field_step case_step expression_field_step (F.Call x0 x1 x2)

pub tokens_Bang : (x0 : Expression) → expression_tokens (e.Bang x0) ≡ expression_step (F.Bang (expression_tokens x0))
unfolding declaration_tokens expression_tokens declaration_field_tokens case_tokens expression_field_tokens
tokens_Bang x0 = ap expression_tokens (sym (e.rolls-Bang x0)) ∙ fold-roll-Expression Writing Writing Writing Writing Writing declaration_step expression_step declaration_field_step case_step expression_field_step (F.Bang x0)

pub tokens_Constant : (x0 : Literal) → expression_tokens (e.Constant x0) ≡ expression_step (F.Constant x0)
unfolding declaration_tokens expression_tokens declaration_field_tokens case_tokens expression_field_tokens
tokens_Constant x0 = ap expression_tokens (sym (e.rolls-Constant x0)) ∙ fold-roll-Expression Writing Writing Writing Writing Writing declaration_step expression_step declaration_field_step case_step expression_field_step (F.Constant x0)

pub tokens_Variable : (x0 : Name) → expression_tokens (e.Variable x0) ≡ expression_step (F.Variable x0)
unfolding declaration_tokens expression_tokens declaration_field_tokens case_tokens expression_field_tokens
tokens_Variable x0 = ap expression_tokens (sym (e.rolls-Variable x0)) ∙ fold-roll-Expression Writing Writing Writing Writing Writing declaration_step expression_step declaration_field_step case_step expression_field_step (F.Variable x0)

pub tokens_Parenthesized : (x0 : List Expression) → expression_tokens (e.Parenthesized x0) ≡ expression_step (F.Parenthesized (map expression_tokens x0))
unfolding declaration_tokens expression_tokens declaration_field_tokens case_tokens expression_field_tokens
tokens_Parenthesized x0 = ap expression_tokens (sym (e.rolls-Parenthesized x0)) ∙ fold-roll-Expression Writing Writing Writing Writing Writing declaration_step expression_step declaration_field_step case_step expression_field_step (F.Parenthesized x0)

pub tokens_Array : (x0 : Bool) (x1 : List Expression) → expression_tokens (e.Array x0 x1) ≡ expression_step (F.Array x0 (map expression_tokens x1))
unfolding declaration_tokens expression_tokens declaration_field_tokens case_tokens expression_field_tokens
tokens_Array x0 x1 = ap expression_tokens (sym (e.rolls-Array x0 x1)) ∙ fold-roll-Expression Writing Writing Writing Writing Writing declaration_step expression_step declaration_field_step case_step expression_field_step (F.Array x0 x1)

pub tokens_Object : (x0 : List ExpressionField) (x1 : Bool) → expression_tokens (e.Object x0 x1) ≡ expression_step (F.Object (map expression_field_tokens x0) x1)
unfolding declaration_tokens expression_tokens declaration_field_tokens case_tokens expression_field_tokens
tokens_Object x0 x1 = ap expression_tokens (sym (e.rolls-Object x0 x1)) ∙ fold-roll-Expression Writing Writing Writing Writing Writing declaration_step expression_step declaration_field_step case_step expression_field_step (F.Object x0 x1)

pub tokens_ActorReference : (x0 : Bool) (x1 : Text) → expression_tokens (e.ActorReference x0 x1) ≡ expression_step (F.ActorReference x0 x1)
unfolding declaration_tokens expression_tokens declaration_field_tokens case_tokens expression_field_tokens
tokens_ActorReference x0 x1 = ap expression_tokens (sym (e.rolls-ActorReference x0 x1)) ∙ fold-roll-Expression Writing Writing Writing Writing Writing declaration_step expression_step declaration_field_step case_step expression_field_step (F.ActorReference x0 x1)

pub tokens_Block : (x0 : List Declaration) (x1 : Bool) → expression_tokens (e.Block x0 x1) ≡ expression_step (F.Block (map declaration_tokens x0) x1)
unfolding declaration_tokens expression_tokens declaration_field_tokens case_tokens expression_field_tokens
tokens_Block x0 x1 = ap expression_tokens (sym (e.rolls-Block x0 x1)) ∙ fold-roll-Expression Writing Writing Writing Writing Writing declaration_step expression_step declaration_field_step case_step expression_field_step (F.Block x0 x1)

pub tokens_DeclarationField : (visibility : Option Visibility) (declaration : Declaration) → declaration_field_tokens (roll-DeclarationField (record { visibility = visibility; declaration = declaration })) ≡ declaration_field_step (record { visibility = visibility; declaration = (declaration_tokens declaration) })
unfolding declaration_tokens expression_tokens declaration_field_tokens case_tokens expression_field_tokens
tokens_DeclarationField visibility declaration = fold-roll-DeclarationField Writing Writing Writing Writing Writing declaration_step expression_step declaration_field_step case_step expression_field_step (record { visibility = visibility; declaration = declaration })

pub tokens_Case : (pattern : Pattern) (body : Expression) → case_tokens (roll-Case (record { pattern = pattern; body = body })) ≡ case_step (record { pattern = pattern; body = (expression_tokens body) })
unfolding declaration_tokens expression_tokens declaration_field_tokens case_tokens expression_field_tokens
tokens_Case pattern body = fold-roll-Case Writing Writing Writing Writing Writing declaration_step expression_step declaration_field_step case_step expression_field_step (record { pattern = pattern; body = body })

pub tokens_ExpressionField : (mutable : Bool) (name : Name) (annotation : Option TypeExpression) (value : Option Expression) → expression_field_tokens (roll-ExpressionField (record { mutable = mutable; name = name; annotation = annotation; value = value })) ≡ expression_field_step (record { mutable = mutable; name = name; annotation = annotation; value = (option_map expression_tokens value) })
unfolding declaration_tokens expression_tokens declaration_field_tokens case_tokens expression_field_tokens
tokens_ExpressionField mutable name annotation None = fold-roll-ExpressionField Writing Writing Writing Writing Writing declaration_step expression_step declaration_field_step case_step expression_field_step (record { mutable = mutable; name = name; annotation = annotation; value = None })
tokens_ExpressionField mutable name annotation (Some value) = fold-roll-ExpressionField Writing Writing Writing Writing Writing declaration_step expression_step declaration_field_step case_step expression_field_step (record { mutable = mutable; name = name; annotation = annotation; value = (Some value) })

-- ---- the grammar

abbrev DeclarationSteps : (A B C D E : Type 0) (v0 : A → Declaration) (v1 : B → Expression) (v2 : C → DeclarationField) (v3 : D → Case) (v4 : E → ExpressionField) (q0 : Declaration → Option TokenKind → Type 0) (q1 : Expression → ℕ → Option TokenKind → Type 0) (q2 : DeclarationField → Option TokenKind → Type 0) (q3 : Case → Option TokenKind → Type 0) (q4 : ExpressionField → Option TokenKind → Type 0) → Declaration-F A B C D E → Type 1
DeclarationSteps A B C D E v0 v1 v2 v3 v4 q0 q1 q2 q3 q4 x =
    declaration_rule A B C D E (λ a. expression_tokens (v1 a)) (λ p. q0 (v0 p)) (λ p. q1 (v1 p)) (λ p. q2 (v2 p)) (λ p. q3 (v3 p)) (λ p. q4 (v4 p)) x ≡ declaration_rule Declaration Expression DeclarationField Case ExpressionField expression_tokens q0 q1 q2 q3 q4 (map-Declaration A B C D E Declaration Expression DeclarationField Case ExpressionField v0 v1 v2 v3 v4 x)

Declaration_steps : (A B C D E : Type 0) (v0 : A → Declaration) (v1 : B → Expression) (v2 : C → DeclarationField) (v3 : D → Case) (v4 : E → ExpressionField) (q0 : Declaration → Option TokenKind → Type 0) (q1 : Expression → ℕ → Option TokenKind → Type 0) (q2 : DeclarationField → Option TokenKind → Type 0) (q3 : Case → Option TokenKind → Type 0) (q4 : ExpressionField → Option TokenKind → Type 0) (x : Declaration-F A B C D E) → DeclarationSteps A B C D E v0 v1 v2 v3 v4 q0 q1 q2 q3 q4 x
Declaration_steps A B C D E v0 v1 v2 v3 v4 q0 q1 q2 q3 q4 (F.Let x0 x1) = refl
Declaration_steps A B C D E v0 v1 v2 v3 v4 q0 q1 q2 q3 q4 (F.Var x0 x1 x2) = refl
Declaration_steps A B C D E v0 v1 v2 v3 v4 q0 q1 q2 q3 q4 (F.Func x0 x1 x2 x3 true x5) = refl
Declaration_steps A B C D E v0 v1 v2 v3 v4 q0 q1 q2 q3 q4 (F.Func x0 x1 x2 x3 false x5) = refl
Declaration_steps A B C D E v0 v1 v2 v3 v4 q0 q1 q2 q3 q4 (F.TypeAlias x0 x1 x2) = refl
Declaration_steps A B C D E v0 v1 v2 v3 v4 q0 q1 q2 q3 q4 (F.Class x0 x1 x2 x3 x4) = λ i next. AreTypeParameters x1 × AreParameters x2 × (Listed-map (λ x token. q2 x (Some token)) v2 (t.Mark m.Semicolon) (behind_last x4) x3 i × MayEnd-map v2 x3 x4 i)
Declaration_steps A B C D E v0 v1 v2 v3 v4 q0 q1 q2 q3 q4 (F.NamedObject x0 x1 x2) = λ i next. Listed-map (λ x token. q2 x (Some token)) v2 (t.Mark m.Semicolon) (behind_last x2) x1 i × MayEnd-map v2 x1 x2 i
Declaration_steps A B C D E v0 v1 v2 v3 v4 q0 q1 q2 q3 q4 (F.Evaluate x0) = refl

abbrev ExpressionSteps : (A B C D E : Type 0) (v0 : A → Declaration) (v1 : B → Expression) (v2 : C → DeclarationField) (v3 : D → Case) (v4 : E → ExpressionField) (q0 : Declaration → Option TokenKind → Type 0) (q1 : Expression → ℕ → Option TokenKind → Type 0) (q2 : DeclarationField → Option TokenKind → Type 0) (q3 : Case → Option TokenKind → Type 0) (q4 : ExpressionField → Option TokenKind → Type 0) → Expression-F A B C D E → Type 1
ExpressionSteps A B C D E v0 v1 v2 v3 v4 q0 q1 q2 q3 q4 x =
    expression_rule A B C D E (λ a. expression_tokens (v1 a)) (λ p. q0 (v0 p)) (λ p. q1 (v1 p)) (λ p. q2 (v2 p)) (λ p. q3 (v3 p)) (λ p. q4 (v4 p)) x ≡ expression_rule Declaration Expression DeclarationField Case ExpressionField expression_tokens q0 q1 q2 q3 q4 (map-Expression A B C D E Declaration Expression DeclarationField Case ExpressionField v0 v1 v2 v3 v4 x)

Expression_steps : (A B C D E : Type 0) (v0 : A → Declaration) (v1 : B → Expression) (v2 : C → DeclarationField) (v3 : D → Case) (v4 : E → ExpressionField) (q0 : Declaration → Option TokenKind → Type 0) (q1 : Expression → ℕ → Option TokenKind → Type 0) (q2 : DeclarationField → Option TokenKind → Type 0) (q3 : Case → Option TokenKind → Type 0) (q4 : ExpressionField → Option TokenKind → Type 0) (x : Expression-F A B C D E) → ExpressionSteps A B C D E v0 v1 v2 v3 v4 q0 q1 q2 q3 q4 x
Expression_steps A B C D E v0 v1 v2 v3 v4 q0 q1 q2 q3 q4 (F.Assign x0 x1 x2) = refl
Expression_steps A B C D E v0 v1 v2 v3 v4 q0 q1 q2 q3 q4 (F.Annotated x0 x1) = refl
Expression_steps A B C D E v0 v1 v2 v3 v4 q0 q1 q2 q3 q4 (F.Binary x0 x1 x2) = refl
Expression_steps A B C D E v0 v1 v2 v3 v4 q0 q1 q2 q3 q4 (F.If x0 x1 None) = refl
Expression_steps A B C D E v0 v1 v2 v3 v4 q0 q1 q2 q3 q4 (F.If x0 x1 (Some x2)) = refl
Expression_steps A B C D E v0 v1 v2 v3 v4 q0 q1 q2 q3 q4 (F.Switch x0 x1 x2) = λ i l next. (l ≡ 0) × q1 (v1 x0) 10 None × (Listed-map (λ x token. q3 x (Some token)) v3 (t.Mark m.Semicolon) (behind_last x2) x1 i × MayEnd-map v3 x1 x2 i)
Expression_steps A B C D E v0 v1 v2 v3 v4 q0 q1 q2 q3 q4 (F.While x0 x1) = refl
Expression_steps A B C D E v0 v1 v2 v3 v4 q0 q1 q2 q3 q4 (F.Loop x0 None) = refl
Expression_steps A B C D E v0 v1 v2 v3 v4 q0 q1 q2 q3 q4 (F.Loop x0 (Some x1)) = refl
Expression_steps A B C D E v0 v1 v2 v3 v4 q0 q1 q2 q3 q4 (F.For x0 x1 x2) = refl
Expression_steps A B C D E v0 v1 v2 v3 v4 q0 q1 q2 q3 q4 (F.Label x0 x1 x2) = refl
Expression_steps A B C D E v0 v1 v2 v3 v4 q0 q1 q2 q3 q4 (F.Break x0 None) = refl
Expression_steps A B C D E v0 v1 v2 v3 v4 q0 q1 q2 q3 q4 (F.Break x0 (Some x1)) = refl
Expression_steps A B C D E v0 v1 v2 v3 v4 q0 q1 q2 q3 q4 (F.Continue x0) = refl
Expression_steps A B C D E v0 v1 v2 v3 v4 q0 q1 q2 q3 q4 (F.Return None) = refl
Expression_steps A B C D E v0 v1 v2 v3 v4 q0 q1 q2 q3 q4 (F.Return (Some x0)) = refl
Expression_steps A B C D E v0 v1 v2 v3 v4 q0 q1 q2 q3 q4 (F.Do x0) = refl
Expression_steps A B C D E v0 v1 v2 v3 v4 q0 q1 q2 q3 q4 (F.DoOptional x0) = refl
Expression_steps A B C D E v0 v1 v2 v3 v4 q0 q1 q2 q3 q4 (F.Await x0) = refl
Expression_steps A B C D E v0 v1 v2 v3 v4 q0 q1 q2 q3 q4 (F.Throw x0) = refl
Expression_steps A B C D E v0 v1 v2 v3 v4 q0 q1 q2 q3 q4 (F.Try x0 x1 x2) = refl
Expression_steps A B C D E v0 v1 v2 v3 v4 q0 q1 q2 q3 q4 (F.Assert x0) = refl
Expression_steps A B C D E v0 v1 v2 v3 v4 q0 q1 q2 q3 q4 (F.Ignore x0) = refl
Expression_steps A B C D E v0 v1 v2 v3 v4 q0 q1 q2 q3 q4 (F.Debug x0) = refl
Expression_steps A B C D E v0 v1 v2 v3 v4 q0 q1 q2 q3 q4 (F.Function x0 x1 true x3) = refl
Expression_steps A B C D E v0 v1 v2 v3 v4 q0 q1 q2 q3 q4 (F.Function x0 x1 false x3) = refl
Expression_steps A B C D E v0 v1 v2 v3 v4 q0 q1 q2 q3 q4 (F.ObjectBlock x0 x1) = λ i l next. (l ≡ 0) × (Listed-map (λ x token. q2 x (Some token)) v2 (t.Mark m.Semicolon) (behind_last x1) x0 i × MayEnd-map v2 x0 x1 i)
Expression_steps A B C D E v0 v1 v2 v3 v4 q0 q1 q2 q3 q4 (F.Optional x0) = refl
Expression_steps A B C D E v0 v1 v2 v3 v4 q0 q1 q2 q3 q4 (F.Negative x0) = refl
Expression_steps A B C D E v0 v1 v2 v3 v4 q0 q1 q2 q3 q4 (F.Not x0) = refl
Expression_steps A B C D E v0 v1 v2 v3 v4 q0 q1 q2 q3 q4 (F.Tagged x0 None) = refl
Expression_steps A B C D E v0 v1 v2 v3 v4 q0 q1 q2 q3 q4 (F.Tagged x0 (Some x1)) = refl
Expression_steps A B C D E v0 v1 v2 v3 v4 q0 q1 q2 q3 q4 (F.Member x0 x1) = refl
Expression_steps A B C D E v0 v1 v2 v3 v4 q0 q1 q2 q3 q4 (F.Projection x0 x1) = refl
Expression_steps A B C D E v0 v1 v2 v3 v4 q0 q1 q2 q3 q4 (F.Index x0 x1) = refl
Expression_steps A B C D E v0 v1 v2 v3 v4 q0 q1 q2 q3 q4 (F.Call x0 None x2) = λ i l next. (l ≤ 9) × q1 (v1 x0) 9 (Some (t.Mark m.ParenOpen)) × Listed-map (λ x token. q1 x 0 (Some token)) v1 (t.Mark m.Comma) (t.Mark m.ParenClose) x2 i
Expression_steps A B C D E v0 v1 v2 v3 v4 q0 q1 q2 q3 q4 (F.Call x0 (Some x1) x2) = λ i l next. (l ≤ 9) × q1 (v1 x0) 9 (Some (t.Mark m.AngleOpen)) × Each (λ b. IsType b 0) x1 × Listed-map (λ x token. q1 x 0 (Some token)) v1 (t.Mark m.Comma) (t.Mark m.ParenClose) x2 i
Expression_steps A B C D E v0 v1 v2 v3 v4 q0 q1 q2 q3 q4 (F.Bang x0) = refl
Expression_steps A B C D E v0 v1 v2 v3 v4 q0 q1 q2 q3 q4 (F.Constant x0) = refl
Expression_steps A B C D E v0 v1 v2 v3 v4 q0 q1 q2 q3 q4 (F.Variable x0) = refl
Expression_steps A B C D E v0 v1 v2 v3 v4 q0 q1 q2 q3 q4 (F.Parenthesized x0) = λ i l next. (l ≤ 10) × Listed-map (λ x token. q1 x 0 (Some token)) v1 (t.Mark m.Comma) (t.Mark m.ParenClose) x0 i
Expression_steps A B C D E v0 v1 v2 v3 v4 q0 q1 q2 q3 q4 (F.Array x0 x1) = λ i l next. (l ≤ 9) × Listed-map (λ x token. q1 x 0 (Some token)) v1 (t.Mark m.Comma) (t.Mark m.BracketClose) x1 i
Expression_steps A B C D E v0 v1 v2 v3 v4 q0 q1 q2 q3 q4 (F.Object x0 x1) = λ i l next. (l ≤ 9) × (Listed-map (λ x token. q4 x (Some token)) v4 (t.Mark m.Semicolon) (behind_last x1) x0 i × MayEnd-map v4 x0 x1 i)
Expression_steps A B C D E v0 v1 v2 v3 v4 q0 q1 q2 q3 q4 (F.ActorReference x0 x1) = refl
Expression_steps A B C D E v0 v1 v2 v3 v4 q0 q1 q2 q3 q4 (F.Block x0 x1) = λ i l next. (l ≡ 11) × (Listed-map (λ x token. q0 x (Some token)) v0 (t.Mark m.Semicolon) (behind_last x1) x0 i × MayEnd-map v0 x0 x1 i)

abbrev DeclarationFieldSteps : (A B C D E : Type 0) (v0 : A → Declaration) (v1 : B → Expression) (v2 : C → DeclarationField) (v3 : D → Case) (v4 : E → ExpressionField) (q0 : Declaration → Option TokenKind → Type 0) (q1 : Expression → ℕ → Option TokenKind → Type 0) (q2 : DeclarationField → Option TokenKind → Type 0) (q3 : Case → Option TokenKind → Type 0) (q4 : ExpressionField → Option TokenKind → Type 0) → F.DeclarationField-F A B C D E → Type 1
DeclarationFieldSteps A B C D E v0 v1 v2 v3 v4 q0 q1 q2 q3 q4 x =
    declaration_field_rule A B C D E (λ a. expression_tokens (v1 a)) (λ p. q0 (v0 p)) (λ p. q1 (v1 p)) (λ p. q2 (v2 p)) (λ p. q3 (v3 p)) (λ p. q4 (v4 p)) x ≡ declaration_field_rule Declaration Expression DeclarationField Case ExpressionField expression_tokens q0 q1 q2 q3 q4 (map-DeclarationField A B C D E Declaration Expression DeclarationField Case ExpressionField v0 v1 v2 v3 v4 x)

DeclarationField_steps : (A B C D E : Type 0) (v0 : A → Declaration) (v1 : B → Expression) (v2 : C → DeclarationField) (v3 : D → Case) (v4 : E → ExpressionField) (q0 : Declaration → Option TokenKind → Type 0) (q1 : Expression → ℕ → Option TokenKind → Type 0) (q2 : DeclarationField → Option TokenKind → Type 0) (q3 : Case → Option TokenKind → Type 0) (q4 : ExpressionField → Option TokenKind → Type 0) (x : F.DeclarationField-F A B C D E) → DeclarationFieldSteps A B C D E v0 v1 v2 v3 v4 q0 q1 q2 q3 q4 x
DeclarationField_steps A B C D E v0 v1 v2 v3 v4 q0 q1 q2 q3 q4 x = refl

abbrev CaseSteps : (A B C D E : Type 0) (v0 : A → Declaration) (v1 : B → Expression) (v2 : C → DeclarationField) (v3 : D → Case) (v4 : E → ExpressionField) (q0 : Declaration → Option TokenKind → Type 0) (q1 : Expression → ℕ → Option TokenKind → Type 0) (q2 : DeclarationField → Option TokenKind → Type 0) (q3 : Case → Option TokenKind → Type 0) (q4 : ExpressionField → Option TokenKind → Type 0) → F.Case-F A B C D E → Type 1
CaseSteps A B C D E v0 v1 v2 v3 v4 q0 q1 q2 q3 q4 x =
    case_rule A B C D E (λ a. expression_tokens (v1 a)) (λ p. q0 (v0 p)) (λ p. q1 (v1 p)) (λ p. q2 (v2 p)) (λ p. q3 (v3 p)) (λ p. q4 (v4 p)) x ≡ case_rule Declaration Expression DeclarationField Case ExpressionField expression_tokens q0 q1 q2 q3 q4 (map-Case A B C D E Declaration Expression DeclarationField Case ExpressionField v0 v1 v2 v3 v4 x)

Case_steps : (A B C D E : Type 0) (v0 : A → Declaration) (v1 : B → Expression) (v2 : C → DeclarationField) (v3 : D → Case) (v4 : E → ExpressionField) (q0 : Declaration → Option TokenKind → Type 0) (q1 : Expression → ℕ → Option TokenKind → Type 0) (q2 : DeclarationField → Option TokenKind → Type 0) (q3 : Case → Option TokenKind → Type 0) (q4 : ExpressionField → Option TokenKind → Type 0) (x : F.Case-F A B C D E) → CaseSteps A B C D E v0 v1 v2 v3 v4 q0 q1 q2 q3 q4 x
Case_steps A B C D E v0 v1 v2 v3 v4 q0 q1 q2 q3 q4 x = refl

abbrev ExpressionFieldSteps : (A B C D E : Type 0) (v0 : A → Declaration) (v1 : B → Expression) (v2 : C → DeclarationField) (v3 : D → Case) (v4 : E → ExpressionField) (q0 : Declaration → Option TokenKind → Type 0) (q1 : Expression → ℕ → Option TokenKind → Type 0) (q2 : DeclarationField → Option TokenKind → Type 0) (q3 : Case → Option TokenKind → Type 0) (q4 : ExpressionField → Option TokenKind → Type 0) → F.ExpressionField-F A B C D E → Type 1
ExpressionFieldSteps A B C D E v0 v1 v2 v3 v4 q0 q1 q2 q3 q4 x =
    expression_field_rule A B C D E (λ a. expression_tokens (v1 a)) (λ p. q0 (v0 p)) (λ p. q1 (v1 p)) (λ p. q2 (v2 p)) (λ p. q3 (v3 p)) (λ p. q4 (v4 p)) x ≡ expression_field_rule Declaration Expression DeclarationField Case ExpressionField expression_tokens q0 q1 q2 q3 q4 (map-ExpressionField A B C D E Declaration Expression DeclarationField Case ExpressionField v0 v1 v2 v3 v4 x)

ExpressionField_cases : (A B C D E : Type 0) (v0 : A → Declaration) (v1 : B → Expression) (v2 : C → DeclarationField) (v3 : D → Case) (v4 : E → ExpressionField) (q0 : Declaration → Option TokenKind → Type 0) (q1 : Expression → ℕ → Option TokenKind → Type 0) (q2 : DeclarationField → Option TokenKind → Type 0) (q3 : Case → Option TokenKind → Type 0) (q4 : ExpressionField → Option TokenKind → Type 0) (mutable_ : Bool) (name_ : Name) (annotation_ : Option TypeExpression) (value_ : Option B) → ExpressionFieldSteps A B C D E v0 v1 v2 v3 v4 q0 q1 q2 q3 q4 (record { mutable = mutable_; name = name_; annotation = annotation_; value = value_ })
ExpressionField_cases A B C D E v0 v1 v2 v3 v4 q0 q1 q2 q3 q4 mutable_ name_ annotation_ None = refl
ExpressionField_cases A B C D E v0 v1 v2 v3 v4 q0 q1 q2 q3 q4 mutable_ name_ annotation_ (Some y) = refl

ExpressionField_steps : (A B C D E : Type 0) (v0 : A → Declaration) (v1 : B → Expression) (v2 : C → DeclarationField) (v3 : D → Case) (v4 : E → ExpressionField) (q0 : Declaration → Option TokenKind → Type 0) (q1 : Expression → ℕ → Option TokenKind → Type 0) (q2 : DeclarationField → Option TokenKind → Type 0) (q3 : Case → Option TokenKind → Type 0) (q4 : ExpressionField → Option TokenKind → Type 0) (x : F.ExpressionField-F A B C D E) → ExpressionFieldSteps A B C D E v0 v1 v2 v3 v4 q0 q1 q2 q3 q4 x
ExpressionField_steps A B C D E v0 v1 v2 v3 v4 q0 q1 q2 q3 q4 x = ExpressionField_cases A B C D E v0 v1 v2 v3 v4 q0 q1 q2 q3 q4 x.mutable x.name x.annotation x.value

rule_Declaration : (x : Declaration-F Declaration Expression DeclarationField Case ExpressionField) → IsDeclaration (roll-Declaration x) ≡ declaration_rule Declaration Expression DeclarationField Case ExpressionField expression_tokens IsDeclaration IsExpression IsDeclarationField IsCase IsExpressionField x
unfolding IsDeclaration IsExpression IsDeclarationField IsCase IsExpressionField
rule_Declaration = rec-roll-Declaration (Option TokenKind → Type 0) (ℕ → Option TokenKind → Type 0) (Option TokenKind → Type 0) (Option TokenKind → Type 0) (Option TokenKind → Type 0)
    (λ A B C D E _ whole _ _ _. declaration_rule A B C D E (λ a. expression_tokens (whole a))) (λ A B C D E _ whole _ _ _. expression_rule A B C D E (λ a. expression_tokens (whole a))) (λ A B C D E _ whole _ _ _. declaration_field_rule A B C D E (λ a. expression_tokens (whole a))) (λ A B C D E _ whole _ _ _. case_rule A B C D E (λ a. expression_tokens (whole a))) (λ A B C D E _ whole _ _ _. expression_field_rule A B C D E (λ a. expression_tokens (whole a))) Declaration_steps

pub rule_Let : (x0 : Pattern) (x1 : Expression) → IsDeclaration (d.Let x0 x1) ≡ declaration_rule Declaration Expression DeclarationField Case ExpressionField expression_tokens IsDeclaration IsExpression IsDeclarationField IsCase IsExpressionField (F.Let x0 x1)
rule_Let x0 x1 = ap IsDeclaration (sym (d.rolls-Let x0 x1)) ∙ rule_Declaration (F.Let x0 x1)

pub rule_Var : (x0 : Name) (x1 : Option TypeExpression) (x2 : Expression) → IsDeclaration (d.Var x0 x1 x2) ≡ declaration_rule Declaration Expression DeclarationField Case ExpressionField expression_tokens IsDeclaration IsExpression IsDeclarationField IsCase IsExpressionField (F.Var x0 x1 x2)
rule_Var x0 x1 x2 = ap IsDeclaration (sym (d.rolls-Var x0 x1 x2)) ∙ rule_Declaration (F.Var x0 x1 x2)

pub rule_Func : (x0 : Name) (x1 : Option (List TypeParameter)) (x2 : Parameters) (x3 : Option TypeExpression) (x4 : Bool) (x5 : Expression) → IsDeclaration (d.Func x0 x1 x2 x3 x4 x5) ≡ declaration_rule Declaration Expression DeclarationField Case ExpressionField expression_tokens IsDeclaration IsExpression IsDeclarationField IsCase IsExpressionField (F.Func x0 x1 x2 x3 x4 x5)
rule_Func x0 x1 x2 x3 x4 x5 = ap IsDeclaration (sym (d.rolls-Func x0 x1 x2 x3 x4 x5)) ∙ rule_Declaration (F.Func x0 x1 x2 x3 x4 x5)

pub rule_TypeAlias : (x0 : Name) (x1 : Option (List Name)) (x2 : TypeExpression) → IsDeclaration (d.TypeAlias x0 x1 x2) ≡ declaration_rule Declaration Expression DeclarationField Case ExpressionField expression_tokens IsDeclaration IsExpression IsDeclarationField IsCase IsExpressionField (F.TypeAlias x0 x1 x2)
rule_TypeAlias x0 x1 x2 = ap IsDeclaration (sym (d.rolls-TypeAlias x0 x1 x2)) ∙ rule_Declaration (F.TypeAlias x0 x1 x2)

pub rule_Class : (x0 : Name) (x1 : Option (List TypeParameter)) (x2 : Parameters) (x3 : List DeclarationField) (x4 : Bool) → IsDeclaration (d.Class x0 x1 x2 x3 x4) ≡ declaration_rule Declaration Expression DeclarationField Case ExpressionField expression_tokens IsDeclaration IsExpression IsDeclarationField IsCase IsExpressionField (F.Class x0 x1 x2 x3 x4)
rule_Class x0 x1 x2 x3 x4 = ap IsDeclaration (sym (d.rolls-Class x0 x1 x2 x3 x4)) ∙ rule_Declaration (F.Class x0 x1 x2 x3 x4)

pub rule_NamedObject : (x0 : Name) (x1 : List DeclarationField) (x2 : Bool) → IsDeclaration (d.NamedObject x0 x1 x2) ≡ declaration_rule Declaration Expression DeclarationField Case ExpressionField expression_tokens IsDeclaration IsExpression IsDeclarationField IsCase IsExpressionField (F.NamedObject x0 x1 x2)
rule_NamedObject x0 x1 x2 = ap IsDeclaration (sym (d.rolls-NamedObject x0 x1 x2)) ∙ rule_Declaration (F.NamedObject x0 x1 x2)

pub rule_Evaluate : (x0 : Expression) → IsDeclaration (d.Evaluate x0) ≡ declaration_rule Declaration Expression DeclarationField Case ExpressionField expression_tokens IsDeclaration IsExpression IsDeclarationField IsCase IsExpressionField (F.Evaluate x0)
rule_Evaluate x0 = ap IsDeclaration (sym (d.rolls-Evaluate x0)) ∙ rule_Declaration (F.Evaluate x0)

rule_Expression : (x : Expression-F Declaration Expression DeclarationField Case ExpressionField) → IsExpression (roll-Expression x) ≡ expression_rule Declaration Expression DeclarationField Case ExpressionField expression_tokens IsDeclaration IsExpression IsDeclarationField IsCase IsExpressionField x
unfolding IsDeclaration IsExpression IsDeclarationField IsCase IsExpressionField
rule_Expression = rec-roll-Expression (Option TokenKind → Type 0) (ℕ → Option TokenKind → Type 0) (Option TokenKind → Type 0) (Option TokenKind → Type 0) (Option TokenKind → Type 0)
    (λ A B C D E _ whole _ _ _. declaration_rule A B C D E (λ a. expression_tokens (whole a))) (λ A B C D E _ whole _ _ _. expression_rule A B C D E (λ a. expression_tokens (whole a))) (λ A B C D E _ whole _ _ _. declaration_field_rule A B C D E (λ a. expression_tokens (whole a))) (λ A B C D E _ whole _ _ _. case_rule A B C D E (λ a. expression_tokens (whole a))) (λ A B C D E _ whole _ _ _. expression_field_rule A B C D E (λ a. expression_tokens (whole a))) Expression_steps

pub rule_Assign : (x0 : AssignmentOperator) (x1 : Expression) (x2 : Expression) → IsExpression (e.Assign x0 x1 x2) ≡ expression_rule Declaration Expression DeclarationField Case ExpressionField expression_tokens IsDeclaration IsExpression IsDeclarationField IsCase IsExpressionField (F.Assign x0 x1 x2)
rule_Assign x0 x1 x2 = ap IsExpression (sym (e.rolls-Assign x0 x1 x2)) ∙ rule_Expression (F.Assign x0 x1 x2)

pub rule_Annotated : (x0 : Expression) (x1 : TypeExpression) → IsExpression (e.Annotated x0 x1) ≡ expression_rule Declaration Expression DeclarationField Case ExpressionField expression_tokens IsDeclaration IsExpression IsDeclarationField IsCase IsExpressionField (F.Annotated x0 x1)
rule_Annotated x0 x1 = ap IsExpression (sym (e.rolls-Annotated x0 x1)) ∙ rule_Expression (F.Annotated x0 x1)

pub rule_Binary : (x0 : BinaryOperator) (x1 : Expression) (x2 : Expression) → IsExpression (e.Binary x0 x1 x2) ≡ expression_rule Declaration Expression DeclarationField Case ExpressionField expression_tokens IsDeclaration IsExpression IsDeclarationField IsCase IsExpressionField (F.Binary x0 x1 x2)
rule_Binary x0 x1 x2 = ap IsExpression (sym (e.rolls-Binary x0 x1 x2)) ∙ rule_Expression (F.Binary x0 x1 x2)

pub rule_If : (x0 : Expression) (x1 : Expression) (x2 : Option Expression) → IsExpression (e.If x0 x1 x2) ≡ expression_rule Declaration Expression DeclarationField Case ExpressionField expression_tokens IsDeclaration IsExpression IsDeclarationField IsCase IsExpressionField (F.If x0 x1 x2)
rule_If x0 x1 x2 = ap IsExpression (sym (e.rolls-If x0 x1 x2)) ∙ rule_Expression (F.If x0 x1 x2)

pub rule_Switch : (x0 : Expression) (x1 : List Case) (x2 : Bool) → IsExpression (e.Switch x0 x1 x2) ≡ expression_rule Declaration Expression DeclarationField Case ExpressionField expression_tokens IsDeclaration IsExpression IsDeclarationField IsCase IsExpressionField (F.Switch x0 x1 x2)
rule_Switch x0 x1 x2 = ap IsExpression (sym (e.rolls-Switch x0 x1 x2)) ∙ rule_Expression (F.Switch x0 x1 x2)

pub rule_While : (x0 : Expression) (x1 : Expression) → IsExpression (e.While x0 x1) ≡ expression_rule Declaration Expression DeclarationField Case ExpressionField expression_tokens IsDeclaration IsExpression IsDeclarationField IsCase IsExpressionField (F.While x0 x1)
rule_While x0 x1 = ap IsExpression (sym (e.rolls-While x0 x1)) ∙ rule_Expression (F.While x0 x1)

pub rule_Loop : (x0 : Expression) (x1 : Option Expression) → IsExpression (e.Loop x0 x1) ≡ expression_rule Declaration Expression DeclarationField Case ExpressionField expression_tokens IsDeclaration IsExpression IsDeclarationField IsCase IsExpressionField (F.Loop x0 x1)
rule_Loop x0 x1 = ap IsExpression (sym (e.rolls-Loop x0 x1)) ∙ rule_Expression (F.Loop x0 x1)

pub rule_For : (x0 : Pattern) (x1 : Expression) (x2 : Expression) → IsExpression (e.For x0 x1 x2) ≡ expression_rule Declaration Expression DeclarationField Case ExpressionField expression_tokens IsDeclaration IsExpression IsDeclarationField IsCase IsExpressionField (F.For x0 x1 x2)
rule_For x0 x1 x2 = ap IsExpression (sym (e.rolls-For x0 x1 x2)) ∙ rule_Expression (F.For x0 x1 x2)

pub rule_Label : (x0 : Name) (x1 : Option TypeExpression) (x2 : Expression) → IsExpression (e.Label x0 x1 x2) ≡ expression_rule Declaration Expression DeclarationField Case ExpressionField expression_tokens IsDeclaration IsExpression IsDeclarationField IsCase IsExpressionField (F.Label x0 x1 x2)
rule_Label x0 x1 x2 = ap IsExpression (sym (e.rolls-Label x0 x1 x2)) ∙ rule_Expression (F.Label x0 x1 x2)

pub rule_Break : (x0 : Name) (x1 : Option Expression) → IsExpression (e.Break x0 x1) ≡ expression_rule Declaration Expression DeclarationField Case ExpressionField expression_tokens IsDeclaration IsExpression IsDeclarationField IsCase IsExpressionField (F.Break x0 x1)
rule_Break x0 x1 = ap IsExpression (sym (e.rolls-Break x0 x1)) ∙ rule_Expression (F.Break x0 x1)

pub rule_Continue : (x0 : Name) → IsExpression (e.Continue x0) ≡ expression_rule Declaration Expression DeclarationField Case ExpressionField expression_tokens IsDeclaration IsExpression IsDeclarationField IsCase IsExpressionField (F.Continue x0)
rule_Continue x0 = ap IsExpression (sym (e.rolls-Continue x0)) ∙ rule_Expression (F.Continue x0)

pub rule_Return : (x0 : Option Expression) → IsExpression (e.Return x0) ≡ expression_rule Declaration Expression DeclarationField Case ExpressionField expression_tokens IsDeclaration IsExpression IsDeclarationField IsCase IsExpressionField (F.Return x0)
rule_Return x0 = ap IsExpression (sym (e.rolls-Return x0)) ∙ rule_Expression (F.Return x0)

pub rule_Do : (x0 : Expression) → IsExpression (e.Do x0) ≡ expression_rule Declaration Expression DeclarationField Case ExpressionField expression_tokens IsDeclaration IsExpression IsDeclarationField IsCase IsExpressionField (F.Do x0)
rule_Do x0 = ap IsExpression (sym (e.rolls-Do x0)) ∙ rule_Expression (F.Do x0)

pub rule_DoOptional : (x0 : Expression) → IsExpression (e.DoOptional x0) ≡ expression_rule Declaration Expression DeclarationField Case ExpressionField expression_tokens IsDeclaration IsExpression IsDeclarationField IsCase IsExpressionField (F.DoOptional x0)
rule_DoOptional x0 = ap IsExpression (sym (e.rolls-DoOptional x0)) ∙ rule_Expression (F.DoOptional x0)

pub rule_Await : (x0 : Expression) → IsExpression (e.Await x0) ≡ expression_rule Declaration Expression DeclarationField Case ExpressionField expression_tokens IsDeclaration IsExpression IsDeclarationField IsCase IsExpressionField (F.Await x0)
rule_Await x0 = ap IsExpression (sym (e.rolls-Await x0)) ∙ rule_Expression (F.Await x0)

pub rule_Throw : (x0 : Expression) → IsExpression (e.Throw x0) ≡ expression_rule Declaration Expression DeclarationField Case ExpressionField expression_tokens IsDeclaration IsExpression IsDeclarationField IsCase IsExpressionField (F.Throw x0)
rule_Throw x0 = ap IsExpression (sym (e.rolls-Throw x0)) ∙ rule_Expression (F.Throw x0)

pub rule_Try : (x0 : Expression) (x1 : Pattern) (x2 : Expression) → IsExpression (e.Try x0 x1 x2) ≡ expression_rule Declaration Expression DeclarationField Case ExpressionField expression_tokens IsDeclaration IsExpression IsDeclarationField IsCase IsExpressionField (F.Try x0 x1 x2)
rule_Try x0 x1 x2 = ap IsExpression (sym (e.rolls-Try x0 x1 x2)) ∙ rule_Expression (F.Try x0 x1 x2)

pub rule_Assert : (x0 : Expression) → IsExpression (e.Assert x0) ≡ expression_rule Declaration Expression DeclarationField Case ExpressionField expression_tokens IsDeclaration IsExpression IsDeclarationField IsCase IsExpressionField (F.Assert x0)
rule_Assert x0 = ap IsExpression (sym (e.rolls-Assert x0)) ∙ rule_Expression (F.Assert x0)

pub rule_Ignore : (x0 : Expression) → IsExpression (e.Ignore x0) ≡ expression_rule Declaration Expression DeclarationField Case ExpressionField expression_tokens IsDeclaration IsExpression IsDeclarationField IsCase IsExpressionField (F.Ignore x0)
rule_Ignore x0 = ap IsExpression (sym (e.rolls-Ignore x0)) ∙ rule_Expression (F.Ignore x0)

pub rule_Debug : (x0 : Expression) → IsExpression (e.Debug x0) ≡ expression_rule Declaration Expression DeclarationField Case ExpressionField expression_tokens IsDeclaration IsExpression IsDeclarationField IsCase IsExpressionField (F.Debug x0)
rule_Debug x0 = ap IsExpression (sym (e.rolls-Debug x0)) ∙ rule_Expression (F.Debug x0)

pub rule_Function : (x0 : Parameters) (x1 : Option TypeExpression) (x2 : Bool) (x3 : Expression) → IsExpression (e.Function x0 x1 x2 x3) ≡ expression_rule Declaration Expression DeclarationField Case ExpressionField expression_tokens IsDeclaration IsExpression IsDeclarationField IsCase IsExpressionField (F.Function x0 x1 x2 x3)
rule_Function x0 x1 x2 x3 = ap IsExpression (sym (e.rolls-Function x0 x1 x2 x3)) ∙ rule_Expression (F.Function x0 x1 x2 x3)

pub rule_ObjectBlock : (x0 : List DeclarationField) (x1 : Bool) → IsExpression (e.ObjectBlock x0 x1) ≡ expression_rule Declaration Expression DeclarationField Case ExpressionField expression_tokens IsDeclaration IsExpression IsDeclarationField IsCase IsExpressionField (F.ObjectBlock x0 x1)
rule_ObjectBlock x0 x1 = ap IsExpression (sym (e.rolls-ObjectBlock x0 x1)) ∙ rule_Expression (F.ObjectBlock x0 x1)

pub rule_Optional : (x0 : Expression) → IsExpression (e.Optional x0) ≡ expression_rule Declaration Expression DeclarationField Case ExpressionField expression_tokens IsDeclaration IsExpression IsDeclarationField IsCase IsExpressionField (F.Optional x0)
rule_Optional x0 = ap IsExpression (sym (e.rolls-Optional x0)) ∙ rule_Expression (F.Optional x0)

pub rule_Negative : (x0 : Expression) → IsExpression (e.Negative x0) ≡ expression_rule Declaration Expression DeclarationField Case ExpressionField expression_tokens IsDeclaration IsExpression IsDeclarationField IsCase IsExpressionField (F.Negative x0)
rule_Negative x0 = ap IsExpression (sym (e.rolls-Negative x0)) ∙ rule_Expression (F.Negative x0)

pub rule_Not : (x0 : Expression) → IsExpression (e.Not x0) ≡ expression_rule Declaration Expression DeclarationField Case ExpressionField expression_tokens IsDeclaration IsExpression IsDeclarationField IsCase IsExpressionField (F.Not x0)
rule_Not x0 = ap IsExpression (sym (e.rolls-Not x0)) ∙ rule_Expression (F.Not x0)

pub rule_Tagged : (x0 : Name) (x1 : Option Expression) → IsExpression (e.Tagged x0 x1) ≡ expression_rule Declaration Expression DeclarationField Case ExpressionField expression_tokens IsDeclaration IsExpression IsDeclarationField IsCase IsExpressionField (F.Tagged x0 x1)
rule_Tagged x0 x1 = ap IsExpression (sym (e.rolls-Tagged x0 x1)) ∙ rule_Expression (F.Tagged x0 x1)

pub rule_Member : (x0 : Expression) (x1 : Name) → IsExpression (e.Member x0 x1) ≡ expression_rule Declaration Expression DeclarationField Case ExpressionField expression_tokens IsDeclaration IsExpression IsDeclarationField IsCase IsExpressionField (F.Member x0 x1)
rule_Member x0 x1 = ap IsExpression (sym (e.rolls-Member x0 x1)) ∙ rule_Expression (F.Member x0 x1)

pub rule_Projection : (x0 : Expression) (x1 : ℕ) → IsExpression (e.Projection x0 x1) ≡ expression_rule Declaration Expression DeclarationField Case ExpressionField expression_tokens IsDeclaration IsExpression IsDeclarationField IsCase IsExpressionField (F.Projection x0 x1)
rule_Projection x0 x1 = ap IsExpression (sym (e.rolls-Projection x0 x1)) ∙ rule_Expression (F.Projection x0 x1)

pub rule_Index : (x0 : Expression) (x1 : Expression) → IsExpression (e.Index x0 x1) ≡ expression_rule Declaration Expression DeclarationField Case ExpressionField expression_tokens IsDeclaration IsExpression IsDeclarationField IsCase IsExpressionField (F.Index x0 x1)
rule_Index x0 x1 = ap IsExpression (sym (e.rolls-Index x0 x1)) ∙ rule_Expression (F.Index x0 x1)

pub rule_Call : (x0 : Expression) (x1 : Option (List TypeExpression)) (x2 : List Expression) → IsExpression (e.Call x0 x1 x2) ≡ expression_rule Declaration Expression DeclarationField Case ExpressionField expression_tokens IsDeclaration IsExpression IsDeclarationField IsCase IsExpressionField (F.Call x0 x1 x2)
rule_Call x0 x1 x2 = ap IsExpression (sym (e.rolls-Call x0 x1 x2)) ∙ rule_Expression (F.Call x0 x1 x2)

pub rule_Bang : (x0 : Expression) → IsExpression (e.Bang x0) ≡ expression_rule Declaration Expression DeclarationField Case ExpressionField expression_tokens IsDeclaration IsExpression IsDeclarationField IsCase IsExpressionField (F.Bang x0)
rule_Bang x0 = ap IsExpression (sym (e.rolls-Bang x0)) ∙ rule_Expression (F.Bang x0)

pub rule_Constant : (x0 : Literal) → IsExpression (e.Constant x0) ≡ expression_rule Declaration Expression DeclarationField Case ExpressionField expression_tokens IsDeclaration IsExpression IsDeclarationField IsCase IsExpressionField (F.Constant x0)
rule_Constant x0 = ap IsExpression (sym (e.rolls-Constant x0)) ∙ rule_Expression (F.Constant x0)

pub rule_Variable : (x0 : Name) → IsExpression (e.Variable x0) ≡ expression_rule Declaration Expression DeclarationField Case ExpressionField expression_tokens IsDeclaration IsExpression IsDeclarationField IsCase IsExpressionField (F.Variable x0)
rule_Variable x0 = ap IsExpression (sym (e.rolls-Variable x0)) ∙ rule_Expression (F.Variable x0)

pub rule_Parenthesized : (x0 : List Expression) → IsExpression (e.Parenthesized x0) ≡ expression_rule Declaration Expression DeclarationField Case ExpressionField expression_tokens IsDeclaration IsExpression IsDeclarationField IsCase IsExpressionField (F.Parenthesized x0)
rule_Parenthesized x0 = ap IsExpression (sym (e.rolls-Parenthesized x0)) ∙ rule_Expression (F.Parenthesized x0)

pub rule_Array : (x0 : Bool) (x1 : List Expression) → IsExpression (e.Array x0 x1) ≡ expression_rule Declaration Expression DeclarationField Case ExpressionField expression_tokens IsDeclaration IsExpression IsDeclarationField IsCase IsExpressionField (F.Array x0 x1)
rule_Array x0 x1 = ap IsExpression (sym (e.rolls-Array x0 x1)) ∙ rule_Expression (F.Array x0 x1)

pub rule_Object : (x0 : List ExpressionField) (x1 : Bool) → IsExpression (e.Object x0 x1) ≡ expression_rule Declaration Expression DeclarationField Case ExpressionField expression_tokens IsDeclaration IsExpression IsDeclarationField IsCase IsExpressionField (F.Object x0 x1)
rule_Object x0 x1 = ap IsExpression (sym (e.rolls-Object x0 x1)) ∙ rule_Expression (F.Object x0 x1)

pub rule_ActorReference : (x0 : Bool) (x1 : Text) → IsExpression (e.ActorReference x0 x1) ≡ expression_rule Declaration Expression DeclarationField Case ExpressionField expression_tokens IsDeclaration IsExpression IsDeclarationField IsCase IsExpressionField (F.ActorReference x0 x1)
rule_ActorReference x0 x1 = ap IsExpression (sym (e.rolls-ActorReference x0 x1)) ∙ rule_Expression (F.ActorReference x0 x1)

pub rule_Block : (x0 : List Declaration) (x1 : Bool) → IsExpression (e.Block x0 x1) ≡ expression_rule Declaration Expression DeclarationField Case ExpressionField expression_tokens IsDeclaration IsExpression IsDeclarationField IsCase IsExpressionField (F.Block x0 x1)
rule_Block x0 x1 = ap IsExpression (sym (e.rolls-Block x0 x1)) ∙ rule_Expression (F.Block x0 x1)

pub rule_DeclarationField : (x : F.DeclarationField-F Declaration Expression DeclarationField Case ExpressionField) → IsDeclarationField (roll-DeclarationField x) ≡ declaration_field_rule Declaration Expression DeclarationField Case ExpressionField expression_tokens IsDeclaration IsExpression IsDeclarationField IsCase IsExpressionField x
unfolding IsDeclaration IsExpression IsDeclarationField IsCase IsExpressionField
rule_DeclarationField = rec-roll-DeclarationField (Option TokenKind → Type 0) (ℕ → Option TokenKind → Type 0) (Option TokenKind → Type 0) (Option TokenKind → Type 0) (Option TokenKind → Type 0)
    (λ A B C D E _ whole _ _ _. declaration_rule A B C D E (λ a. expression_tokens (whole a))) (λ A B C D E _ whole _ _ _. expression_rule A B C D E (λ a. expression_tokens (whole a))) (λ A B C D E _ whole _ _ _. declaration_field_rule A B C D E (λ a. expression_tokens (whole a))) (λ A B C D E _ whole _ _ _. case_rule A B C D E (λ a. expression_tokens (whole a))) (λ A B C D E _ whole _ _ _. expression_field_rule A B C D E (λ a. expression_tokens (whole a))) DeclarationField_steps

pub rule_Case : (x : F.Case-F Declaration Expression DeclarationField Case ExpressionField) → IsCase (roll-Case x) ≡ case_rule Declaration Expression DeclarationField Case ExpressionField expression_tokens IsDeclaration IsExpression IsDeclarationField IsCase IsExpressionField x
unfolding IsDeclaration IsExpression IsDeclarationField IsCase IsExpressionField
rule_Case = rec-roll-Case (Option TokenKind → Type 0) (ℕ → Option TokenKind → Type 0) (Option TokenKind → Type 0) (Option TokenKind → Type 0) (Option TokenKind → Type 0)
    (λ A B C D E _ whole _ _ _. declaration_rule A B C D E (λ a. expression_tokens (whole a))) (λ A B C D E _ whole _ _ _. expression_rule A B C D E (λ a. expression_tokens (whole a))) (λ A B C D E _ whole _ _ _. declaration_field_rule A B C D E (λ a. expression_tokens (whole a))) (λ A B C D E _ whole _ _ _. case_rule A B C D E (λ a. expression_tokens (whole a))) (λ A B C D E _ whole _ _ _. expression_field_rule A B C D E (λ a. expression_tokens (whole a))) Case_steps

pub rule_ExpressionField : (x : F.ExpressionField-F Declaration Expression DeclarationField Case ExpressionField) → IsExpressionField (roll-ExpressionField x) ≡ expression_field_rule Declaration Expression DeclarationField Case ExpressionField expression_tokens IsDeclaration IsExpression IsDeclarationField IsCase IsExpressionField x
unfolding IsDeclaration IsExpression IsDeclarationField IsCase IsExpressionField
rule_ExpressionField = rec-roll-ExpressionField (Option TokenKind → Type 0) (ℕ → Option TokenKind → Type 0) (Option TokenKind → Type 0) (Option TokenKind → Type 0) (Option TokenKind → Type 0)
    (λ A B C D E _ whole _ _ _. declaration_rule A B C D E (λ a. expression_tokens (whole a))) (λ A B C D E _ whole _ _ _. expression_rule A B C D E (λ a. expression_tokens (whole a))) (λ A B C D E _ whole _ _ _. declaration_field_rule A B C D E (λ a. expression_tokens (whole a))) (λ A B C D E _ whole _ _ _. case_rule A B C D E (λ a. expression_tokens (whole a))) (λ A B C D E _ whole _ _ _. expression_field_rule A B C D E (λ a. expression_tokens (whole a))) ExpressionField_steps
