-- Induction over trees: what holds of a tree where it holds of its parts holds of each tree.
use Rattle.std.proofs.Common.{ℕ, Bool, List, Option, Some, None, subst, sym, map}
use Rattle.mo_syntax.specs.declared.name.Name.{Name}
use Rattle.mo_syntax.specs.declared.text.Text.{Text}
use Rattle.mo_syntax.specs.declared.declarations.Visibility.{Visibility}
use Rattle.mo_syntax.specs.declared.types.TypeExpression.{TypeExpression}
use Rattle.mo_syntax.specs.declared.types.TypeParameter.{TypeParameter}
use Rattle.mo_syntax.specs.declared.patterns.Pattern.{Pattern}
use Rattle.mo_syntax.specs.declared.patterns.Parameters.{Parameters}
use Rattle.mo_syntax.specs.declared.literal.Literal.{Literal}
use Rattle.mo_syntax.specs.declared.operators.BinaryOperator.{BinaryOperator}
use Rattle.mo_syntax.specs.declared.operators.AssignmentOperator.{AssignmentOperator}
use Rattle.mo_syntax.specs.declared.declarations.Declaration.{Declaration, Declaration-F, ind-Declaration, map-Declaration, roll-Declaration}
use Rattle.mo_syntax.specs.declared.declarations.Declaration.TheVariants as d
use Rattle.mo_syntax.specs.declared.expressions.Expression.{Expression, Expression-F, ind-Expression, map-Expression, roll-Expression}
use Rattle.mo_syntax.specs.declared.expressions.Expression.TheVariants as e
use Rattle.mo_syntax.specs.declared.declarations.DeclarationField.{DeclarationField, ind-DeclarationField, map-DeclarationField, roll-DeclarationField}
use Rattle.mo_syntax.specs.declared.expressions.Case.{Case, ind-Case, map-Case, roll-Case}
use Rattle.mo_syntax.specs.declared.expressions.ExpressionField.{ExpressionField, ind-ExpressionField, map-ExpressionField, roll-ExpressionField}
use Rattle.mo_syntax.specs.declared.declarations.Declaration.TheOpen as F
use Rattle.mo_syntax.specs.Parts.{Each, Within}
use Rattle.mo_syntax.proofs.Known.{Known, each_known}

-- what is known of a tree, by its type
pub record Claims : Type 1 where
  pub of_Declaration : Declaration → Type 0
  pub of_Expression : Expression → Type 0
  pub of_DeclarationField : DeclarationField → Type 0
  pub of_Case : Case → Type 0
  pub of_ExpressionField : ExpressionField → Type 0

-- what holds of a tree where it holds of its parts
pub record Cases (C : Claims) : Type 0 where
  pub Let : (x0 : Pattern) (x1 : Expression) → C.of_Expression x1 → C.of_Declaration (d.Let x0 x1)
  pub Var : (x0 : Name) (x1 : Option TypeExpression) (x2 : Expression) → C.of_Expression x2 → C.of_Declaration (d.Var x0 x1 x2)
  pub Func : (x0 : Name) (x1 : Option (List TypeParameter)) (x2 : Parameters) (x3 : Option TypeExpression) (x4 : Bool) (x5 : Expression) → C.of_Expression x5 → C.of_Declaration (d.Func x0 x1 x2 x3 x4 x5)
  pub TypeAlias : (x0 : Name) (x1 : Option (List Name)) (x2 : TypeExpression) → C.of_Declaration (d.TypeAlias x0 x1 x2)
  pub Class : (x0 : Name) (x1 : Option (List TypeParameter)) (x2 : Parameters) (x3 : List DeclarationField) (x4 : Bool) → Each C.of_DeclarationField x3 → C.of_Declaration (d.Class x0 x1 x2 x3 x4)
  pub NamedObject : (x0 : Name) (x1 : List DeclarationField) (x2 : Bool) → Each C.of_DeclarationField x1 → C.of_Declaration (d.NamedObject x0 x1 x2)
  pub Evaluate : (x0 : Expression) → C.of_Expression x0 → C.of_Declaration (d.Evaluate x0)
  pub Assign : (x0 : AssignmentOperator) (x1 : Expression) (x2 : Expression) → C.of_Expression x1 → C.of_Expression x2 → C.of_Expression (e.Assign x0 x1 x2)
  pub Annotated : (x0 : Expression) (x1 : TypeExpression) → C.of_Expression x0 → C.of_Expression (e.Annotated x0 x1)
  pub Binary : (x0 : BinaryOperator) (x1 : Expression) (x2 : Expression) → C.of_Expression x1 → C.of_Expression x2 → C.of_Expression (e.Binary x0 x1 x2)
  pub If : (x0 : Expression) (x1 : Expression) (x2 : Option Expression) → C.of_Expression x0 → C.of_Expression x1 → Within C.of_Expression x2 → C.of_Expression (e.If x0 x1 x2)
  pub Switch : (x0 : Expression) (x1 : List Case) (x2 : Bool) → C.of_Expression x0 → Each C.of_Case x1 → C.of_Expression (e.Switch x0 x1 x2)
  pub While : (x0 : Expression) (x1 : Expression) → C.of_Expression x0 → C.of_Expression x1 → C.of_Expression (e.While x0 x1)
  pub Loop : (x0 : Expression) (x1 : Option Expression) → C.of_Expression x0 → Within C.of_Expression x1 → C.of_Expression (e.Loop x0 x1)
  pub For : (x0 : Pattern) (x1 : Expression) (x2 : Expression) → C.of_Expression x1 → C.of_Expression x2 → C.of_Expression (e.For x0 x1 x2)
  pub Label : (x0 : Name) (x1 : Option TypeExpression) (x2 : Expression) → C.of_Expression x2 → C.of_Expression (e.Label x0 x1 x2)
  pub Break : (x0 : Name) (x1 : Option Expression) → Within C.of_Expression x1 → C.of_Expression (e.Break x0 x1)
  pub Continue : (x0 : Name) → C.of_Expression (e.Continue x0)
  pub Return : (x0 : Option Expression) → Within C.of_Expression x0 → C.of_Expression (e.Return x0)
  pub Do : (x0 : Expression) → C.of_Expression x0 → C.of_Expression (e.Do x0)
  pub DoOptional : (x0 : Expression) → C.of_Expression x0 → C.of_Expression (e.DoOptional x0)
  pub Await : (x0 : Expression) → C.of_Expression x0 → C.of_Expression (e.Await x0)
  pub Throw : (x0 : Expression) → C.of_Expression x0 → C.of_Expression (e.Throw x0)
  pub Try : (x0 : Expression) (x1 : Pattern) (x2 : Expression) → C.of_Expression x0 → C.of_Expression x2 → C.of_Expression (e.Try x0 x1 x2)
  pub Assert : (x0 : Expression) → C.of_Expression x0 → C.of_Expression (e.Assert x0)
  pub Ignore : (x0 : Expression) → C.of_Expression x0 → C.of_Expression (e.Ignore x0)
  pub Debug : (x0 : Expression) → C.of_Expression x0 → C.of_Expression (e.Debug x0)
  pub Function : (x0 : Parameters) (x1 : Option TypeExpression) (x2 : Bool) (x3 : Expression) → C.of_Expression x3 → C.of_Expression (e.Function x0 x1 x2 x3)
  pub ObjectBlock : (x0 : List DeclarationField) (x1 : Bool) → Each C.of_DeclarationField x0 → C.of_Expression (e.ObjectBlock x0 x1)
  pub Optional : (x0 : Expression) → C.of_Expression x0 → C.of_Expression (e.Optional x0)
  pub Negative : (x0 : Expression) → C.of_Expression x0 → C.of_Expression (e.Negative x0)
  pub Not : (x0 : Expression) → C.of_Expression x0 → C.of_Expression (e.Not x0)
  pub Tagged : (x0 : Name) (x1 : Option Expression) → Within C.of_Expression x1 → C.of_Expression (e.Tagged x0 x1)
  pub Member : (x0 : Expression) (x1 : Name) → C.of_Expression x0 → C.of_Expression (e.Member x0 x1)
  pub Projection : (x0 : Expression) (x1 : ℕ) → C.of_Expression x0 → C.of_Expression (e.Projection x0 x1)
  pub Index : (x0 : Expression) (x1 : Expression) → C.of_Expression x0 → C.of_Expression x1 → C.of_Expression (e.Index x0 x1)
  pub Call : (x0 : Expression) (x1 : Option (List TypeExpression)) (x2 : List Expression) → C.of_Expression x0 → Each C.of_Expression x2 → C.of_Expression (e.Call x0 x1 x2)
  pub Bang : (x0 : Expression) → C.of_Expression x0 → C.of_Expression (e.Bang x0)
  pub Constant : (x0 : Literal) → C.of_Expression (e.Constant x0)
  pub Variable : (x0 : Name) → C.of_Expression (e.Variable x0)
  pub Parenthesized : (x0 : List Expression) → Each C.of_Expression x0 → C.of_Expression (e.Parenthesized x0)
  pub Array : (x0 : Bool) (x1 : List Expression) → Each C.of_Expression x1 → C.of_Expression (e.Array x0 x1)
  pub Object : (x0 : List ExpressionField) (x1 : Bool) → Each C.of_ExpressionField x0 → C.of_Expression (e.Object x0 x1)
  pub ActorReference : (x0 : Bool) (x1 : Text) → C.of_Expression (e.ActorReference x0 x1)
  pub Block : (x0 : List Declaration) (x1 : Bool) → Each C.of_Declaration x0 → C.of_Expression (e.Block x0 x1)
  pub DeclarationField_ : (x0 : Option Visibility) (x1 : Declaration) → C.of_Declaration x1 → C.of_DeclarationField (roll-DeclarationField (record { visibility = x0; declaration = x1 }))
  pub Case_ : (x0 : Pattern) (x1 : Expression) → C.of_Expression x1 → C.of_Case (roll-Case (record { pattern = x0; body = x1 }))
  pub ExpressionField_ : (x0 : Bool) (x1 : Name) (x2 : Option TypeExpression) (x3 : Option Expression) → Within C.of_Expression x3 → C.of_ExpressionField (roll-ExpressionField (record { mutable = x0; name = x1; annotation = x2; value = x3 }))

module _ (C : Claims) (H : Cases C) where
  case_Declaration : (y : Declaration-F (Known C.of_Declaration) (Known C.of_Expression) (Known C.of_DeclarationField) (Known C.of_Case) (Known C.of_ExpressionField)) → C.of_Declaration (roll-Declaration (map-Declaration (Known C.of_Declaration) (Known C.of_Expression) (Known C.of_DeclarationField) (Known C.of_Case) (Known C.of_ExpressionField) Declaration Expression DeclarationField Case ExpressionField (λ z. z.0) (λ z. z.0) (λ z. z.0) (λ z. z.0) (λ z. z.0) y))
  case_Declaration (F.Let x0 x1) = subst C.of_Declaration (sym (d.rolls-Let x0 x1.0)) (H.Let x0 x1.0 x1.1)
  case_Declaration (F.Var x0 x1 x2) = subst C.of_Declaration (sym (d.rolls-Var x0 x1 x2.0)) (H.Var x0 x1 x2.0 x2.1)
  case_Declaration (F.Func x0 x1 x2 x3 x4 x5) = subst C.of_Declaration (sym (d.rolls-Func x0 x1 x2 x3 x4 x5.0)) (H.Func x0 x1 x2 x3 x4 x5.0 x5.1)
  case_Declaration (F.TypeAlias x0 x1 x2) = subst C.of_Declaration (sym (d.rolls-TypeAlias x0 x1 x2)) (H.TypeAlias x0 x1 x2)
  case_Declaration (F.Class x0 x1 x2 x3 x4) = subst C.of_Declaration (sym (d.rolls-Class x0 x1 x2 (map (λ z. z.0) x3) x4)) (H.Class x0 x1 x2 (map (λ z. z.0) x3) x4 (each_known C.of_DeclarationField x3))
  case_Declaration (F.NamedObject x0 x1 x2) = subst C.of_Declaration (sym (d.rolls-NamedObject x0 (map (λ z. z.0) x1) x2)) (H.NamedObject x0 (map (λ z. z.0) x1) x2 (each_known C.of_DeclarationField x1))
  case_Declaration (F.Evaluate x0) = subst C.of_Declaration (sym (d.rolls-Evaluate x0.0)) (H.Evaluate x0.0 x0.1)

  case_Expression : (y : Expression-F (Known C.of_Declaration) (Known C.of_Expression) (Known C.of_DeclarationField) (Known C.of_Case) (Known C.of_ExpressionField)) → C.of_Expression (roll-Expression (map-Expression (Known C.of_Declaration) (Known C.of_Expression) (Known C.of_DeclarationField) (Known C.of_Case) (Known C.of_ExpressionField) Declaration Expression DeclarationField Case ExpressionField (λ z. z.0) (λ z. z.0) (λ z. z.0) (λ z. z.0) (λ z. z.0) y))
  case_Expression (F.Assign x0 x1 x2) = subst C.of_Expression (sym (e.rolls-Assign x0 x1.0 x2.0)) (H.Assign x0 x1.0 x2.0 x1.1 x2.1)
  case_Expression (F.Annotated x0 x1) = subst C.of_Expression (sym (e.rolls-Annotated x0.0 x1)) (H.Annotated x0.0 x1 x0.1)
  case_Expression (F.Binary x0 x1 x2) = subst C.of_Expression (sym (e.rolls-Binary x0 x1.0 x2.0)) (H.Binary x0 x1.0 x2.0 x1.1 x2.1)
  case_Expression (F.If x0 x1 None) = subst C.of_Expression (sym (e.rolls-If x0.0 x1.0 None)) (H.If x0.0 x1.0 None x0.1 x1.1 tt)
  case_Expression (F.If x0 x1 (Some x2)) = subst C.of_Expression (sym (e.rolls-If x0.0 x1.0 (Some x2.0))) (H.If x0.0 x1.0 (Some x2.0) x0.1 x1.1 x2.1)
  case_Expression (F.Switch x0 x1 x2) = subst C.of_Expression (sym (e.rolls-Switch x0.0 (map (λ z. z.0) x1) x2)) (H.Switch x0.0 (map (λ z. z.0) x1) x2 x0.1 (each_known C.of_Case x1))
  case_Expression (F.While x0 x1) = subst C.of_Expression (sym (e.rolls-While x0.0 x1.0)) (H.While x0.0 x1.0 x0.1 x1.1)
  case_Expression (F.Loop x0 None) = subst C.of_Expression (sym (e.rolls-Loop x0.0 None)) (H.Loop x0.0 None x0.1 tt)
  case_Expression (F.Loop x0 (Some x1)) = subst C.of_Expression (sym (e.rolls-Loop x0.0 (Some x1.0))) (H.Loop x0.0 (Some x1.0) x0.1 x1.1)
  case_Expression (F.For x0 x1 x2) = subst C.of_Expression (sym (e.rolls-For x0 x1.0 x2.0)) (H.For x0 x1.0 x2.0 x1.1 x2.1)
  case_Expression (F.Label x0 x1 x2) = subst C.of_Expression (sym (e.rolls-Label x0 x1 x2.0)) (H.Label x0 x1 x2.0 x2.1)
  case_Expression (F.Break x0 None) = subst C.of_Expression (sym (e.rolls-Break x0 None)) (H.Break x0 None tt)
  case_Expression (F.Break x0 (Some x1)) = subst C.of_Expression (sym (e.rolls-Break x0 (Some x1.0))) (H.Break x0 (Some x1.0) x1.1)
  case_Expression (F.Continue x0) = subst C.of_Expression (sym (e.rolls-Continue x0)) (H.Continue x0)
  case_Expression (F.Return None) = subst C.of_Expression (sym (e.rolls-Return None)) (H.Return None tt)
  case_Expression (F.Return (Some x0)) = subst C.of_Expression (sym (e.rolls-Return (Some x0.0))) (H.Return (Some x0.0) x0.1)
  case_Expression (F.Do x0) = subst C.of_Expression (sym (e.rolls-Do x0.0)) (H.Do x0.0 x0.1)
  case_Expression (F.DoOptional x0) = subst C.of_Expression (sym (e.rolls-DoOptional x0.0)) (H.DoOptional x0.0 x0.1)
  case_Expression (F.Await x0) = subst C.of_Expression (sym (e.rolls-Await x0.0)) (H.Await x0.0 x0.1)
  case_Expression (F.Throw x0) = subst C.of_Expression (sym (e.rolls-Throw x0.0)) (H.Throw x0.0 x0.1)
  case_Expression (F.Try x0 x1 x2) = subst C.of_Expression (sym (e.rolls-Try x0.0 x1 x2.0)) (H.Try x0.0 x1 x2.0 x0.1 x2.1)
  case_Expression (F.Assert x0) = subst C.of_Expression (sym (e.rolls-Assert x0.0)) (H.Assert x0.0 x0.1)
  case_Expression (F.Ignore x0) = subst C.of_Expression (sym (e.rolls-Ignore x0.0)) (H.Ignore x0.0 x0.1)
  case_Expression (F.Debug x0) = subst C.of_Expression (sym (e.rolls-Debug x0.0)) (H.Debug x0.0 x0.1)
  case_Expression (F.Function x0 x1 x2 x3) = subst C.of_Expression (sym (e.rolls-Function x0 x1 x2 x3.0)) (H.Function x0 x1 x2 x3.0 x3.1)
  case_Expression (F.ObjectBlock x0 x1) = subst C.of_Expression (sym (e.rolls-ObjectBlock (map (λ z. z.0) x0) x1)) (H.ObjectBlock (map (λ z. z.0) x0) x1 (each_known C.of_DeclarationField x0))
  case_Expression (F.Optional x0) = subst C.of_Expression (sym (e.rolls-Optional x0.0)) (H.Optional x0.0 x0.1)
  case_Expression (F.Negative x0) = subst C.of_Expression (sym (e.rolls-Negative x0.0)) (H.Negative x0.0 x0.1)
  case_Expression (F.Not x0) = subst C.of_Expression (sym (e.rolls-Not x0.0)) (H.Not x0.0 x0.1)
  case_Expression (F.Tagged x0 None) = subst C.of_Expression (sym (e.rolls-Tagged x0 None)) (H.Tagged x0 None tt)
  case_Expression (F.Tagged x0 (Some x1)) = subst C.of_Expression (sym (e.rolls-Tagged x0 (Some x1.0))) (H.Tagged x0 (Some x1.0) x1.1)
  case_Expression (F.Member x0 x1) = subst C.of_Expression (sym (e.rolls-Member x0.0 x1)) (H.Member x0.0 x1 x0.1)
  case_Expression (F.Projection x0 x1) = subst C.of_Expression (sym (e.rolls-Projection x0.0 x1)) (H.Projection x0.0 x1 x0.1)
  case_Expression (F.Index x0 x1) = subst C.of_Expression (sym (e.rolls-Index x0.0 x1.0)) (H.Index x0.0 x1.0 x0.1 x1.1)
  case_Expression (F.Call x0 x1 x2) = subst C.of_Expression (sym (e.rolls-Call x0.0 x1 (map (λ z. z.0) x2))) (H.Call x0.0 x1 (map (λ z. z.0) x2) x0.1 (each_known C.of_Expression x2))
  case_Expression (F.Bang x0) = subst C.of_Expression (sym (e.rolls-Bang x0.0)) (H.Bang x0.0 x0.1)
  case_Expression (F.Constant x0) = subst C.of_Expression (sym (e.rolls-Constant x0)) (H.Constant x0)
  case_Expression (F.Variable x0) = subst C.of_Expression (sym (e.rolls-Variable x0)) (H.Variable x0)
  case_Expression (F.Parenthesized x0) = subst C.of_Expression (sym (e.rolls-Parenthesized (map (λ z. z.0) x0))) (H.Parenthesized (map (λ z. z.0) x0) (each_known C.of_Expression x0))
  case_Expression (F.Array x0 x1) = subst C.of_Expression (sym (e.rolls-Array x0 (map (λ z. z.0) x1))) (H.Array x0 (map (λ z. z.0) x1) (each_known C.of_Expression x1))
  case_Expression (F.Object x0 x1) = subst C.of_Expression (sym (e.rolls-Object (map (λ z. z.0) x0) x1)) (H.Object (map (λ z. z.0) x0) x1 (each_known C.of_ExpressionField x0))
  case_Expression (F.ActorReference x0 x1) = subst C.of_Expression (sym (e.rolls-ActorReference x0 x1)) (H.ActorReference x0 x1)
  case_Expression (F.Block x0 x1) = subst C.of_Expression (sym (e.rolls-Block (map (λ z. z.0) x0) x1)) (H.Block (map (λ z. z.0) x0) x1 (each_known C.of_Declaration x0))

  fields_DeclarationField : (x0 : Option Visibility) (x1 : Known C.of_Declaration) → C.of_DeclarationField (roll-DeclarationField (map-DeclarationField (Known C.of_Declaration) (Known C.of_Expression) (Known C.of_DeclarationField) (Known C.of_Case) (Known C.of_ExpressionField) Declaration Expression DeclarationField Case ExpressionField (λ z. z.0) (λ z. z.0) (λ z. z.0) (λ z. z.0) (λ z. z.0) (record { visibility = x0; declaration = x1 })))
  fields_DeclarationField x0 x1 = H.DeclarationField_ x0 x1.0 x1.1

  case_DeclarationField : (y : F.DeclarationField-F (Known C.of_Declaration) (Known C.of_Expression) (Known C.of_DeclarationField) (Known C.of_Case) (Known C.of_ExpressionField)) → C.of_DeclarationField (roll-DeclarationField (map-DeclarationField (Known C.of_Declaration) (Known C.of_Expression) (Known C.of_DeclarationField) (Known C.of_Case) (Known C.of_ExpressionField) Declaration Expression DeclarationField Case ExpressionField (λ z. z.0) (λ z. z.0) (λ z. z.0) (λ z. z.0) (λ z. z.0) y))
  case_DeclarationField y = fields_DeclarationField y.visibility y.declaration

  fields_Case : (x0 : Pattern) (x1 : Known C.of_Expression) → C.of_Case (roll-Case (map-Case (Known C.of_Declaration) (Known C.of_Expression) (Known C.of_DeclarationField) (Known C.of_Case) (Known C.of_ExpressionField) Declaration Expression DeclarationField Case ExpressionField (λ z. z.0) (λ z. z.0) (λ z. z.0) (λ z. z.0) (λ z. z.0) (record { pattern = x0; body = x1 })))
  fields_Case x0 x1 = H.Case_ x0 x1.0 x1.1

  case_Case : (y : F.Case-F (Known C.of_Declaration) (Known C.of_Expression) (Known C.of_DeclarationField) (Known C.of_Case) (Known C.of_ExpressionField)) → C.of_Case (roll-Case (map-Case (Known C.of_Declaration) (Known C.of_Expression) (Known C.of_DeclarationField) (Known C.of_Case) (Known C.of_ExpressionField) Declaration Expression DeclarationField Case ExpressionField (λ z. z.0) (λ z. z.0) (λ z. z.0) (λ z. z.0) (λ z. z.0) y))
  case_Case y = fields_Case y.pattern y.body

  fields_ExpressionField : (x0 : Bool) (x1 : Name) (x2 : Option TypeExpression) (x3 : Option (Known C.of_Expression)) → C.of_ExpressionField (roll-ExpressionField (map-ExpressionField (Known C.of_Declaration) (Known C.of_Expression) (Known C.of_DeclarationField) (Known C.of_Case) (Known C.of_ExpressionField) Declaration Expression DeclarationField Case ExpressionField (λ z. z.0) (λ z. z.0) (λ z. z.0) (λ z. z.0) (λ z. z.0) (record { mutable = x0; name = x1; annotation = x2; value = x3 })))
  fields_ExpressionField x0 x1 x2 None = H.ExpressionField_ x0 x1 x2 None tt
  fields_ExpressionField x0 x1 x2 (Some x3) = H.ExpressionField_ x0 x1 x2 (Some x3.0) x3.1

  case_ExpressionField : (y : F.ExpressionField-F (Known C.of_Declaration) (Known C.of_Expression) (Known C.of_DeclarationField) (Known C.of_Case) (Known C.of_ExpressionField)) → C.of_ExpressionField (roll-ExpressionField (map-ExpressionField (Known C.of_Declaration) (Known C.of_Expression) (Known C.of_DeclarationField) (Known C.of_Case) (Known C.of_ExpressionField) Declaration Expression DeclarationField Case ExpressionField (λ z. z.0) (λ z. z.0) (λ z. z.0) (λ z. z.0) (λ z. z.0) y))
  case_ExpressionField y = fields_ExpressionField y.mutable y.name y.annotation y.value

  pub holds_Declaration : (x : Declaration) → C.of_Declaration x
  holds_Declaration = ind-Declaration C.of_Declaration C.of_Expression C.of_DeclarationField C.of_Case C.of_ExpressionField
      (λ x y is. subst (λ z. C.of_Declaration (roll-Declaration z)) is (case_Declaration y))
      (λ x y is. subst (λ z. C.of_Expression (roll-Expression z)) is (case_Expression y))
      (λ x y is. subst (λ z. C.of_DeclarationField (roll-DeclarationField z)) is (case_DeclarationField y))
      (λ x y is. subst (λ z. C.of_Case (roll-Case z)) is (case_Case y))
      (λ x y is. subst (λ z. C.of_ExpressionField (roll-ExpressionField z)) is (case_ExpressionField y))

  pub holds_Expression : (x : Expression) → C.of_Expression x
  holds_Expression = ind-Expression C.of_Declaration C.of_Expression C.of_DeclarationField C.of_Case C.of_ExpressionField
      (λ x y is. subst (λ z. C.of_Declaration (roll-Declaration z)) is (case_Declaration y))
      (λ x y is. subst (λ z. C.of_Expression (roll-Expression z)) is (case_Expression y))
      (λ x y is. subst (λ z. C.of_DeclarationField (roll-DeclarationField z)) is (case_DeclarationField y))
      (λ x y is. subst (λ z. C.of_Case (roll-Case z)) is (case_Case y))
      (λ x y is. subst (λ z. C.of_ExpressionField (roll-ExpressionField z)) is (case_ExpressionField y))

  pub holds_DeclarationField : (x : DeclarationField) → C.of_DeclarationField x
  holds_DeclarationField = ind-DeclarationField C.of_Declaration C.of_Expression C.of_DeclarationField C.of_Case C.of_ExpressionField
      (λ x y is. subst (λ z. C.of_Declaration (roll-Declaration z)) is (case_Declaration y))
      (λ x y is. subst (λ z. C.of_Expression (roll-Expression z)) is (case_Expression y))
      (λ x y is. subst (λ z. C.of_DeclarationField (roll-DeclarationField z)) is (case_DeclarationField y))
      (λ x y is. subst (λ z. C.of_Case (roll-Case z)) is (case_Case y))
      (λ x y is. subst (λ z. C.of_ExpressionField (roll-ExpressionField z)) is (case_ExpressionField y))

  pub holds_Case : (x : Case) → C.of_Case x
  holds_Case = ind-Case C.of_Declaration C.of_Expression C.of_DeclarationField C.of_Case C.of_ExpressionField
      (λ x y is. subst (λ z. C.of_Declaration (roll-Declaration z)) is (case_Declaration y))
      (λ x y is. subst (λ z. C.of_Expression (roll-Expression z)) is (case_Expression y))
      (λ x y is. subst (λ z. C.of_DeclarationField (roll-DeclarationField z)) is (case_DeclarationField y))
      (λ x y is. subst (λ z. C.of_Case (roll-Case z)) is (case_Case y))
      (λ x y is. subst (λ z. C.of_ExpressionField (roll-ExpressionField z)) is (case_ExpressionField y))

  pub holds_ExpressionField : (x : ExpressionField) → C.of_ExpressionField x
  holds_ExpressionField = ind-ExpressionField C.of_Declaration C.of_Expression C.of_DeclarationField C.of_Case C.of_ExpressionField
      (λ x y is. subst (λ z. C.of_Declaration (roll-Declaration z)) is (case_Declaration y))
      (λ x y is. subst (λ z. C.of_Expression (roll-Expression z)) is (case_Expression y))
      (λ x y is. subst (λ z. C.of_DeclarationField (roll-DeclarationField z)) is (case_DeclarationField y))
      (λ x y is. subst (λ z. C.of_Case (roll-Case z)) is (case_Case y))
      (λ x y is. subst (λ z. C.of_ExpressionField (roll-ExpressionField z)) is (case_ExpressionField y))
