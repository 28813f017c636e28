-- Induction over trees: what holds of a tree where it holds of its parts holds of each tree.
use Rattle.std.proofs.Common.{Bool, List, Option, Some, None, subst, sym, map}
use Rattle.mo_syntax.specs.declared.name.Name.{Name}
use Rattle.mo_syntax.specs.declared.types.TypeExpression.{TypeExpression}
use Rattle.mo_syntax.specs.declared.literal.Literal.{Literal}
use Rattle.mo_syntax.specs.declared.patterns.Pattern.{Pattern, Pattern-F, ind-Pattern, map-Pattern, roll-Pattern}
use Rattle.mo_syntax.specs.declared.patterns.Pattern.TheVariants as e
use Rattle.mo_syntax.specs.declared.patterns.PatternField.{PatternField, ind-PatternField, map-PatternField, roll-PatternField}
use Rattle.mo_syntax.specs.declared.patterns.Pattern.TheOpen as F
use Rattle.mo_syntax.specs.Parts.{Each, Within}
use Rattle.mo_syntax.proofs.Known.{Known, each_known}

-- what is known of a tree, by its type
pub record Claims : Type 1 where
  pub of_Pattern : Pattern → Type 0
  pub of_PatternField : PatternField → Type 0

-- what holds of a tree where it holds of its parts
pub record Cases (C : Claims) : Type 0 where
  pub Annotated : (x0 : Pattern) (x1 : TypeExpression) → C.of_Pattern x0 → C.of_Pattern (e.Annotated x0 x1)
  pub Alternative : (x0 : Pattern) (x1 : Pattern) → C.of_Pattern x0 → C.of_Pattern x1 → C.of_Pattern (e.Alternative x0 x1)
  pub Optional : (x0 : Pattern) → C.of_Pattern x0 → C.of_Pattern (e.Optional x0)
  pub Tagged : (x0 : Name) (x1 : Option Pattern) → Within C.of_Pattern x1 → C.of_Pattern (e.Tagged x0 x1)
  pub Variable : (x0 : Name) → C.of_Pattern (e.Variable x0)
  pub Wildcard : C.of_Pattern e.Wildcard
  pub Constant : (x0 : Bool) (x1 : Literal) → C.of_Pattern (e.Constant x0 x1)
  pub Parenthesized : (x0 : List Pattern) → Each C.of_Pattern x0 → C.of_Pattern (e.Parenthesized x0)
  pub Object : (x0 : List PatternField) (x1 : Bool) → Each C.of_PatternField x0 → C.of_Pattern (e.Object x0 x1)
  pub PatternField_ : (x0 : Name) (x1 : Option Pattern) → Within C.of_Pattern x1 → C.of_PatternField (roll-PatternField (record { name = x0; pattern = x1 }))

module _ (C : Claims) (H : Cases C) where
  case_Pattern : (y : Pattern-F (Known C.of_Pattern) (Known C.of_PatternField)) → C.of_Pattern (roll-Pattern (map-Pattern (Known C.of_Pattern) (Known C.of_PatternField) Pattern PatternField (λ z. z.0) (λ z. z.0) y))
  case_Pattern (F.Annotated x0 x1) = subst C.of_Pattern (sym (e.rolls-Annotated x0.0 x1)) (H.Annotated x0.0 x1 x0.1)
  case_Pattern (F.Alternative x0 x1) = subst C.of_Pattern (sym (e.rolls-Alternative x0.0 x1.0)) (H.Alternative x0.0 x1.0 x0.1 x1.1)
  case_Pattern (F.Optional x0) = subst C.of_Pattern (sym (e.rolls-Optional x0.0)) (H.Optional x0.0 x0.1)
  case_Pattern (F.Tagged x0 None) = subst C.of_Pattern (sym (e.rolls-Tagged x0 None)) (H.Tagged x0 None tt)
  case_Pattern (F.Tagged x0 (Some x1)) = subst C.of_Pattern (sym (e.rolls-Tagged x0 (Some x1.0))) (H.Tagged x0 (Some x1.0) x1.1)
  case_Pattern (F.Variable x0) = subst C.of_Pattern (sym (e.rolls-Variable x0)) (H.Variable x0)
  case_Pattern F.Wildcard = subst C.of_Pattern (sym (e.rolls-Wildcard)) H.Wildcard
  case_Pattern (F.Constant x0 x1) = subst C.of_Pattern (sym (e.rolls-Constant x0 x1)) (H.Constant x0 x1)
  case_Pattern (F.Parenthesized x0) = subst C.of_Pattern (sym (e.rolls-Parenthesized (map (λ z. z.0) x0))) (H.Parenthesized (map (λ z. z.0) x0) (each_known C.of_Pattern x0))
  case_Pattern (F.Object x0 x1) = subst C.of_Pattern (sym (e.rolls-Object (map (λ z. z.0) x0) x1)) (H.Object (map (λ z. z.0) x0) x1 (each_known C.of_PatternField x0))

  fields_PatternField : (x0 : Name) (x1 : Option (Known C.of_Pattern)) → C.of_PatternField (roll-PatternField (map-PatternField (Known C.of_Pattern) (Known C.of_PatternField) Pattern PatternField (λ z. z.0) (λ z. z.0) (record { name = x0; pattern = x1 })))
  fields_PatternField x0 None = H.PatternField_ x0 None tt
  fields_PatternField x0 (Some x1) = H.PatternField_ x0 (Some x1.0) x1.1

  case_PatternField : (y : F.PatternField-F (Known C.of_Pattern) (Known C.of_PatternField)) → C.of_PatternField (roll-PatternField (map-PatternField (Known C.of_Pattern) (Known C.of_PatternField) Pattern PatternField (λ z. z.0) (λ z. z.0) y))
  case_PatternField y = fields_PatternField y.name y.pattern

  pub holds_Pattern : (x : Pattern) → C.of_Pattern x
  holds_Pattern = ind-Pattern C.of_Pattern C.of_PatternField
      (λ x y is. subst (λ z. C.of_Pattern (roll-Pattern z)) is (case_Pattern y))
      (λ x y is. subst (λ z. C.of_PatternField (roll-PatternField z)) is (case_PatternField y))

  pub holds_PatternField : (x : PatternField) → C.of_PatternField x
  holds_PatternField = ind-PatternField C.of_Pattern C.of_PatternField
      (λ x y is. subst (λ z. C.of_Pattern (roll-Pattern z)) is (case_Pattern y))
      (λ x y is. subst (λ z. C.of_PatternField (roll-PatternField z)) is (case_PatternField y))
