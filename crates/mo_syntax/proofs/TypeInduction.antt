-- Induction over trees: what holds of a tree where it holds of its parts holds of each tree.
use Rattle.std.proofs.Common.{Bool, List, Option, Some, None, subst, sym, map}
use Rattle.mo_syntax.specs.declared.name.Name.{Name}
use Rattle.mo_syntax.specs.declared.types.Sharing.{Sharing}
use Rattle.mo_syntax.specs.declared.types.TypeExpression.{TypeExpression, TypeExpression-F, ind-TypeExpression, map-TypeExpression, roll-TypeExpression}
use Rattle.mo_syntax.specs.declared.types.TypeExpression.TheVariants as e
use Rattle.mo_syntax.specs.declared.types.TypeField.{TypeField, ind-TypeField, map-TypeField, roll-TypeField}
use Rattle.mo_syntax.specs.declared.types.TypeItem.{TypeItem, ind-TypeItem, map-TypeItem, roll-TypeItem}
use Rattle.mo_syntax.specs.declared.types.TypeMethod.{TypeMethod, ind-TypeMethod, map-TypeMethod, roll-TypeMethod}
use Rattle.mo_syntax.specs.declared.types.TypeTag.{TypeTag, ind-TypeTag, map-TypeTag, roll-TypeTag}
use Rattle.mo_syntax.specs.declared.types.TypeExpression.TheOpen as F
use Rattle.mo_syntax.specs.Parts.{Each, Within, EachWithin}
use Rattle.mo_syntax.proofs.Known.{Known, each_known}

-- what is known of a tree, by its type
pub record Claims : Type 1 where
  pub of_TypeExpression : TypeExpression → Type 0
  pub of_TypeField : TypeField → Type 0
  pub of_TypeItem : TypeItem → Type 0
  pub of_TypeMethod : TypeMethod → Type 0
  pub of_TypeTag : TypeTag → Type 0

-- what holds of a tree where it holds of its parts
pub record Cases (C : Claims) : Type 0 where
  pub Function : (x0 : Sharing) (x1 : TypeExpression) (x2 : TypeExpression) → C.of_TypeExpression x1 → C.of_TypeExpression x2 → C.of_TypeExpression (e.Function x0 x1 x2)
  pub Optional : (x0 : TypeExpression) → C.of_TypeExpression x0 → C.of_TypeExpression (e.Optional x0)
  pub Async : (x0 : TypeExpression) → C.of_TypeExpression x0 → C.of_TypeExpression (e.Async x0)
  pub Named : (x0 : Name) (x1 : Option (List TypeExpression)) → EachWithin C.of_TypeExpression x1 → C.of_TypeExpression (e.Named x0 x1)
  pub Parenthesized : (x0 : List TypeItem) → Each C.of_TypeItem x0 → C.of_TypeExpression (e.Parenthesized x0)
  pub Array : (x0 : Bool) (x1 : TypeExpression) → C.of_TypeExpression x1 → C.of_TypeExpression (e.Array x0 x1)
  pub Object : (x0 : Bool) (x1 : List TypeField) (x2 : Bool) → Each C.of_TypeField x1 → C.of_TypeExpression (e.Object x0 x1 x2)
  pub EmptyVariant : C.of_TypeExpression e.EmptyVariant
  pub Variant : (x0 : List TypeTag) (x1 : Bool) → Each C.of_TypeTag x0 → C.of_TypeExpression (e.Variant x0 x1)
  pub Actor : (x0 : List TypeMethod) (x1 : Bool) → Each C.of_TypeMethod x0 → C.of_TypeExpression (e.Actor x0 x1)
  pub TypeField_ : (x0 : Bool) (x1 : Name) (x2 : TypeExpression) → C.of_TypeExpression x2 → C.of_TypeField (roll-TypeField (record { mutable = x0; name = x1; annotation = x2 }))
  pub TypeItem_ : (x0 : Option Name) (x1 : TypeExpression) → C.of_TypeExpression x1 → C.of_TypeItem (roll-TypeItem (record { name = x0; annotation = x1 }))
  pub TypeMethod_ : (x0 : Name) (x1 : TypeExpression) → C.of_TypeExpression x1 → C.of_TypeMethod (roll-TypeMethod (record { name = x0; annotation = x1 }))
  pub TypeTag_ : (x0 : Name) (x1 : Option TypeExpression) → Within C.of_TypeExpression x1 → C.of_TypeTag (roll-TypeTag (record { name = x0; payload = x1 }))

module _ (C : Claims) (H : Cases C) where
  case_TypeExpression : (y : TypeExpression-F (Known C.of_TypeExpression) (Known C.of_TypeField) (Known C.of_TypeItem) (Known C.of_TypeMethod) (Known C.of_TypeTag)) → C.of_TypeExpression (roll-TypeExpression (map-TypeExpression (Known C.of_TypeExpression) (Known C.of_TypeField) (Known C.of_TypeItem) (Known C.of_TypeMethod) (Known C.of_TypeTag) TypeExpression TypeField TypeItem TypeMethod TypeTag (λ z. z.0) (λ z. z.0) (λ z. z.0) (λ z. z.0) (λ z. z.0) y))
  case_TypeExpression (F.Function x0 x1 x2) = subst C.of_TypeExpression (sym (e.rolls-Function x0 x1.0 x2.0)) (H.Function x0 x1.0 x2.0 x1.1 x2.1)
  case_TypeExpression (F.Optional x0) = subst C.of_TypeExpression (sym (e.rolls-Optional x0.0)) (H.Optional x0.0 x0.1)
  case_TypeExpression (F.Async x0) = subst C.of_TypeExpression (sym (e.rolls-Async x0.0)) (H.Async x0.0 x0.1)
  case_TypeExpression (F.Named x0 None) = subst C.of_TypeExpression (sym (e.rolls-Named x0 None)) (H.Named x0 None tt)
  case_TypeExpression (F.Named x0 (Some x1)) = subst C.of_TypeExpression (sym (e.rolls-Named x0 (Some (map (λ z. z.0) x1)))) (H.Named x0 (Some (map (λ z. z.0) x1)) (each_known C.of_TypeExpression x1))
  case_TypeExpression (F.Parenthesized x0) = subst C.of_TypeExpression (sym (e.rolls-Parenthesized (map (λ z. z.0) x0))) (H.Parenthesized (map (λ z. z.0) x0) (each_known C.of_TypeItem x0))
  case_TypeExpression (F.Array x0 x1) = subst C.of_TypeExpression (sym (e.rolls-Array x0 x1.0)) (H.Array x0 x1.0 x1.1)
  case_TypeExpression (F.Object x0 x1 x2) = subst C.of_TypeExpression (sym (e.rolls-Object x0 (map (λ z. z.0) x1) x2)) (H.Object x0 (map (λ z. z.0) x1) x2 (each_known C.of_TypeField x1))
  case_TypeExpression F.EmptyVariant = subst C.of_TypeExpression (sym (e.rolls-EmptyVariant)) H.EmptyVariant
  case_TypeExpression (F.Variant x0 x1) = subst C.of_TypeExpression (sym (e.rolls-Variant (map (λ z. z.0) x0) x1)) (H.Variant (map (λ z. z.0) x0) x1 (each_known C.of_TypeTag x0))
  case_TypeExpression (F.Actor x0 x1) = subst C.of_TypeExpression (sym (e.rolls-Actor (map (λ z. z.0) x0) x1)) (H.Actor (map (λ z. z.0) x0) x1 (each_known C.of_TypeMethod x0))

  fields_TypeField : (x0 : Bool) (x1 : Name) (x2 : Known C.of_TypeExpression) → C.of_TypeField (roll-TypeField (map-TypeField (Known C.of_TypeExpression) (Known C.of_TypeField) (Known C.of_TypeItem) (Known C.of_TypeMethod) (Known C.of_TypeTag) TypeExpression TypeField TypeItem TypeMethod TypeTag (λ z. z.0) (λ z. z.0) (λ z. z.0) (λ z. z.0) (λ z. z.0) (record { mutable = x0; name = x1; annotation = x2 })))
  fields_TypeField x0 x1 x2 = H.TypeField_ x0 x1 x2.0 x2.1

  case_TypeField : (y : F.TypeField-F (Known C.of_TypeExpression) (Known C.of_TypeField) (Known C.of_TypeItem) (Known C.of_TypeMethod) (Known C.of_TypeTag)) → C.of_TypeField (roll-TypeField (map-TypeField (Known C.of_TypeExpression) (Known C.of_TypeField) (Known C.of_TypeItem) (Known C.of_TypeMethod) (Known C.of_TypeTag) TypeExpression TypeField TypeItem TypeMethod TypeTag (λ z. z.0) (λ z. z.0) (λ z. z.0) (λ z. z.0) (λ z. z.0) y))
  case_TypeField y = fields_TypeField y.mutable y.name y.annotation

  fields_TypeItem : (x0 : Option Name) (x1 : Known C.of_TypeExpression) → C.of_TypeItem (roll-TypeItem (map-TypeItem (Known C.of_TypeExpression) (Known C.of_TypeField) (Known C.of_TypeItem) (Known C.of_TypeMethod) (Known C.of_TypeTag) TypeExpression TypeField TypeItem TypeMethod TypeTag (λ z. z.0) (λ z. z.0) (λ z. z.0) (λ z. z.0) (λ z. z.0) (record { name = x0; annotation = x1 })))
  fields_TypeItem x0 x1 = H.TypeItem_ x0 x1.0 x1.1

  case_TypeItem : (y : F.TypeItem-F (Known C.of_TypeExpression) (Known C.of_TypeField) (Known C.of_TypeItem) (Known C.of_TypeMethod) (Known C.of_TypeTag)) → C.of_TypeItem (roll-TypeItem (map-TypeItem (Known C.of_TypeExpression) (Known C.of_TypeField) (Known C.of_TypeItem) (Known C.of_TypeMethod) (Known C.of_TypeTag) TypeExpression TypeField TypeItem TypeMethod TypeTag (λ z. z.0) (λ z. z.0) (λ z. z.0) (λ z. z.0) (λ z. z.0) y))
  case_TypeItem y = fields_TypeItem y.name y.annotation

  fields_TypeMethod : (x0 : Name) (x1 : Known C.of_TypeExpression) → C.of_TypeMethod (roll-TypeMethod (map-TypeMethod (Known C.of_TypeExpression) (Known C.of_TypeField) (Known C.of_TypeItem) (Known C.of_TypeMethod) (Known C.of_TypeTag) TypeExpression TypeField TypeItem TypeMethod TypeTag (λ z. z.0) (λ z. z.0) (λ z. z.0) (λ z. z.0) (λ z. z.0) (record { name = x0; annotation = x1 })))
  fields_TypeMethod x0 x1 = H.TypeMethod_ x0 x1.0 x1.1

  case_TypeMethod : (y : F.TypeMethod-F (Known C.of_TypeExpression) (Known C.of_TypeField) (Known C.of_TypeItem) (Known C.of_TypeMethod) (Known C.of_TypeTag)) → C.of_TypeMethod (roll-TypeMethod (map-TypeMethod (Known C.of_TypeExpression) (Known C.of_TypeField) (Known C.of_TypeItem) (Known C.of_TypeMethod) (Known C.of_TypeTag) TypeExpression TypeField TypeItem TypeMethod TypeTag (λ z. z.0) (λ z. z.0) (λ z. z.0) (λ z. z.0) (λ z. z.0) y))
  case_TypeMethod y = fields_TypeMethod y.name y.annotation

  fields_TypeTag : (x0 : Name) (x1 : Option (Known C.of_TypeExpression)) → C.of_TypeTag (roll-TypeTag (map-TypeTag (Known C.of_TypeExpression) (Known C.of_TypeField) (Known C.of_TypeItem) (Known C.of_TypeMethod) (Known C.of_TypeTag) TypeExpression TypeField TypeItem TypeMethod TypeTag (λ z. z.0) (λ z. z.0) (λ z. z.0) (λ z. z.0) (λ z. z.0) (record { name = x0; payload = x1 })))
  fields_TypeTag x0 None = H.TypeTag_ x0 None tt
  fields_TypeTag x0 (Some x1) = H.TypeTag_ x0 (Some x1.0) x1.1

  case_TypeTag : (y : F.TypeTag-F (Known C.of_TypeExpression) (Known C.of_TypeField) (Known C.of_TypeItem) (Known C.of_TypeMethod) (Known C.of_TypeTag)) → C.of_TypeTag (roll-TypeTag (map-TypeTag (Known C.of_TypeExpression) (Known C.of_TypeField) (Known C.of_TypeItem) (Known C.of_TypeMethod) (Known C.of_TypeTag) TypeExpression TypeField TypeItem TypeMethod TypeTag (λ z. z.0) (λ z. z.0) (λ z. z.0) (λ z. z.0) (λ z. z.0) y))
  case_TypeTag y = fields_TypeTag y.name y.payload

  pub holds_TypeExpression : (x : TypeExpression) → C.of_TypeExpression x
  holds_TypeExpression = ind-TypeExpression C.of_TypeExpression C.of_TypeField C.of_TypeItem C.of_TypeMethod C.of_TypeTag
      (λ x y is. subst (λ z. C.of_TypeExpression (roll-TypeExpression z)) is (case_TypeExpression y))
      (λ x y is. subst (λ z. C.of_TypeField (roll-TypeField z)) is (case_TypeField y))
      (λ x y is. subst (λ z. C.of_TypeItem (roll-TypeItem z)) is (case_TypeItem y))
      (λ x y is. subst (λ z. C.of_TypeMethod (roll-TypeMethod z)) is (case_TypeMethod y))
      (λ x y is. subst (λ z. C.of_TypeTag (roll-TypeTag z)) is (case_TypeTag y))

  pub holds_TypeField : (x : TypeField) → C.of_TypeField x
  holds_TypeField = ind-TypeField C.of_TypeExpression C.of_TypeField C.of_TypeItem C.of_TypeMethod C.of_TypeTag
      (λ x y is. subst (λ z. C.of_TypeExpression (roll-TypeExpression z)) is (case_TypeExpression y))
      (λ x y is. subst (λ z. C.of_TypeField (roll-TypeField z)) is (case_TypeField y))
      (λ x y is. subst (λ z. C.of_TypeItem (roll-TypeItem z)) is (case_TypeItem y))
      (λ x y is. subst (λ z. C.of_TypeMethod (roll-TypeMethod z)) is (case_TypeMethod y))
      (λ x y is. subst (λ z. C.of_TypeTag (roll-TypeTag z)) is (case_TypeTag y))

  pub holds_TypeItem : (x : TypeItem) → C.of_TypeItem x
  holds_TypeItem = ind-TypeItem C.of_TypeExpression C.of_TypeField C.of_TypeItem C.of_TypeMethod C.of_TypeTag
      (λ x y is. subst (λ z. C.of_TypeExpression (roll-TypeExpression z)) is (case_TypeExpression y))
      (λ x y is. subst (λ z. C.of_TypeField (roll-TypeField z)) is (case_TypeField y))
      (λ x y is. subst (λ z. C.of_TypeItem (roll-TypeItem z)) is (case_TypeItem y))
      (λ x y is. subst (λ z. C.of_TypeMethod (roll-TypeMethod z)) is (case_TypeMethod y))
      (λ x y is. subst (λ z. C.of_TypeTag (roll-TypeTag z)) is (case_TypeTag y))

  pub holds_TypeMethod : (x : TypeMethod) → C.of_TypeMethod x
  holds_TypeMethod = ind-TypeMethod C.of_TypeExpression C.of_TypeField C.of_TypeItem C.of_TypeMethod C.of_TypeTag
      (λ x y is. subst (λ z. C.of_TypeExpression (roll-TypeExpression z)) is (case_TypeExpression y))
      (λ x y is. subst (λ z. C.of_TypeField (roll-TypeField z)) is (case_TypeField y))
      (λ x y is. subst (λ z. C.of_TypeItem (roll-TypeItem z)) is (case_TypeItem y))
      (λ x y is. subst (λ z. C.of_TypeMethod (roll-TypeMethod z)) is (case_TypeMethod y))
      (λ x y is. subst (λ z. C.of_TypeTag (roll-TypeTag z)) is (case_TypeTag y))

  pub holds_TypeTag : (x : TypeTag) → C.of_TypeTag x
  holds_TypeTag = ind-TypeTag C.of_TypeExpression C.of_TypeField C.of_TypeItem C.of_TypeMethod C.of_TypeTag
      (λ x y is. subst (λ z. C.of_TypeExpression (roll-TypeExpression z)) is (case_TypeExpression y))
      (λ x y is. subst (λ z. C.of_TypeField (roll-TypeField z)) is (case_TypeField y))
      (λ x y is. subst (λ z. C.of_TypeItem (roll-TypeItem z)) is (case_TypeItem y))
      (λ x y is. subst (λ z. C.of_TypeMethod (roll-TypeMethod z)) is (case_TypeMethod y))
      (λ x y is. subst (λ z. C.of_TypeTag (roll-TypeTag z)) is (case_TypeTag y))
