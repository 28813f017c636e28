-- What is found in each kind of type.
use Rattle.std.proofs.Common.{◌≡◌, Bool, List, Option, Some, None, ap, ◌∙◌, sym, map, option_map}
use Rattle.mo_syntax.specs.declared.name.Name.{Name}
use Rattle.mo_syntax.specs.declared.types.Sharing.{Sharing}
use Rattle.mo_syntax.specs.declared.types.TypeExpression.{TypeExpression, fold-roll-TypeExpression}
use Rattle.mo_syntax.specs.declared.types.TypeExpression.TheVariants as e
use Rattle.mo_syntax.specs.declared.types.TypeField.{TypeField, roll-TypeField, fold-roll-TypeField}
use Rattle.mo_syntax.specs.declared.types.TypeItem.{TypeItem, roll-TypeItem, fold-roll-TypeItem}
use Rattle.mo_syntax.specs.declared.types.TypeMethod.{TypeMethod, roll-TypeMethod, fold-roll-TypeMethod}
use Rattle.mo_syntax.specs.declared.types.TypeTag.{TypeTag, roll-TypeTag, fold-roll-TypeTag}
use Rattle.mo_syntax.specs.declared.types.TypeExpression.TheOpen as F
use Rattle.mo_scopes.specs.Findings.{InScope}
use Rattle.mo_pattern_names.specs.TypeNames.{Entry, Item, in_type, in_type_field, in_type_item, in_type_method, in_type_tag, type_step, type_field_step, type_item_step, type_method_step, type_tag_step}

pub found_Function : (x0 : Sharing) (x1 : TypeExpression) (x2 : TypeExpression) → in_type (e.Function x0 x1 x2) ≡ type_step (F.Function x0 (in_type x1) (in_type x2))
unfolding in_type in_type_field in_type_item in_type_method in_type_tag
found_Function x0 x1 x2 = ap in_type (sym (e.rolls-Function x0 x1 x2)) ∙ fold-roll-TypeExpression InScope Entry Item Entry Entry type_step type_field_step type_item_step type_method_step type_tag_step (F.Function x0 x1 x2)

pub found_Optional : (x0 : TypeExpression) → in_type (e.Optional x0) ≡ type_step (F.Optional (in_type x0))
unfolding in_type in_type_field in_type_item in_type_method in_type_tag
found_Optional x0 = ap in_type (sym (e.rolls-Optional x0)) ∙ fold-roll-TypeExpression InScope Entry Item Entry Entry type_step type_field_step type_item_step type_method_step type_tag_step (F.Optional x0)

pub found_Async : (x0 : TypeExpression) → in_type (e.Async x0) ≡ type_step (F.Async (in_type x0))
unfolding in_type in_type_field in_type_item in_type_method in_type_tag
found_Async x0 = ap in_type (sym (e.rolls-Async x0)) ∙ fold-roll-TypeExpression InScope Entry Item Entry Entry type_step type_field_step type_item_step type_method_step type_tag_step (F.Async x0)

pub found_Named : (x0 : Name) (x1 : Option (List TypeExpression)) → in_type (e.Named x0 x1) ≡ type_step (F.Named x0 (option_map (map in_type) x1))
unfolding in_type in_type_field in_type_item in_type_method in_type_tag
found_Named x0 None = ap in_type (sym (e.rolls-Named x0 None)) ∙ fold-roll-TypeExpression InScope Entry Item Entry Entry type_step type_field_step type_item_step type_method_step type_tag_step (F.Named x0 None)
found_Named x0 (Some x1) = ap in_type (sym (e.rolls-Named x0 (Some x1))) ∙ fold-roll-TypeExpression InScope Entry Item Entry Entry type_step type_field_step type_item_step type_method_step type_tag_step (F.Named x0 (Some x1))

pub found_Parenthesized : (x0 : List TypeItem) → in_type (e.Parenthesized x0) ≡ type_step (F.Parenthesized (map in_type_item x0))
unfolding in_type in_type_field in_type_item in_type_method in_type_tag
found_Parenthesized x0 = ap in_type (sym (e.rolls-Parenthesized x0)) ∙ fold-roll-TypeExpression InScope Entry Item Entry Entry type_step type_field_step type_item_step type_method_step type_tag_step (F.Parenthesized x0)

pub found_Array : (x0 : Bool) (x1 : TypeExpression) → in_type (e.Array x0 x1) ≡ type_step (F.Array x0 (in_type x1))
unfolding in_type in_type_field in_type_item in_type_method in_type_tag
found_Array x0 x1 = ap in_type (sym (e.rolls-Array x0 x1)) ∙ fold-roll-TypeExpression InScope Entry Item Entry Entry type_step type_field_step type_item_step type_method_step type_tag_step (F.Array x0 x1)

pub found_Object : (x0 : Bool) (x1 : List TypeField) (x2 : Bool) → in_type (e.Object x0 x1 x2) ≡ type_step (F.Object x0 (map in_type_field x1) x2)
unfolding in_type in_type_field in_type_item in_type_method in_type_tag
found_Object x0 x1 x2 = ap in_type (sym (e.rolls-Object x0 x1 x2)) ∙ fold-roll-TypeExpression InScope Entry Item Entry Entry type_step type_field_step type_item_step type_method_step type_tag_step (F.Object x0 x1 x2)

pub found_EmptyVariant : in_type e.EmptyVariant ≡ type_step F.EmptyVariant
unfolding in_type in_type_field in_type_item in_type_method in_type_tag
found_EmptyVariant = ap in_type (sym (e.rolls-EmptyVariant)) ∙ fold-roll-TypeExpression InScope Entry Item Entry Entry type_step type_field_step type_item_step type_method_step type_tag_step F.EmptyVariant

pub found_Variant : (x0 : List TypeTag) (x1 : Bool) → in_type (e.Variant x0 x1) ≡ type_step (F.Variant (map in_type_tag x0) x1)
unfolding in_type in_type_field in_type_item in_type_method in_type_tag
found_Variant x0 x1 = ap in_type (sym (e.rolls-Variant x0 x1)) ∙ fold-roll-TypeExpression InScope Entry Item Entry Entry type_step type_field_step type_item_step type_method_step type_tag_step (F.Variant x0 x1)

pub found_Actor : (x0 : List TypeMethod) (x1 : Bool) → in_type (e.Actor x0 x1) ≡ type_step (F.Actor (map in_type_method x0) x1)
unfolding in_type in_type_field in_type_item in_type_method in_type_tag
found_Actor x0 x1 = ap in_type (sym (e.rolls-Actor x0 x1)) ∙ fold-roll-TypeExpression InScope Entry Item Entry Entry type_step type_field_step type_item_step type_method_step type_tag_step (F.Actor x0 x1)

pub found_TypeField : (mutable : Bool) (name : Name) (annotation : TypeExpression) → in_type_field (roll-TypeField (record { mutable = mutable; name = name; annotation = annotation })) ≡ type_field_step (record { mutable = mutable; name = name; annotation = (in_type annotation) })
unfolding in_type in_type_field in_type_item in_type_method in_type_tag
found_TypeField mutable name annotation = fold-roll-TypeField InScope Entry Item Entry Entry type_step type_field_step type_item_step type_method_step type_tag_step (record { mutable = mutable; name = name; annotation = annotation })

pub found_TypeItem : (name : Option Name) (annotation : TypeExpression) → in_type_item (roll-TypeItem (record { name = name; annotation = annotation })) ≡ type_item_step (record { name = name; annotation = (in_type annotation) })
unfolding in_type in_type_field in_type_item in_type_method in_type_tag
found_TypeItem name annotation = fold-roll-TypeItem InScope Entry Item Entry Entry type_step type_field_step type_item_step type_method_step type_tag_step (record { name = name; annotation = annotation })

pub found_TypeMethod : (name : Name) (annotation : TypeExpression) → in_type_method (roll-TypeMethod (record { name = name; annotation = annotation })) ≡ type_method_step (record { name = name; annotation = (in_type annotation) })
unfolding in_type in_type_field in_type_item in_type_method in_type_tag
found_TypeMethod name annotation = fold-roll-TypeMethod InScope Entry Item Entry Entry type_step type_field_step type_item_step type_method_step type_tag_step (record { name = name; annotation = annotation })

pub found_TypeTag : (name : Name) (payload : Option TypeExpression) → in_type_tag (roll-TypeTag (record { name = name; payload = payload })) ≡ type_tag_step (record { name = name; payload = (option_map in_type payload) })
unfolding in_type in_type_field in_type_item in_type_method in_type_tag
found_TypeTag name None = fold-roll-TypeTag InScope Entry Item Entry Entry type_step type_field_step type_item_step type_method_step type_tag_step (record { name = name; payload = None })
found_TypeTag name (Some payload) = fold-roll-TypeTag InScope Entry Item Entry Entry type_step type_field_step type_item_step type_method_step type_tag_step (record { name = name; payload = (Some payload) })
