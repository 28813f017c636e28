-- How each kind of type is seen.
use Rattle.std.proofs.Common.{◌≡◌, Bool, List, Option, Some, None, ap, ◌∙◌, sym, map, option_map}
use Rattle.mo_syntax.specs.declared.name.Name.{Name}
use Rattle.mo_syntax.specs.declared.types.Sharing.{Sharing}
use Rattle.mo_syntax.specs.declared.types.TypeExpression.{TypeExpression, fold-roll-TypeExpression}
use Rattle.mo_syntax.specs.declared.types.TypeExpression.TheVariants as e
use Rattle.mo_syntax.specs.declared.types.TypeField.{TypeField, roll-TypeField, fold-roll-TypeField}
use Rattle.mo_syntax.specs.declared.types.TypeItem.{TypeItem, roll-TypeItem, fold-roll-TypeItem}
use Rattle.mo_syntax.specs.declared.types.TypeMethod.{TypeMethod, roll-TypeMethod, fold-roll-TypeMethod}
use Rattle.mo_syntax.specs.declared.types.TypeTag.{TypeTag, roll-TypeTag, fold-roll-TypeTag}
use Rattle.mo_syntax.specs.declared.types.TypeExpression.TheOpen as F
use Rattle.typing_rules.specs.AbstractSyntax.{TypeNode}
use Rattle.typing_rules.specs.Spans.{Span}
use Rattle.typing_rules.specs.AbstractTypes.{TypeSpan, FieldSpan, type_span, in_type_field, in_type_item, in_type_method, in_type_tag, type_step, type_field_step, type_item_step, type_method_step, type_tag_step}

pub seen_Function : (x0 : Sharing) (x1 : TypeExpression) (x2 : TypeExpression) → type_span (e.Function x0 x1 x2) ≡ type_step (F.Function x0 (type_span x1) (type_span x2))
unfolding type_span in_type_field in_type_item in_type_method in_type_tag
seen_Function x0 x1 x2 = ap type_span (sym (e.rolls-Function x0 x1 x2)) ∙ fold-roll-TypeExpression TypeSpan FieldSpan (Span TypeNode) FieldSpan FieldSpan type_step type_field_step type_item_step type_method_step type_tag_step (F.Function x0 x1 x2)

pub seen_Optional : (x0 : TypeExpression) → type_span (e.Optional x0) ≡ type_step (F.Optional (type_span x0))
unfolding type_span in_type_field in_type_item in_type_method in_type_tag
seen_Optional x0 = ap type_span (sym (e.rolls-Optional x0)) ∙ fold-roll-TypeExpression TypeSpan FieldSpan (Span TypeNode) FieldSpan FieldSpan type_step type_field_step type_item_step type_method_step type_tag_step (F.Optional x0)

pub seen_Async : (x0 : TypeExpression) → type_span (e.Async x0) ≡ type_step (F.Async (type_span x0))
unfolding type_span in_type_field in_type_item in_type_method in_type_tag
seen_Async x0 = ap type_span (sym (e.rolls-Async x0)) ∙ fold-roll-TypeExpression TypeSpan FieldSpan (Span TypeNode) FieldSpan FieldSpan type_step type_field_step type_item_step type_method_step type_tag_step (F.Async x0)

pub seen_Named : (x0 : Name) (x1 : Option (List TypeExpression)) → type_span (e.Named x0 x1) ≡ type_step (F.Named x0 (option_map (map type_span) x1))
unfolding type_span in_type_field in_type_item in_type_method in_type_tag
seen_Named x0 None = ap type_span (sym (e.rolls-Named x0 None)) ∙ fold-roll-TypeExpression TypeSpan FieldSpan (Span TypeNode) FieldSpan FieldSpan type_step type_field_step type_item_step type_method_step type_tag_step (F.Named x0 None)
seen_Named x0 (Some x1) = ap type_span (sym (e.rolls-Named x0 (Some x1))) ∙ fold-roll-TypeExpression TypeSpan FieldSpan (Span TypeNode) FieldSpan FieldSpan type_step type_field_step type_item_step type_method_step type_tag_step (F.Named x0 (Some x1))

pub seen_Parenthesized : (x0 : List TypeItem) → type_span (e.Parenthesized x0) ≡ type_step (F.Parenthesized (map in_type_item x0))
unfolding type_span in_type_field in_type_item in_type_method in_type_tag
seen_Parenthesized x0 = ap type_span (sym (e.rolls-Parenthesized x0)) ∙ fold-roll-TypeExpression TypeSpan FieldSpan (Span TypeNode) FieldSpan FieldSpan type_step type_field_step type_item_step type_method_step type_tag_step (F.Parenthesized x0)

pub seen_Array : (x0 : Bool) (x1 : TypeExpression) → type_span (e.Array x0 x1) ≡ type_step (F.Array x0 (type_span x1))
unfolding type_span in_type_field in_type_item in_type_method in_type_tag
seen_Array x0 x1 = ap type_span (sym (e.rolls-Array x0 x1)) ∙ fold-roll-TypeExpression TypeSpan FieldSpan (Span TypeNode) FieldSpan FieldSpan type_step type_field_step type_item_step type_method_step type_tag_step (F.Array x0 x1)

pub seen_Object : (x0 : Bool) (x1 : List TypeField) (x2 : Bool) → type_span (e.Object x0 x1 x2) ≡ type_step (F.Object x0 (map in_type_field x1) x2)
unfolding type_span in_type_field in_type_item in_type_method in_type_tag
seen_Object x0 x1 x2 = ap type_span (sym (e.rolls-Object x0 x1 x2)) ∙ fold-roll-TypeExpression TypeSpan FieldSpan (Span TypeNode) FieldSpan FieldSpan type_step type_field_step type_item_step type_method_step type_tag_step (F.Object x0 x1 x2)

pub seen_EmptyVariant : type_span e.EmptyVariant ≡ type_step F.EmptyVariant
unfolding type_span in_type_field in_type_item in_type_method in_type_tag
seen_EmptyVariant = ap type_span (sym (e.rolls-EmptyVariant)) ∙ fold-roll-TypeExpression TypeSpan FieldSpan (Span TypeNode) FieldSpan FieldSpan type_step type_field_step type_item_step type_method_step type_tag_step F.EmptyVariant

pub seen_Variant : (x0 : List TypeTag) (x1 : Bool) → type_span (e.Variant x0 x1) ≡ type_step (F.Variant (map in_type_tag x0) x1)
unfolding type_span in_type_field in_type_item in_type_method in_type_tag
seen_Variant x0 x1 = ap type_span (sym (e.rolls-Variant x0 x1)) ∙ fold-roll-TypeExpression TypeSpan FieldSpan (Span TypeNode) FieldSpan FieldSpan type_step type_field_step type_item_step type_method_step type_tag_step (F.Variant x0 x1)

pub seen_Actor : (x0 : List TypeMethod) (x1 : Bool) → type_span (e.Actor x0 x1) ≡ type_step (F.Actor (map in_type_method x0) x1)
unfolding type_span in_type_field in_type_item in_type_method in_type_tag
seen_Actor x0 x1 = ap type_span (sym (e.rolls-Actor x0 x1)) ∙ fold-roll-TypeExpression TypeSpan FieldSpan (Span TypeNode) FieldSpan FieldSpan type_step type_field_step type_item_step type_method_step type_tag_step (F.Actor x0 x1)

pub seen_TypeField : (mutable : Bool) (name : Name) (annotation : TypeExpression) → in_type_field (roll-TypeField (record { mutable = mutable; name = name; annotation = annotation })) ≡ type_field_step (record { mutable = mutable; name = name; annotation = (type_span annotation) })
unfolding type_span in_type_field in_type_item in_type_method in_type_tag
seen_TypeField mutable name annotation = fold-roll-TypeField TypeSpan FieldSpan (Span TypeNode) FieldSpan FieldSpan type_step type_field_step type_item_step type_method_step type_tag_step (record { mutable = mutable; name = name; annotation = annotation })

pub seen_TypeItem : (name : Option Name) (annotation : TypeExpression) → in_type_item (roll-TypeItem (record { name = name; annotation = annotation })) ≡ type_item_step (record { name = name; annotation = (type_span annotation) })
unfolding type_span in_type_field in_type_item in_type_method in_type_tag
seen_TypeItem name annotation = fold-roll-TypeItem TypeSpan FieldSpan (Span TypeNode) FieldSpan FieldSpan type_step type_field_step type_item_step type_method_step type_tag_step (record { name = name; annotation = annotation })

pub seen_TypeMethod : (name : Name) (annotation : TypeExpression) → in_type_method (roll-TypeMethod (record { name = name; annotation = annotation })) ≡ type_method_step (record { name = name; annotation = (type_span annotation) })
unfolding type_span in_type_field in_type_item in_type_method in_type_tag
seen_TypeMethod name annotation = fold-roll-TypeMethod TypeSpan FieldSpan (Span TypeNode) FieldSpan FieldSpan type_step type_field_step type_item_step type_method_step type_tag_step (record { name = name; annotation = annotation })

pub seen_TypeTag : (name : Name) (payload : Option TypeExpression) → in_type_tag (roll-TypeTag (record { name = name; payload = payload })) ≡ type_tag_step (record { name = name; payload = (option_map type_span payload) })
unfolding type_span in_type_field in_type_item in_type_method in_type_tag
seen_TypeTag name None = fold-roll-TypeTag TypeSpan FieldSpan (Span TypeNode) FieldSpan FieldSpan type_step type_field_step type_item_step type_method_step type_tag_step (record { name = name; payload = None })
seen_TypeTag name (Some payload) = fold-roll-TypeTag TypeSpan FieldSpan (Span TypeNode) FieldSpan FieldSpan type_step type_field_step type_item_step type_method_step type_tag_step (record { name = name; payload = (Some payload) })
