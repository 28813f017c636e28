use Rattle.std.proofs.Common.{List, ap, sym, ◌∙◌, map}
use Rattle.abstract_types.specs.declared.types.TypeNode.{TypeNode}
use Rattle.abstract_types.specs.declared.types.TypeField.{TypeField}
use Rattle.abstract_types.specs.TypeView.{type_field, type_node}
use Rattle.type_copies.proofs.Copies.{actor_copied, array_copied, async_copied, field_copied, function_copied, if_ok, node_copied, object_copied, optional_copied, tuple_copied, use_copied, variant_copied}
use Rattle.type_copies.proofs.copying.+within.Goals as goal

pub field_within-returns-in_ok-of-in-Field : goal.field_within-returns-in_ok-of-in-Field
field_within-returns-in_ok-of-in-Field t c =
    field_copied c.args.field.now c.in-Field.mutable c.in-Field.name c.in_ok-name-in-Field.name c.in-Field.of c.in_ok-of-in-Field.of c.in-Field.is c.in_ok-name-in-Field.ensures c.in_ok-of-in-Field.ensures

pub form_within-returns-in_ok-of-in-Function : goal.form_within-returns-in_ok-of-in-Function
form_within-returns-in_ok-of-in-Function t c =
    function_copied c.args.form.now c.in-Function.sharing c.in-Function.parameters c.in_ok-parameters-in-Function.parameters c.in-Function.of c.in_ok-of-in-Function.of c.in-Function.is
    (c.in_ok-parameters-in-Function.ensures ∙ ap (λ (l : List TypeNode). map type_node l) c.as_slice.ensures) c.in_ok-of-in-Function.ensures

pub form_within-returns-in_ok-type_within-in-Optional : goal.form_within-returns-in_ok-type_within-in-Optional
form_within-returns-in_ok-type_within-in-Optional t c = optional_copied c.args.form.now c.in-Optional.of c.in_ok-type_within-in-Optional.field-0 c.in-Optional.is c.in_ok-type_within-in-Optional.ensures

pub form_within-returns-in_ok-type_within-in-Async : goal.form_within-returns-in_ok-type_within-in-Async
form_within-returns-in_ok-type_within-in-Async t c = async_copied c.args.form.now c.in-Async.of c.in_ok-type_within-in-Async.field-0 c.in-Async.is c.in_ok-type_within-in-Async.ensures

pub form_within-returns-in_ok-arguments-in-Use : goal.form_within-returns-in_ok-arguments-in-Use
form_within-returns-in_ok-arguments-in-Use t c =
    use_copied c.args.form.now c.in-Use.name c.in_ok-name-in-Use.name c.in-Use.arguments c.in_ok-arguments-in-Use.arguments c.in-Use.is (c.in_ok-name-in-Use.ensures ∙ c.as_slice-in-Use.ensures)
    (c.in_ok-arguments-in-Use.ensures ∙ ap (λ (l : List TypeNode). map type_node l) c.as_slice-in-Use-2.ensures)

pub form_within-returns-in_ok-items-in-Tuple : goal.form_within-returns-in_ok-items-in-Tuple
form_within-returns-in_ok-items-in-Tuple t c =
    tuple_copied c.args.form.now c.in-Tuple.items c.in_ok-items-in-Tuple.items c.in-Tuple.is (c.in_ok-items-in-Tuple.ensures ∙ ap (λ (l : List TypeNode). map type_node l) c.as_slice-in-Tuple.ensures)

pub form_within-returns-in_ok-of-in-Array : goal.form_within-returns-in_ok-of-in-Array
form_within-returns-in_ok-of-in-Array t c = array_copied c.args.form.now c.in-Array.mutable c.in-Array.of c.in_ok-of-in-Array.of c.in-Array.is c.in_ok-of-in-Array.ensures

pub form_within-returns-in_ok-fields-in-Object : goal.form_within-returns-in_ok-fields-in-Object
form_within-returns-in_ok-fields-in-Object t c =
    object_copied c.args.form.now c.in-Object.fields c.in_ok-fields-in-Object.fields c.in-Object.is (c.in_ok-fields-in-Object.ensures ∙ ap (λ (l : List TypeField). map type_field l) c.as_slice-in-Object.ensures)

pub form_within-returns-in_ok-tags-in-Variant : goal.form_within-returns-in_ok-tags-in-Variant
form_within-returns-in_ok-tags-in-Variant t c =
    variant_copied c.args.form.now c.in-Variant.tags c.in_ok-tags-in-Variant.tags c.in-Variant.is (c.in_ok-tags-in-Variant.ensures ∙ ap (λ (l : List TypeField). map type_field l) c.as_slice-in-Variant.ensures)

pub form_within-returns-in_ok-methods-in-Actor : goal.form_within-returns-in_ok-methods-in-Actor
form_within-returns-in_ok-methods-in-Actor t c =
    actor_copied c.args.form.now c.in-Actor.methods c.in_ok-methods-in-Actor.methods c.in-Actor.is (c.in_ok-methods-in-Actor.ensures ∙ ap (λ (l : List TypeField). map type_field l) c.as_slice-in-Actor.ensures)

pub type_within-returns : goal.type_within-returns
type_within-returns t c = if_ok c.made.result _ _ c.made.ensures (λ m h. node_copied m c.args.node.now c.in_ok-form.form c.get.result.now h (sym c.get.ensures) c.in_ok-form.ensures)
