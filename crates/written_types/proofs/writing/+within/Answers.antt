use Rattle.std.proofs.lemmas.List.{take_more}
use Rattle.std.proofs.Common.{◌∙◌, [], ◌∷◌, ◌++◌, ap, sym, take}
use Rattle.type_definitions.proofs.PutIn.{if_ok}
use Rattle.abstract_types.specs.declared.types.TypeNode.{TypeNode}
use Rattle.abstract_types.specs.declared.types.TypeField.{TypeField}
use Rattle.abstract_types.specs.declared.types.TypeForm.TheVariants as e
use Rattle.type_scopes.specs.Scopes.{seen}
use Rattle.written_types.proofs.Making.{next_written, next_field, field_done, tag_done, function_done, shared_done, local_is, optional_done, async_done, array_done, mutable_done, tuple_done, use_done, object_done, variant_done, actor_done, function_back}
use Rattle.written_types.proofs.writing.+within.Goals as goal

pub each_within-loop-node-preserved : goal.each_within-loop-node-preserved
each_within-loop-node-preserved t c =
    next_written (seen c.args.scope.now) c.args.types.now c.loop-node.types c.term_within.new.types c.args.nodes.now c.loop-node.node-index c.node-item.result c.loop-node.made.items c.push.new.self.items c.in_ok-term_within.field-0
    (take_more c.args.nodes.now c.loop-node.node-index c.node-item.result c.loop-node-test.true ∙ ap (λ (n : TypeNode). take c.loop-node.node-index c.args.nodes.now ++ n ∷ []) (sym c.node-item.is))
    c.in_ok-push.ensures.items c.loop-node.invariant c.in_ok-term_within.ensures

pub fields_within-loop-field-preserved : goal.fields_within-loop-field-preserved
fields_within-loop-field-preserved t c =
    next_field (seen c.args.scope.now) c.args.types.now c.loop-field.types c.field_within.new.types c.args.fields.now c.loop-field.field-index c.field-item.result c.loop-field.made.items c.push.new.self.items c.in_ok-field_within.field-0
    (take_more c.args.fields.now c.loop-field.field-index c.field-item.result c.loop-field-test.true ∙ ap (λ (n : TypeField). take c.loop-field.field-index c.args.fields.now ++ n ∷ []) (sym c.field-item.is))
    c.in_ok-push.ensures.items c.loop-field.invariant c.in_ok-field_within.ensures

pub field_within-returns-in_ok-part-in-Field : goal.field_within-returns-in_ok-part-in-Field
field_within-returns-in_ok-part-in-Field t c = if_ok c.labelled.result _ _ c.labelled.ensures
    (λ m k. field_done (seen c.args.scope.now) c.args.types.now c.term_within.new.types c.args.field.now c.in-Field.mutable c.in-Field.name c.in-Field.of c.in_ok-part-in-Field.part m c.in-Field.is c.in_ok-part-in-Field.ensures k)

pub field_within-returns-in_ok-part-in-EmptyTag : goal.field_within-returns-in_ok-part-in-EmptyTag
field_within-returns-in_ok-part-in-EmptyTag t c = if_ok c.labelled-in-EmptyTag.result _ _ c.labelled-in-EmptyTag.ensures
    (λ m k. tag_done (seen c.args.scope.now) c.args.types.now c.unit.new.types c.args.field.now c.in-EmptyTag.name c.in_ok-part-in-EmptyTag.part m c.in-EmptyTag.is c.in_ok-part-in-EmptyTag.ensures k)

pub function_within-returns-in_ok-promised-in-Some : goal.function_within-returns-in_ok-promised-in-Some
function_within-returns-in_ok-promised-in-Some t c = if_ok c.shared.result _ _ c.shared.ensures
    (λ r i at. shared_done (seen c.args.scope.now) c.args.types.now c.each_within.new.types c.term_within.new.types c.shared.new.types c.args.parameters.now c.args.of.now c.in_ok-parameters.parameters c.in_ok-promised-in-Some.promised r
    c.args.sharing c.sort_of-sort.result c.in-Some.promised.now at c.sort_of-sort.ensures c.in-Some.ensures c.in_ok-parameters.ensures c.in_ok-promised-in-Some.ensures i)

pub function_within-returns-in_ok-of-in-None : goal.function_within-returns-in_ok-of-in-None
function_within-returns-in_ok-of-in-None t c = if_ok c.function.result _ _ c.function.ensures
    (λ r i at. function_done (seen c.args.scope.now) c.args.types.now c.each_within.new.types c.term_within-in-None.new.types c.function.new.types c.args.parameters.now c.args.of.now c.in_ok-parameters.parameters c.in_ok-of-in-None.of r
    c.args.sharing at c.in_ok-parameters.ensures c.in_ok-of-in-None.ensures i (local_is (seen c.args.scope.now) c.args.sharing at _ _ c.in-None.ensures))

pub term_within-returns-in-Function : goal.term_within-returns-in-Function
term_within-returns-in-Function t c = if_ok c.function_within.result _ _ c.function_within.ensures
    (λ r h. function_back (seen c.args.scope.now) c.args.types.now c.function_within.new.types c.args.node.now c.in-Function.sharing c.in-Function.parameters c.as_slice.result.now c.in-Function.of r (sym c.get.ensures ∙ c.in-Function.is) c.as_slice.ensures (h c.args.node.now.at))

pub term_within-returns-in_ok-of-in-Optional : goal.term_within-returns-in_ok-of-in-Optional
term_within-returns-in_ok-of-in-Optional t c = if_ok c.optional.result _ _ c.optional.ensures
    (λ r i. optional_done (seen c.args.scope.now) c.args.types.now c.term_within.new.types c.optional.new.types c.args.node.now c.in-Optional.of c.in_ok-of-in-Optional.of r (sym c.get.ensures ∙ c.in-Optional.is) c.in_ok-of-in-Optional.ensures i)

pub term_within-returns-in_ok-of-in-Async : goal.term_within-returns-in_ok-of-in-Async
term_within-returns-in_ok-of-in-Async t c = if_ok c.future.result _ _ c.future.ensures
    (λ r i. async_done (seen c.args.scope.now) c.args.types.now c.term_within-in-Async.new.types c.future.new.types c.args.node.now c.in-Async.of c.in_ok-of-in-Async.of r (sym c.get.ensures ∙ c.in-Async.is) c.in_ok-of-in-Async.ensures i)

pub term_within-returns-then-mutable : goal.term_within-returns-then-mutable
term_within-returns-then-mutable t c = if_ok c.mutable_array.result _ _ c.mutable_array.ensures
    (λ r i. mutable_done (seen c.args.scope.now) c.args.types.now c.term_within-in-Array.new.types c.mutable_array.new.types c.args.node.now c.in-Array.of c.in_ok-of-in-Array.of r
    (sym c.get.ensures ∙ (c.in-Array.is ∙ ap (λ b. e.Array b c.in-Array.of) c.if-mutable.true)) c.in_ok-of-in-Array.ensures i)

pub term_within-returns-else-mutable : goal.term_within-returns-else-mutable
term_within-returns-else-mutable t c = if_ok c.array.result _ _ c.array.ensures
    (λ r i. array_done (seen c.args.scope.now) c.args.types.now c.term_within-in-Array.new.types c.array.new.types c.args.node.now c.in-Array.of c.in_ok-of-in-Array.of r
    (sym c.get.ensures ∙ (c.in-Array.is ∙ ap (λ b. e.Array b c.in-Array.of) c.if-mutable.false)) c.in_ok-of-in-Array.ensures i)

pub term_within-returns-in_ok-items-in-Tuple : goal.term_within-returns-in_ok-items-in-Tuple
term_within-returns-in_ok-items-in-Tuple t c = if_ok c.tuple.result _ _ c.tuple.ensures
    (λ r i. tuple_done (seen c.args.scope.now) c.args.types.now c.each_within-in-Tuple.new.types c.tuple.new.types c.args.node.now c.in-Tuple.items c.as_slice-in-Tuple.result.now c.in_ok-items-in-Tuple.items r
    (sym c.get.ensures ∙ c.in-Tuple.is) c.as_slice-in-Tuple.ensures c.in_ok-items-in-Tuple.ensures i)

pub term_within-returns-in_ok-arguments-in-Use : goal.term_within-returns-in_ok-arguments-in-Use
term_within-returns-in_ok-arguments-in-Use t c = if_ok c.used.result _ _ c.used.ensures
    (λ r i. use_done (seen c.args.scope.now) c.args.types.now c.each_within.new.types c.used.new.types c.args.node.now c.in-Use.name c.as_slice-in-Use-2.result.now c.in-Use.arguments c.as_slice-in-Use.result.now c.in_ok-arguments-in-Use.arguments
    c.as_slice-in-Use-3.result.now r (sym c.get.ensures ∙ c.in-Use.is) c.as_slice-in-Use-2.ensures c.as_slice-in-Use.ensures c.in_ok-arguments-in-Use.ensures c.as_slice-in-Use-3.ensures i)

pub term_within-returns-in_ok-fields-in-Object : goal.term_within-returns-in_ok-fields-in-Object
term_within-returns-in_ok-fields-in-Object t c = if_ok c.object.result _ _ c.object.ensures
    (λ r i. object_done (seen c.args.scope.now) c.args.types.now c.fields_within.new.types c.object.new.types c.args.node.now c.in-Object.fields c.as_slice-in-Object.result.now c.in_ok-fields-in-Object.fields r c.as_slice-in-Object.ensures c.in_ok-fields-in-Object.ensures
    (sym c.get.ensures ∙ c.in-Object.is) i)

pub term_within-returns-in_ok-tags-in-Variant : goal.term_within-returns-in_ok-tags-in-Variant
term_within-returns-in_ok-tags-in-Variant t c = if_ok c.variant.result _ _ c.variant.ensures
    (λ r i. variant_done (seen c.args.scope.now) c.args.types.now c.fields_within-in-Variant.new.types c.variant.new.types c.args.node.now c.in-Variant.tags c.as_slice-in-Variant.result.now c.in_ok-tags-in-Variant.tags r c.as_slice-in-Variant.ensures c.in_ok-tags-in-Variant.ensures
    (sym c.get.ensures ∙ c.in-Variant.is) i)

pub term_within-returns-in_ok-methods-in-Actor : goal.term_within-returns-in_ok-methods-in-Actor
term_within-returns-in_ok-methods-in-Actor t c = if_ok c.actor.result _ _ c.actor.ensures
    (λ r i. actor_done (seen c.args.scope.now) c.args.types.now c.fields_within-in-Actor.new.types c.actor.new.types c.args.node.now c.in-Actor.methods c.as_slice-in-Actor.result.now c.in_ok-methods-in-Actor.methods r c.as_slice-in-Actor.ensures c.in_ok-methods-in-Actor.ensures
    (sym c.get.ensures ∙ c.in-Actor.is) i)
