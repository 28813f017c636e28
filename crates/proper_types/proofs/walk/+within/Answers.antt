use Rattle.std.proofs.lemmas.List.{take_more}
use Rattle.std.proofs.Common.{◌∙◌, [], ◌∷◌, ◌++◌, Ok, ap, eq-eqb, length, nat_eq, sym, take}
use Rattle.std.proofs.lemmas.Bool.{ne_eqb}
use Rattle.definition_rules.proofs.Adding.{take_all}
use Rattle.abstract_types.specs.declared.types.TypeNode.{TypeNode}
use Rattle.abstract_types.specs.declared.types.TypeField.{TypeField}
use Rattle.type_scopes.specs.Scopes.{seen}
use Rattle.proper_types.specs.Rules.{done, part, proper}
use Rattle.proper_types.proofs.Judging.{handed}
use Rattle.proper_types.proofs.Turns.{all_at, next_at, stops_at}
use Rattle.proper_types.proofs.Walking.{actor_arm, array_arm, async_arm, field_part, function_arm, function_node, local_parameters, local_result, method_part, no_promise, no_use_arm, object_arm, one, one_part, optional_arm, part_refused, shared_parameters, shared_promise, shared_sent, tag_part, tuple_arm, use_arm, variant_arm}
use Rattle.proper_types.proofs.walk.+within.Goals as goal

-- ---- lists

pub each_within-loop-node-preserved : goal.each_within-loop-node-preserved
each_within-loop-node-preserved t c =
    next_at (one (seen c.args.scope.now)) c.args.types.now c.loop-node.types c.proper_within.new.types c.loop-node.sharing c.proper_within.new.sharing c.args.nodes.now c.loop-node.node-index c.node-item.result
    (take_more c.args.nodes.now c.loop-node.node-index c.node-item.result c.loop-node-test.true ∙ ap (λ (n : TypeNode). take c.loop-node.node-index c.args.nodes.now ++ n ∷ []) (sym c.node-item.is))
    c.loop-node.invariant c.in_ok-proper_within.ensures

pub each_within-returns-in_err-proper_within : goal.each_within-returns-in_err-proper_within
each_within-returns-in_err-proper_within t c =
    stops_at (one (seen c.args.scope.now)) c.args.types.now c.loop-node.types c.proper_within.new.types c.loop-node.sharing c.proper_within.new.sharing c.args.nodes.now c.loop-node.node-index c.node-item.result
    c.in_err-proper_within.field-0.0 c.from_residual.result c.from_residual.ensures
    (take_more c.args.nodes.now c.loop-node.node-index c.node-item.result c.loop-node-test.true ∙ ap (λ (n : TypeNode). take c.loop-node.node-index c.args.nodes.now ++ n ∷ []) (sym c.node-item.is))
    c.loop-node.invariant c.in_err-proper_within.ensures

pub each_within-returns : goal.each_within-returns
each_within-returns t c = all_at (one (seen c.args.scope.now)) c.args.types.now c.loop-node.types c.loop-node.sharing c.args.nodes.now c.loop-node.node-index (take_all c.args.nodes.now c.loop-node.node-index c.loop-node-test.false) c.loop-node.invariant

pub parts_within-loop-field-preserved : goal.parts_within-loop-field-preserved
parts_within-loop-field-preserved t c =
    next_at (one_part (seen c.args.scope.now) c.args.of_actor) c.args.types.now c.loop-field.types c.part_within.new.types c.loop-field.sharing c.part_within.new.sharing c.args.fields.now c.loop-field.field-index c.field-item.result
    (take_more c.args.fields.now c.loop-field.field-index c.field-item.result c.loop-field-test.true ∙ ap (λ (n : TypeField). take c.loop-field.field-index c.args.fields.now ++ n ∷ []) (sym c.field-item.is))
    c.loop-field.invariant c.in_ok-part_within.ensures

pub parts_within-returns-in_err-part_within : goal.parts_within-returns-in_err-part_within
parts_within-returns-in_err-part_within t c =
    stops_at (one_part (seen c.args.scope.now) c.args.of_actor) c.args.types.now c.loop-field.types c.part_within.new.types c.loop-field.sharing c.part_within.new.sharing c.args.fields.now c.loop-field.field-index c.field-item.result
    c.in_err-part_within.field-0.0 c.from_residual.result c.from_residual.ensures
    (take_more c.args.fields.now c.loop-field.field-index c.field-item.result c.loop-field-test.true ∙ ap (λ (n : TypeField). take c.loop-field.field-index c.args.fields.now ++ n ∷ []) (sym c.field-item.is))
    c.loop-field.invariant c.in_err-part_within.ensures

pub parts_within-returns : goal.parts_within-returns
parts_within-returns t c = all_at (one_part (seen c.args.scope.now) c.args.of_actor) c.args.types.now c.loop-field.types c.loop-field.sharing c.args.fields.now c.loop-field.field-index (take_all c.args.fields.now c.loop-field.field-index c.loop-field-test.false) c.loop-field.invariant

-- ---- fields and methods

pub part_within-returns-in_err-proper_within-in-Field : goal.part_within-returns-in_err-proper_within-in-Field
part_within-returns-in_err-proper_within-in-Field t c =
    handed (part (seen c.args.scope.now) c.args.of_actor c.args.field.now) c.args.types.now c.proper_within.new.types c.proper_within.new.sharing c.proper_within.new.sharing done done c.in_err-proper_within-in-Field.field-0.0 c.from_residual.result c.from_residual.ensures
    (part_refused (seen c.args.scope.now) c.args.field.now c.in-Field.field-0 c.in-Field.name c.in-Field.of c.in-Field.is c.args.of_actor c.args.types.now c.proper_within.new.types c.proper_within.new.sharing c.proper_within.new.sharing c.in_err-proper_within-in-Field.field-0.0 c.in_err-proper_within-in-Field.ensures)

pub part_within-returns-then-of_actor : goal.part_within-returns-then-of_actor
part_within-returns-then-of_actor t c =
    method_part (seen c.args.scope.now) c.args.field.now c.in-Field.field-0 c.in-Field.name c.in-Field.of c.in-Field.is c.args.of_actor c.args.types.now c.proper_within.new.types c.needs_method.new.types c.proper_within.new.sharing c.proper_within.new.sharing c.needs_method.result
    c.if-of_actor.true c.in_ok-proper_within-in-Field.ensures c.needs_method.ensures

pub part_within-returns-else-of_actor : goal.part_within-returns-else-of_actor
part_within-returns-else-of_actor t c =
    field_part (seen c.args.scope.now) c.args.field.now c.in-Field.field-0 c.in-Field.name c.in-Field.of c.in-Field.is c.args.of_actor c.args.types.now c.proper_within.new.types c.proper_within.new.sharing (Ok tt) c.if-of_actor.false c.in_ok-proper_within-in-Field.ensures

pub part_within-returns-in-EmptyTag : goal.part_within-returns-in-EmptyTag
part_within-returns-in-EmptyTag t c = tag_part (seen c.args.scope.now) c.args.field.now c.args.of_actor c.in-EmptyTag.field-0 c.args.types.now c.args.sharing.now c.in-EmptyTag.is c.requires

-- ---- functions

pub function_within-returns-in_err-each_within-in-Local : goal.function_within-returns-in_err-each_within-in-Local
function_within-returns-in_err-each_within-in-Local t c =
    handed (proper (seen c.args.scope.now) (function_node (seen c.args.scope.now) c.args.at c.args.called c.args.parameters.now c.args.of.now)) c.args.types.now c.each_within.new.types c.each_within.new.sharing c.each_within.new.sharing done done c.in_err-each_within-in-Local.field-0.0 c.from_residual.result c.from_residual.ensures
    (local_parameters (seen c.args.scope.now) c.args.at c.args.called c.args.parameters.now c.args.of.now c.args.types.now c.each_within.new.types c.each_within.new.sharing c.each_within.new.sharing c.in_err-each_within-in-Local.field-0.0 c.in-Local.is c.in_err-each_within-in-Local.ensures)

pub function_within-returns-in_ok-each_within-in-Local : goal.function_within-returns-in_ok-each_within-in-Local
function_within-returns-in_ok-each_within-in-Local t c =
    local_result (seen c.args.scope.now) c.args.at c.args.called c.args.parameters.now c.args.of.now c.proper_within.result c.args.types.now c.each_within.new.types c.proper_within.new.types c.each_within.new.sharing c.proper_within.new.sharing
    c.in-Local.is c.in_ok-each_within-in-Local.ensures c.proper_within.ensures

pub function_within-returns-in_err-each_within-in-Some : goal.function_within-returns-in_err-each_within-in-Some
function_within-returns-in_err-each_within-in-Some t c =
    handed (proper (seen c.args.scope.now) (function_node (seen c.args.scope.now) c.args.at c.args.called c.args.parameters.now c.args.of.now)) c.args.types.now c.each_within-in-Some.new.types c.each_within-in-Some.new.sharing c.each_within-in-Some.new.sharing done done
    c.in_err-each_within-in-Some.field-0.0 c.from_residual-in_err-each_within-in-Some.result c.from_residual-in_err-each_within-in-Some.ensures
    (shared_parameters (seen c.args.scope.now) c.args.at c.args.called c.args.parameters.now c.args.of.now c.in-Some.promised.now c.in_default.not-Local c.in-Some.ensures c.args.types.now c.each_within-in-Some.new.types c.each_within-in-Some.new.sharing c.each_within-in-Some.new.sharing
    c.in_err-each_within-in-Some.field-0.0 c.in_err-each_within-in-Some.ensures)

pub function_within-returns-in_err-proper_within-in-Some : goal.function_within-returns-in_err-proper_within-in-Some
function_within-returns-in_err-proper_within-in-Some t c =
    handed (proper (seen c.args.scope.now) (function_node (seen c.args.scope.now) c.args.at c.args.called c.args.parameters.now c.args.of.now)) c.args.types.now c.proper_within-in-Some.new.types c.proper_within-in-Some.new.sharing c.proper_within-in-Some.new.sharing done done
    c.in_err-proper_within-in-Some.field-0.0 c.from_residual-in_err-proper_within-in-Some.result c.from_residual-in_err-proper_within-in-Some.ensures
    (shared_promise (seen c.args.scope.now) c.args.at c.args.called c.args.parameters.now c.args.of.now c.in-Some.promised.now c.in_default.not-Local c.in-Some.ensures c.args.types.now c.each_within-in-Some.new.types c.each_within-in-Some.new.sharing c.in_ok-each_within-in-Some.ensures
    c.proper_within-in-Some.new.types c.proper_within-in-Some.new.sharing c.proper_within-in-Some.new.sharing c.in_err-proper_within-in-Some.field-0.0 c.in_err-proper_within-in-Some.ensures)

pub function_within-returns-in_ok-proper_within-in-Some : goal.function_within-returns-in_ok-proper_within-in-Some
function_within-returns-in_ok-proper_within-in-Some t c =
    shared_sent (seen c.args.scope.now) c.args.at c.args.called c.args.parameters.now c.args.of.now c.in-Some.promised.now c.in_default.not-Local c.in-Some.ensures c.args.types.now c.each_within-in-Some.new.types c.each_within-in-Some.new.sharing c.in_ok-each_within-in-Some.ensures
    c.all_shareable.result c.proper_within-in-Some.new.types c.all_shareable.new.types c.proper_within-in-Some.new.sharing c.all_shareable.new.sharing c.in_ok-proper_within-in-Some.ensures c.all_shareable.ensures

pub function_within-returns-in-None : goal.function_within-returns-in-None
function_within-returns-in-None t c = no_promise (seen c.args.scope.now) c.args.at c.args.called c.args.parameters.now c.args.of.now c.args.types.now c.in_default.not-Local c.in-None.ensures

-- ---- forms

pub proper_within-returns-in-Function : goal.proper_within-returns-in-Function
proper_within-returns-in-Function t c =
    function_arm (seen c.args.scope.now) c.args.types.now c.function_within.new.types c.function_within.new.sharing c.function_within.result c.args.node.now c.in-Function.called c.in-Function.parameters c.as_slice.result.now c.in-Function.of
    (sym c.get.ensures ∙ c.in-Function.is) c.as_slice.ensures c.function_within.ensures

pub proper_within-returns-in-Optional : goal.proper_within-returns-in-Optional
proper_within-returns-in-Optional t c =
    optional_arm (seen c.args.scope.now) c.args.types.now c.proper_within.new.types c.proper_within.new.sharing c.proper_within.result c.args.node.now c.in-Optional.of (sym c.get.ensures ∙ c.in-Optional.is) c.proper_within.ensures

pub proper_within-returns-in-Async : goal.proper_within-returns-in-Async
proper_within-returns-in-Async t c = async_arm (seen c.args.scope.now) c.args.types.now c.args.types.now c.args.sharing.now c.args.node.now c.in-Async.field-0 (sym c.get.ensures ∙ c.in-Async.is)

pub proper_within-returns-in-Tuple : goal.proper_within-returns-in-Tuple
proper_within-returns-in-Tuple t c =
    tuple_arm (seen c.args.scope.now) c.args.types.now c.each_within-in-Tuple.new.types c.each_within-in-Tuple.new.sharing c.each_within-in-Tuple.result c.args.node.now c.in-Tuple.items c.as_slice-in-Tuple.result.now
    (sym c.get.ensures ∙ c.in-Tuple.is) c.as_slice-in-Tuple.ensures c.each_within-in-Tuple.ensures

pub proper_within-returns-in-Array : goal.proper_within-returns-in-Array
proper_within-returns-in-Array t c =
    array_arm (seen c.args.scope.now) c.args.types.now c.proper_within-in-Array.new.types c.proper_within-in-Array.new.sharing c.proper_within-in-Array.result c.args.node.now c.in-Array.field-0 c.in-Array.of (sym c.get.ensures ∙ c.in-Array.is) c.proper_within-in-Array.ensures

pub proper_within-returns-in-Object : goal.proper_within-returns-in-Object
proper_within-returns-in-Object t c =
    object_arm (seen c.args.scope.now) c.args.types.now c.parts_within.new.types c.parts_within.new.sharing c.parts_within.result c.args.node.now c.in-Object.fields c.as_slice-in-Object.result.now
    (sym c.get.ensures ∙ c.in-Object.is) c.as_slice-in-Object.ensures c.parts_within.ensures

pub proper_within-returns-in-Variant : goal.proper_within-returns-in-Variant
proper_within-returns-in-Variant t c =
    variant_arm (seen c.args.scope.now) c.args.types.now c.parts_within-in-Variant.new.types c.parts_within-in-Variant.new.sharing c.parts_within-in-Variant.result c.args.node.now c.in-Variant.tags c.as_slice-in-Variant.result.now
    (sym c.get.ensures ∙ c.in-Variant.is) c.as_slice-in-Variant.ensures c.parts_within-in-Variant.ensures

pub proper_within-returns-in-Actor : goal.proper_within-returns-in-Actor
proper_within-returns-in-Actor t c =
    actor_arm (seen c.args.scope.now) c.args.types.now c.parts_within-in-Actor.new.types c.parts_within-in-Actor.new.sharing c.parts_within-in-Actor.result c.args.node.now c.in-Actor.methods c.as_slice-in-Actor.result.now
    (sym c.get.ensures ∙ c.in-Actor.is) c.as_slice-in-Actor.ensures c.parts_within-in-Actor.ensures

pub proper_within-returns-then-arguments-arity : goal.proper_within-returns-then-arguments-arity
proper_within-returns-then-arguments-arity t c =
    use_arm (seen c.args.scope.now) c.args.types.now c.each_within.new.types c.each_within.new.sharing c.args.node.now c.each_within.result c.in-Use.name c.as_slice-in-Use.result.now c.in-Use.arguments c.as_slice-arguments.result.now
    (sym c.get.ensures ∙ c.in-Use.is) c.as_slice-in-Use.ensures c.as_slice-arguments.ensures
    (ap (nat_eq (length c.as_slice-arguments.result.now)) (sym c.arity.ensures) ∙ eq-eqb (length c.as_slice-arguments.result.now) c.arity.result c.if-arguments-arity.true) c.each_within.ensures

pub proper_within-returns-else-arguments-arity : goal.proper_within-returns-else-arguments-arity
proper_within-returns-else-arguments-arity t c =
    no_use_arm (seen c.args.scope.now) c.args.types.now c.args.types.now c.args.sharing.now c.args.node.now c.in-Use.name c.as_slice-in-Use.result.now c.in-Use.arguments c.as_slice-arguments.result.now
    (sym c.get.ensures ∙ c.in-Use.is) c.as_slice-in-Use.ensures c.as_slice-arguments.ensures
    (ap (nat_eq (length c.as_slice-arguments.result.now)) (sym c.arity.ensures) ∙ ne_eqb (length c.as_slice-arguments.result.now) c.arity.result c.if-arguments-arity.false)
