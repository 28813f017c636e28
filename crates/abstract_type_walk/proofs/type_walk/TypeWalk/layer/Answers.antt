use Rattle.std.proofs.Common.{◌∙◌, ap}
use Rattle.typing_rules.specs.AbstractTypes.{type_span}
use Rattle.typing_rules.proofs.TypeSpans as S
use Rattle.abstract_type_walk.proofs.TypeMaking.{layer_made, optional_made, async_made, use_made, array_made, object_made, empty_made, variant_made, actor_made}
use Rattle.abstract_type_walk.proofs.type_walk.TypeWalk.layer.Goals as goal

pub returns-in_ok-of-in-Optional : goal.returns-in_ok-of-in-Optional
returns-in_ok-of-in-Optional g c = optional_made c.args.a.now _ c.args.at _ _ c.finish.result c.in-Optional.is c.in_ok-of-in-Optional.ensures c.finish.ensures

pub returns-in_ok-of-in-Async : goal.returns-in_ok-of-in-Async
returns-in_ok-of-in-Async g c = async_made c.args.a.now _ c.args.at _ _ c.finish-in-Async.result c.in-Async.is c.in_ok-of-in-Async.ensures c.finish-in-Async.ensures

pub returns-in_ok-arguments-in-Named : goal.returns-in_ok-arguments-in-Named
returns-in_ok-arguments-in-Named g c = use_made c.args.a.now c.in-Named.name _ _ c.args.at _ _ c.finish-in-Named.result c.in-Named.is (c.in_ok-name-in-Named.ensures ∙ c.as_slice.ensures) c.in_ok-arguments-in-Named.ensures c.finish-in-Named.ensures

pub returns-in_ok-of-in-Array : goal.returns-in_ok-of-in-Array
returns-in_ok-of-in-Array g c = array_made c.args.a.now _ c.in-Array.mutable c.args.at _ _ _ c.finish-in-Array.result c.in-Array.is c.count_if.ensures.count c.in_ok-of-in-Array.ensures c.finish-in-Array.ensures

pub returns-in_ok-fields-in-Object : goal.returns-in_ok-fields-in-Object
returns-in_ok-fields-in-Object g c = object_made c.args.a.now c.in-Object.word c.in-Object.last c.in-Object.fields c.args.at _ _ _ _ c.finish-in-Object.result c.in-Object.is c.count_if-in-Object.ensures.count c.count_if-in-Object-2.ensures.count (rw c.as_slice-in-Object.ensures at c.in_ok-fields-in-Object.ensures) c.finish-in-Object.ensures

pub returns-in-EmptyVariant : goal.returns-in-EmptyVariant
returns-in-EmptyVariant g c = empty_made c.args.a.now c.args.at _ c.finish-in-EmptyVariant.result c.in-EmptyVariant.is c.new.ensures c.finish-in-EmptyVariant.ensures

pub returns-in_ok-tags-in-Variant : goal.returns-in_ok-tags-in-Variant
returns-in_ok-tags-in-Variant g c = variant_made c.args.a.now c.in-Variant.last c.in-Variant.tags c.args.at _ _ _ c.finish-in-Variant.result c.in-Variant.is c.count_if-in-Variant.ensures.count (rw c.as_slice-in-Variant.ensures at c.in_ok-tags-in-Variant.ensures) c.finish-in-Variant.ensures

pub returns-in_ok-methods-in-Actor : goal.returns-in_ok-methods-in-Actor
returns-in_ok-methods-in-Actor g c = actor_made c.args.a.now c.in-Actor.last c.in-Actor.methods c.args.at _ _ _ c.finish-in-Actor.result c.in-Actor.is c.count_if-in-Actor.ensures.count (rw c.as_slice-in-Actor.ensures at c.in_ok-methods-in-Actor.ensures) c.finish-in-Actor.ensures

pub returns-in-Function : goal.returns-in-Function
returns-in-Function g c = layer_made c.args.a.now _ c.args.at c.function.result (ap type_span c.in-Function.is ∙ S.seen_Function _ _ _) c.function.ensures

pub returns-in-Parenthesized : goal.returns-in-Parenthesized
returns-in-Parenthesized g c = layer_made c.args.a.now _ c.args.at c.parenthesized.result (ap type_span c.in-Parenthesized.is ∙ S.seen_Parenthesized _) (rw c.as_slice-in-Parenthesized.ensures at c.parenthesized.ensures)
