use Rattle.std.proofs.Common.{suc, List, Option, ◌++◌, drop, map, sym, ap, ap₂, ◌∙◌, add-one}
use Rattle.mo_types.specs.declared.node.TypeId.{TypeId}
use Rattle.mo_values.specs.Messages.{labels, types, under}
use Rattle.mo_values.specs.Shapes.{Bytes}
use Rattle.value_arena.specs.declared.node.ValueId.{ValueId}
use Rattle.arena_messages.specs.declared.waiting.AtType.{AtType}
use Rattle.arena_messages.specs.Waiting.{asked_ids, both_ids}
use Rattle.arena_messages.proofs.Waits.{asked_step, more}
use Rattle.arena_messages.proofs.waiting.push_labelled.Goals as goal

pub loop-place-preserved : goal.loop-place-preserved
loop-place-preserved c =
    let i = c.loop-place.place in
    let type_of : Bytes → Option TypeId = λ m. under m (labels c.args.fields.now) (types c.args.fields.now) in
    rw add-one
    (more c.loop-place.waiting.items c.push_both.new.waiting.items _ (asked_ids (map type_of (drop (suc i) c.args.names.now)) (drop (suc i) c.args.values.now)) _
    (ap (λ (l : List AtType). c.loop-place.waiting.items ++ l) (sym (asked_step type_of c.args.names.now c.args.values.now i c.index-names-place.result c.loop-place-test.true)) ∙ c.loop-place.invariant)
    (c.in_ok-push_both.ensures ∙ ap₂ (λ (t : Option TypeId) (o : Option ValueId). c.loop-place.waiting.items ++ both_ids t o) (c.type_under-of_type.ensures ∙ ap type_of (c.as_slice.ensures ∙ c.index-names-place.is)) c.value_at.ensures))
