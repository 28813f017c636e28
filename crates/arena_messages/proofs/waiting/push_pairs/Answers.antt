use Rattle.std.proofs.Common.{suc, List, Option, Some, ◌++◌, get_or, drop, map, sym, ap, ◌∙◌, add-one}
use Rattle.mo_types.specs.declared.node.TypeId.{TypeId}
use Rattle.value_arena.specs.declared.node.ValueId.{ValueId}
use Rattle.arena_messages.specs.declared.waiting.AtType.{AtType}
use Rattle.arena_messages.specs.Waiting.{asked_ids, both_ids}
use Rattle.arena_messages.proofs.Waits.{asked_step, more}
use Rattle.arena_messages.proofs.waiting.push_pairs.Goals as goal

pub loop-place-preserved : goal.loop-place-preserved
loop-place-preserved c =
    let i = c.loop-place.place in
    let d : TypeId = record { index = 0 } in
    rw add-one
    (more c.loop-place.waiting.items c.push_both.new.waiting.items _ (asked_ids (map (λ t. Some t) (drop (suc i) c.args.of_types.now)) (drop (suc i) c.args.values.now)) _
    (ap (λ (l : List AtType). c.loop-place.waiting.items ++ l) (sym (asked_step (λ t. Some t) c.args.of_types.now c.args.values.now i d c.loop-place-test.true)) ∙ c.loop-place.invariant)
    (c.in_ok-push_both.ensures ∙ ap (λ (o : Option ValueId). c.loop-place.waiting.items ++ both_ids (Some (get_or c.args.of_types.now i d)) o) c.value_at.ensures))
