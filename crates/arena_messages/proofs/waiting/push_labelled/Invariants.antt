use Rattle.std.proofs.Common.{◌≡◌, ◌++◌, drop, map}
use Rattle.mo_values.specs.Messages.{labels, types, under}
use Rattle.arena_messages.specs.Waiting.{asked_ids}
use Rattle.arena_messages.proofs.waiting.push_labelled.Given as goal

abbrev pub invariant-loop-place : goal.invariant-loop-place
invariant-loop-place l =
    l.waiting.items ++ asked_ids (map (λ m. under m (labels l.fields) (types l.fields)) (drop l.place l.names)) (drop l.place l.values)
    ≡ l.initial.waiting.items ++ asked_ids (map (λ m. under m (labels l.fields) (types l.fields)) l.names) l.values
