use Rattle.std.proofs.Common.{◌≡◌, ◌++◌, drop, map, Some}
use Rattle.arena_messages.specs.Waiting.{asked_ids}
use Rattle.arena_messages.proofs.waiting.push_pairs.Given as goal

abbrev pub invariant-loop-place : goal.invariant-loop-place
invariant-loop-place l =
    l.waiting.items ++ asked_ids (map (λ t. Some t) (drop l.place l.of_types)) (drop l.place l.values) ≡ l.initial.waiting.items ++ asked_ids (map (λ t. Some t) l.of_types) l.values
