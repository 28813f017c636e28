use Rattle.std.proofs.Common.{◌≡◌, ◌++◌, length, drop, Some}
use Rattle.mo_types.specs.Values.{copies}
use Rattle.arena_messages.specs.Waiting.{asked_ids}
use Rattle.arena_messages.proofs.waiting.push_each.Given as goal

abbrev pub invariant-loop-value : goal.invariant-loop-value
invariant-loop-value l =
    l.waiting.items ++ asked_ids (copies (length (drop l.value-index l.values)) (Some l.of_type)) (drop l.value-index l.values) ≡ l.initial.waiting.items ++ asked_ids (copies (length l.values) (Some l.of_type)) l.values
