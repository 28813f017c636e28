use Rattle.std.proofs.Common.{◌≡◌, ◌++◌, reverse, vec_len}
use Rattle.arena_reading.proofs.inside.put_first.Given as goal

abbrev pub invariant-loop-last : goal.invariant-loop-last
invariant-loop-last l = l.inside.items ++ reverse l.waiting.items ≡ l.initial.inside.items ++ reverse l.initial.waiting.items

abbrev pub decreases-loop-last : goal.decreases-loop-last
decreases-loop-last l = vec_len l.inside
