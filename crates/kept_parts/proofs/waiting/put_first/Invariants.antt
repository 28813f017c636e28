use Rattle.std.proofs.Common.{◌≡◌, ◌++◌, map, reverse, vec_len}
use Rattle.kept_parts.proofs.waiting.put_first.Given as goal

abbrev pub invariant-loop-last : goal.invariant-loop-last
invariant-loop-last l = map (λ t. (t, l.under)) l.inside.items ++ reverse l.waiting.items ≡ map (λ t. (t, l.under)) l.initial.inside.items ++ reverse l.initial.waiting.items

abbrev pub decreases-loop-last : goal.decreases-loop-last
decreases-loop-last l = vec_len l.inside
