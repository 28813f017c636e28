use Rattle.std.proofs.Common.{◌≡◌, ◌<◌, ℕ, true}
use Rattle.pattern_coverage.specs.Leaves.{is_among, leaf_at}
use Rattle.mo_coverage.proofs.leaves.remains.Given as goal

abbrev pub invariant-loop-number : goal.invariant-loop-number
invariant-loop-number l = (j : ℕ) → j < l.number → is_among (leaf_at l.node j) l.parts ≡ true
