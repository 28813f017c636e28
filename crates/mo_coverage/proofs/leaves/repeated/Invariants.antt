use Rattle.std.proofs.Common.{◌≡◌, ◌-◌, ◌≤◌, length}
use Rattle.mo_types.specs.Values.{copies}
use Rattle.mo_coverage.proofs.leaves.repeated.Given as goal

abbrev pub invariant-loop-made : goal.invariant-loop-made
invariant-loop-made l = (length l.made ≤ l.count) × (l.made ≡ copies (length l.made) l.byte)

abbrev pub decreases-loop-made : goal.decreases-loop-made
decreases-loop-made l = l.count - length l.made
