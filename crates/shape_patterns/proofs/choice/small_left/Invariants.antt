use Rattle.std.proofs.Common.{◌≡◌, ◌-◌, ◌≤◌, suc, length}
use Rattle.shape_patterns.specs.Choice.{small_left}
use Rattle.shape_patterns.proofs.choice.small_left.Given as goal

abbrev pub invariant-loop-number : goal.invariant-loop-number
invariant-loop-number l = (l.number ≤ length l.parts) × (small_left l.kind (suc (length l.parts - l.number)) l.number l.parts ≡ small_left l.kind (suc (length l.parts)) 0 l.parts)
