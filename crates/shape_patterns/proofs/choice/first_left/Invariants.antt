use Rattle.std.proofs.Common.{◌≡◌, ◌-◌, ◌≤◌, length}
use Rattle.shape_patterns.specs.Choice.{first_left}
use Rattle.shape_patterns.proofs.choice.first_left.Given as goal

abbrev pub invariant-loop-number : goal.invariant-loop-number
invariant-loop-number l = (l.number ≤ length l.parts) × (first_left l.node (length l.parts - l.number) l.number l.parts ≡ first_left l.node (length l.parts) 0 l.parts)
