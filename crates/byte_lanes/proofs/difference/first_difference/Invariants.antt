use Rattle.std.proofs.Common.{◌-◌, ◌≤◌, length}
use Rattle.byte_lanes.proofs.PlaceLemmas.{SameBelow}
use Rattle.byte_lanes.proofs.difference.first_difference.Given as goal

abbrev pub invariant-loop-at : goal.invariant-loop-at
invariant-loop-at l = record { within : l.at ≤ length l.a; same : SameBelow l.a l.b l.at }

abbrev pub decreases-loop-at : goal.decreases-loop-at
decreases-loop-at l = length l.a - l.at

abbrev pub invariant-loop-place : goal.invariant-loop-place
invariant-loop-place l = SameBelow l.a l.b l.place
