use Rattle.std.proofs.Common.{◌-◌, ◌≤◌, length}
use Rattle.byte_lanes.proofs.PlaceLemmas.{AsciiBelow}
use Rattle.byte_lanes.proofs.ascii.ascii_prefix.Given as goal

abbrev pub invariant-loop-at : goal.invariant-loop-at
invariant-loop-at l = record { within : l.at ≤ length l.bytes; ascii : AsciiBelow l.bytes l.at }

abbrev pub decreases-loop-at : goal.decreases-loop-at
decreases-loop-at l = length l.bytes - l.at
