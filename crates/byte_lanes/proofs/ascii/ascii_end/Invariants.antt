use Rattle.std.proofs.Common.{ℕ, ◌-◌, ◌<◌, ◌≤◌, get_or, length}
use Rattle.byte_lanes.proofs.ascii.ascii_end.Given as goal

abbrev pub invariant-loop-end : goal.invariant-loop-end
invariant-loop-end l = record {
  ordered : l.start ≤ l.end;
  within : l.end ≤ length l.bytes;
  ascii : (k : ℕ) → l.start ≤ k → k < l.end → get_or l.bytes k 0 < 128;
}

abbrev pub decreases-loop-end : goal.decreases-loop-end
decreases-loop-end l = length l.bytes - l.end
