use Rattle.std.proofs.Common.{◌≡◌, ◌+◌, ◌++◌, take}
use Rattle.byte_lanes.proofs.StoreLemmas.{cleared_times, stores}
use Rattle.byte_lanes.proofs.lines.put_marked.Given as goal

abbrev pub invariant-loop-lane : goal.invariant-loop-lane
invariant-loop-lane l = record {
  left : l.left ≡ cleared_times l.lane l.mask;
  stored : take (l.count + l.lane) l.found ≡ take l.count l.fn.found ++ stores l.lane l.base l.mask;
}
