use Rattle.std.proofs.Common.{◌≡◌, ◌+◌, ◌<◌, ◌≤◌, ◌^◌, zero, length, map, reverse, take}
use Rattle.desugaring.specs.Frames.{exit_from}
use Rattle.kernel_frames.specs.Leaves.{leaves, seen_exit}
use Rattle.kernel_frames.proofs.exits.Exits.find.Given as goal

abbrev pub invariant-loop-left : goal.invariant-loop-left
invariant-loop-left l = record {
  within : l.between + l.left ≡ length l.self-inside.list.items;
  same : exit_from zero (leaves l.wanted) (reverse (map seen_exit l.self-inside.list.items)) ≡ exit_from l.between (leaves l.wanted) (reverse (map seen_exit (take l.left l.self-inside.list.items)));
}

abbrev pub decreases-loop-left : goal.decreases-loop-left
decreases-loop-left l = l.left
