use Rattle.std.proofs.Common.{◌≡◌, ◌≤◌, drop, length, map}
use Rattle.desugaring.specs.Frames.{Kept, with_entries}
use Rattle.kernel_outside.proofs.first_frame.push_kept_names.Given as goal

abbrev pub invariant-loop-left : goal.invariant-loop-left
invariant-loop-left l = record {
  within : l.left ≤ length l.names;
  pushed : l.frames ≡ with_entries (map Kept (drop l.left l.names)) l.initial.frames;
}

abbrev pub decreases-loop-left : goal.decreases-loop-left
decreases-loop-left l = l.left
