use Rattle.std.proofs.Common.{◌≡◌, ◌≤◌, drop, length}
use Rattle.desugaring.specs.Frames.{with_names}
use Rattle.kernel_frames.proofs.frames.Frames.push_names.Given as goal

abbrev pub invariant-loop-left : goal.invariant-loop-left
invariant-loop-left l = record {
  within : l.left ≤ length l.names;
  pushed : l.self ≡ with_names (drop l.left l.names) l.initial.self;
}

abbrev pub decreases-loop-left : goal.decreases-loop-left
decreases-loop-left l = l.left
