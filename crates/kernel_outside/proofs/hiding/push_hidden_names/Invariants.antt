use Rattle.std.proofs.Common.{◌≡◌, ◌≤◌, drop, length, map}
use Rattle.desugaring.specs.Frames.{hidden_by, with_entries}
use Rattle.kernel_outside.proofs.hiding.push_hidden_names.Given as goal

abbrev pub invariant-loop-left : goal.invariant-loop-left
invariant-loop-left l = record {
  within : l.left ≤ length l.names;
  pushed : l.frames ≡ with_entries (map (hidden_by l.hiding) (drop l.left l.names)) l.initial.frames;
}

abbrev pub decreases-loop-left : goal.decreases-loop-left
decreases-loop-left l = l.left
