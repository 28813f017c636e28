use Rattle.std.proofs.Common.{◌≡◌, take}
use Rattle.mo_coverage.specs.Shapes.{all_known}
use Rattle.mo_coverage.proofs.shape.+copy.Given as goal

abbrev pub invariant-copy_all-loop-shape : goal.invariant-copy_all-loop-shape
invariant-copy_all-loop-shape l = all_known l.made.items ≡ all_known (take l.shape-index l.shapes)
