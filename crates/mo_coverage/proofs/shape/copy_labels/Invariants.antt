use Rattle.std.proofs.Common.{◌≡◌, take}
use Rattle.mo_coverage.proofs.shape.copy_labels.Given as goal

abbrev pub invariant-loop-label : goal.invariant-loop-label
invariant-loop-label l = l.made ≡ take l.label-index l.labels
