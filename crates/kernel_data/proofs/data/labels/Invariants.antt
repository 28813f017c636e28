use Rattle.std.proofs.Common.{◌≡◌, map, take}
use Rattle.kernel_data.specs.Fields.{label_of}
use Rattle.kernel_data.proofs.data.labels.Given as goal

abbrev pub invariant-loop-one : goal.invariant-loop-one
invariant-loop-one l = l.made ≡ map label_of (take l.one-index l.list)
