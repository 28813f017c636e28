use Rattle.std.proofs.Common.{◌≡◌, take}
use Rattle.core_measures.specs.Sizes.{sizes_of}
use Rattle.core_measures.proofs.sizes.group_sizes.Given as goal

abbrev pub invariant-loop-group : goal.invariant-loop-group
invariant-loop-group l = l.sizes.items ≡ sizes_of (take l.group-index l.groups)
