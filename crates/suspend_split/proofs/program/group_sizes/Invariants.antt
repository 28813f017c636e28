use Rattle.std.proofs.Common.{◌≡◌, take}
use Rattle.suspend_split.specs.Parts.{sizes_of}
use Rattle.suspend_split.proofs.program.group_sizes.Given as goal

abbrev pub invariant-loop-group : goal.invariant-loop-group
invariant-loop-group l = l.sizes.items ≡ sizes_of (take l.group-index l.groups)
