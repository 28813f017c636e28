use Rattle.std.proofs.Common.{◌≡◌, take, map}
use Rattle.core_laws.specs.Split.{split_group}
use Rattle.suspend_split.specs.Makes.{size_of}
use Rattle.suspend_split.specs.Parts.{code_group, core_group}
use Rattle.suspend_split.proofs.program.split_groups.Given as goal

abbrev pub invariant-loop-group : goal.invariant-loop-group
invariant-loop-group l = map code_group l.made ≡ map (λ g. split_group (size_of l.sizes) (core_group g)) (take l.group-index l.groups)
