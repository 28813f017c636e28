use Rattle.std.proofs.Common.{◌≡◌, [], drop, map}
use Rattle.core_ir.specs.Outward.{outward_of}
use Rattle.core_measures.specs.Sizes.{size_of}
use Rattle.core_measures.specs.Within.{core_group}
use Rattle.core_measures.proofs.paying.all_names.Given as goal

abbrev pub invariant-loop-group : goal.invariant-loop-group
invariant-loop-group l = outward_of (size_of l.sizes) l.needs.items (map core_group (drop l.group-index l.groups)) ≡ outward_of (size_of l.sizes) [] (map core_group l.groups)
