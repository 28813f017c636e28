use Rattle.std.proofs.Common.{◌≡◌, ◌≤◌, length, drop, map, Decides}
use Rattle.core_ir.specs.Formed.{counted_groups}
use Rattle.core_measures.specs.Sizes.{size_of}
use Rattle.core_measures.specs.Within.{GroupsWithin, core_group, segments}
use Rattle.core_measures.proofs.within.groups_tested.Given as goal

abbrev pub invariant-loop-number : goal.invariant-loop-number
invariant-loop-number l = record {
  within : l.number ≤ length l.groups;
  all : Decides l.all.within (GroupsWithin (size_of l.sizes) (map core_group (drop l.number l.groups)));
  segments : l.all.segments ≡ counted_groups segments (map core_group (drop l.number l.groups));
}

abbrev pub decreases-loop-number : goal.decreases-loop-number
decreases-loop-number l = l.number
