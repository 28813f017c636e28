use Rattle.std.proofs.Common.{◌≡◌, ◌≤◌, length, drop, map, Decides}
use Rattle.core_ir.specs.Formed.{counted}
use Rattle.core_ir.specs.View.{core_body}
use Rattle.core_measures.specs.Sizes.{size_of}
use Rattle.core_measures.specs.Within.{AllWithin, segments}
use Rattle.core_measures.proofs.within.bodies_tested.Given as goal

abbrev pub invariant-loop-number : goal.invariant-loop-number
invariant-loop-number l = record {
  within : l.number ≤ length l.bodies;
  all : Decides l.all.within (AllWithin (size_of l.sizes) (map core_body (drop l.number l.bodies)));
  segments : l.all.segments ≡ counted segments (map core_body (drop l.number l.bodies));
}

abbrev pub decreases-loop-number : goal.decreases-loop-number
decreases-loop-number l = l.number
