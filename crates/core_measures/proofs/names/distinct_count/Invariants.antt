use Rattle.std.proofs.Common.{◌≡◌, ◌≤◌, length, drop}
use Rattle.core_ir.specs.Outward.{distinct}
use Rattle.core_measures.proofs.names.distinct_count.Given as goal

abbrev pub invariant-loop-number : goal.invariant-loop-number
invariant-loop-number l = record {
  within : l.number ≤ length l.places;
  is : l.all ≡ length (distinct (drop l.number l.places));
}

abbrev pub decreases-loop-number : goal.decreases-loop-number
decreases-loop-number l = l.number
