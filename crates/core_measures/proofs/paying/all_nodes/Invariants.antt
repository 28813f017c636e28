use Rattle.std.proofs.Common.{◌≡◌, ◌≤◌, length, drop, map}
use Rattle.core_ir.specs.Expressions.{nodes_of}
use Rattle.core_ir.specs.View.{core_body}
use Rattle.core_measures.proofs.paying.all_nodes.Given as goal

abbrev pub invariant-loop-number : goal.invariant-loop-number
invariant-loop-number l = record {
  within : l.number ≤ length l.bodies;
  is : l.all ≡ nodes_of (map core_body (drop l.number l.bodies));
}

abbrev pub decreases-loop-number : goal.decreases-loop-number
decreases-loop-number l = l.number
