use Rattle.std.proofs.Common.{◌≤◌, ℕ, length, drop, map, Decides}
use Rattle.core_ir.specs.Expressions.{Core}
use Rattle.core_ir.specs.Formed.{PaidCoreGroups}
use Rattle.core_measures.specs.Within.{core_group}
use Rattle.core_measures.proofs.paying.are_paid.Given as goal

abbrev pub invariant-loop-number : goal.invariant-loop-number
invariant-loop-number l = record {
  within : l.number ≤ length l.groups;
  paid : (own : ℕ) (p : Core) → Decides l.all (PaidCoreGroups own p (drop l.number l.needs) (map core_group (drop l.number l.groups)));
}

abbrev pub decreases-loop-number : goal.decreases-loop-number
decreases-loop-number l = l.number
