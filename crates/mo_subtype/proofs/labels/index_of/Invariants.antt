use Rattle.std.proofs.Common.{◌≤◌, drop, length}
use Rattle.mo_subtype.specs.Labels.{Indexes}
use Rattle.mo_subtype.proofs.labels.index_of.Given as goal

abbrev pub invariant-loop-left : goal.invariant-loop-left
invariant-loop-left l = record {
  indexes : Indexes l.index (drop l.left l.fields);
  within : l.left ≤ length l.fields;
}

abbrev pub decreases-loop-left : goal.decreases-loop-left
decreases-loop-left l = l.left
