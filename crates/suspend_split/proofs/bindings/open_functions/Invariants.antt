use Rattle.std.proofs.Common.{◌+◌, ◌-◌, ◌≤◌}
use Rattle.suspend_split.specs.Bindings.{Slots}
use Rattle.suspend_split.proofs.bindings.open_functions.Given as goal

abbrev pub invariant-loop-number : goal.invariant-loop-number
invariant-loop-number l = record {
  within : l.number ≤ l.count;
  slots : Slots (l.first + l.number) (l.count - l.number) l.scope l.inner l.fn.scopes l.scopes;
}

abbrev pub decreases-loop-number : goal.decreases-loop-number
decreases-loop-number l = l.number
