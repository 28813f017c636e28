use Rattle.std.proofs.Common.{◌≡◌, ◌++◌}
use Rattle.mo_order.proofs.step.append.Given as goal

abbrev pub invariant-loop-item : goal.invariant-loop-item
invariant-loop-item g l = l.list ≡ l.initial.list ++ l.yielded
