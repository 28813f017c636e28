use Rattle.std.proofs.Common.{◌≡◌, ◌++◌, drop}
use Rattle.mo_names.specs.Order.{without}
use Rattle.mo_order.proofs.step.push_without.Given as goal

abbrev pub invariant-loop-one : goal.invariant-loop-one
invariant-loop-one l = l.initial.names ++ without l.bound l.more ≡ l.names ++ without l.bound (drop l.one-index l.more)
