use Rattle.std.proofs.Common.{◌≡◌, ◌++◌, drop}
use Rattle.mo_names.specs.Order.{without}
use Rattle.mo_order.specs.Parts.{occurring}
use Rattle.mo_order.proofs.step.push_occurring.Given as goal

abbrev pub invariant-loop-one : goal.invariant-loop-one
invariant-loop-one l = l.initial.names ++ without l.bound (occurring l.steps) ≡ l.names ++ without l.bound (occurring (drop l.one-index l.steps))
