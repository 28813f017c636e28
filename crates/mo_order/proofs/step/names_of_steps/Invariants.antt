use Rattle.std.proofs.Common.{◌≡◌, ◌++◌, drop}
use Rattle.mo_names.specs.Order.{names_of_steps}
use Rattle.mo_order.proofs.step.names_of_steps.Given as goal

abbrev pub invariant-loop-one : goal.invariant-loop-one
invariant-loop-one l = names_of_steps l.steps ≡ l.table ++ names_of_steps (drop l.one-index l.steps)
