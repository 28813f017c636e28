use Rattle.std.proofs.Common.{take}
use Rattle.mo_names.specs.Order.{Misplaced}
use Rattle.mo_order.specs.Least.{LeastOf}
use Rattle.mo_order.proofs.order.first_in_lists.Given as goal

abbrev pub invariant-loop-one : goal.invariant-loop-one
invariant-loop-one l = LeastOf (Misplaced (take l.one-index l.lists)) l.least
