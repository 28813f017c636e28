use Rattle.mo_order.specs.Early.{Ahead}
use Rattle.mo_order.proofs.order.first_in_list.Given as goal

abbrev pub invariant-loop-index : goal.invariant-loop-index
invariant-loop-index l = Ahead l.steps l.index l.late l.least
