use Rattle.mo_order.proofs.Judging.{order_none, order_some}
use Rattle.mo_order.proofs.breaches.breach_of_order.Goals as goal

pub returns-in-None : goal.returns-in-None
returns-in-None c = rw c.in-None.is order_none

pub returns-in-Some : goal.returns-in-Some
returns-in-Some c = rw c.in-Some.is (order_some c.in-Some.place)
