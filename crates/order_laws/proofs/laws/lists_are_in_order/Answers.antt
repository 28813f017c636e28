use Rattle.order_laws.proofs.Orders.{lists_are_in_order}
use Rattle.order_laws.proofs.laws.lists_are_in_order.Goals as goal

pub returns : goal.returns
returns c = lists_are_in_order
