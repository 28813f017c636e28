use Rattle.block_laws.proofs.Orders.{orders_are_made}
use Rattle.block_laws.proofs.laws.orders_are_made.Goals as goal

pub returns : goal.returns
returns c = orders_are_made
