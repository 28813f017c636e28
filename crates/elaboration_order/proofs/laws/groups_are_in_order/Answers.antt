use Rattle.elaboration_order.proofs.Ordered.{ordered}
use Rattle.elaboration_order.proofs.laws.groups_are_in_order.Goals as goal

pub returns : goal.returns
returns c = ordered
