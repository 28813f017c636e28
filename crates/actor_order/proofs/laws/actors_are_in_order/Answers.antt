use Rattle.actor_order.proofs.Actors.{actors_are_in_order}
use Rattle.actor_order.proofs.laws.actors_are_in_order.Goals as goal

pub returns : goal.returns
returns c = actors_are_in_order
