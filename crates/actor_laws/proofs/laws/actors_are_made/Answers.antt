use Rattle.actor_laws.proofs.Behind.{actors_are_made}
use Rattle.actor_laws.proofs.laws.actors_are_made.Goals as goal

pub returns : goal.returns
returns c = actors_are_made
