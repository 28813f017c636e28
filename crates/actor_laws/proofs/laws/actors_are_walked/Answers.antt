use Rattle.actor_laws.proofs.Walking.{actors_are_walked}
use Rattle.actor_laws.proofs.laws.actors_are_walked.Goals as goal

pub returns : goal.returns
returns c = actors_are_walked
