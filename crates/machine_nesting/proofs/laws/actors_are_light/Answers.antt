use Rattle.machine_nesting.proofs.Actors.{actors_are_light}
use Rattle.machine_nesting.proofs.laws.actors_are_light.Goals as goal

pub returns : goal.returns
returns c = actors_are_light
