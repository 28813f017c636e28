use Rattle.elaboration_actors.proofs.Entries.{methods}
use Rattle.elaboration_actors.proofs.laws.methods_are_followed.Goals as goal

pub returns : goal.returns
returns c = methods
