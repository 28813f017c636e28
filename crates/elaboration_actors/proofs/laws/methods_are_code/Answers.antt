use Rattle.elaboration_actors.proofs.Starts.{methods_are_code}
use Rattle.elaboration_actors.proofs.laws.methods_are_code.Goals as goal

pub returns : goal.returns
returns c = methods_are_code
