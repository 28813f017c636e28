use Rattle.elaboration_actors.proofs.Resumptions.{resumptions}
use Rattle.elaboration_actors.proofs.laws.resumptions_are_followed.Goals as goal

pub returns : goal.returns
returns c = resumptions
