use Rattle.elaboration_actors.proofs.Messages.{kept_is_restored}
use Rattle.elaboration_actors.proofs.laws.kept_is_restored.Goals as goal

pub returns : goal.returns
returns c = kept_is_restored
