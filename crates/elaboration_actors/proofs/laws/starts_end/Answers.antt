use Rattle.elaboration_actors.proofs.Starts.{starts_end}
use Rattle.elaboration_actors.proofs.laws.starts_end.Goals as goal

pub returns : goal.returns
returns c = starts_end
