use Rattle.elaboration_back.proofs.Runs.{runs_elaborate}
use Rattle.elaboration_back.proofs.laws.typed_runs_are_elaborated.Goals as goal

pub returns : goal.returns
returns c = runs_elaborate
