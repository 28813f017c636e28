use Rattle.elaboration_runs.proofs.Ending.{covers}
use Rattle.elaboration_runs.proofs.laws.executions_are_covered.Goals as goal

pub returns : goal.returns
returns c = covers
