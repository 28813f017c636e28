use Rattle.elaboration_runs.proofs.Whole.{goes_on}
use Rattle.elaboration_runs.proofs.laws.executions_go_on.Goals as goal

pub returns : goal.returns
returns c = goes_on
