use Rattle.elaboration_runs.proofs.Whole.{executions}
use Rattle.elaboration_runs.proofs.laws.executions_are_followed.Goals as goal

pub returns : goal.returns
returns c = executions
