use Rattle.emitted_runs.proofs.Entered.{executions}
use Rattle.emitted_runs.proofs.laws.executions_begin.Goals as goal

pub returns : goal.returns
returns c = executions
