use Rattle.closed_types.proofs.Environments.{empty, entered, instance_there}
use Rattle.closed_types.proofs.laws.calls_enter_environments.Goals as goal

pub returns-clause-empty : goal.returns-clause-empty
returns-clause-empty g = λ types first past lawful. empty types first past lawful

pub returns-clause-entered : goal.returns-clause-entered
returns-clause-entered g = λ types first past lawful scope vs ts e at around inside parameters call. entered types first past lawful scope vs ts e at around inside parameters call

pub returns-clause-instances : goal.returns-clause-instances
returns-clause-instances g = λ types first past lawful scope vs ts e at around inside parameters call t u m i. instance_there types first past lawful scope vs ts e at around inside parameters call t u m i
