use Rattle.elaboration_premises.proofs.Executions.{executions_serve, resumptions_serve}
use Rattle.elaboration_premises.proofs.Replaced.{errors_are_typed}
use Rattle.elaboration_premises.proofs.laws.typed_executions_serve.Goals as goal

pub returns-clause-begun : goal.returns-clause-begun
returns-clause-begun c = executions_serve

pub returns-clause-resumed : goal.returns-clause-resumed
returns-clause-resumed c = resumptions_serve

pub returns-clause-thrown : goal.returns-clause-thrown
returns-clause-thrown c = errors_are_typed
