use Rattle.elaboration_premises.proofs.Whole.{typed_executions, typed_goes_on}
use Rattle.elaboration_premises.proofs.laws.typed_executions_are_followed.Goals as goal

pub returns-clause-follow : goal.returns-clause-follow
returns-clause-follow c = typed_executions

pub returns-clause-go_on : goal.returns-clause-go_on
returns-clause-go_on c = typed_goes_on
