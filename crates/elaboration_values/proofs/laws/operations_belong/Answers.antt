use Rattle.elaboration_values.proofs.Belong.{operations}
use Rattle.elaboration_values.proofs.laws.operations_belong.Goals as goal

pub returns : goal.returns
returns c = operations
