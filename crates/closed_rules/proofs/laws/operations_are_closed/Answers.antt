use Rattle.closed_rules.proofs.Operations.{operation_closed}
use Rattle.closed_rules.proofs.laws.operations_are_closed.Goals as goal

pub returns : goal.returns
returns x = λ head other c o ws w i h. operation_closed head other c o ws w i h
