use Rattle.declaration_laws.proofs.Variables.{variables_are_typed}
use Rattle.declaration_laws.proofs.laws.variables_are_typed.Goals as goal

pub returns : goal.returns
returns c = variables_are_typed
