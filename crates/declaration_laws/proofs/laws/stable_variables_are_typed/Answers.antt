use Rattle.declaration_laws.proofs.Variables.{stable_variables_are_typed}
use Rattle.declaration_laws.proofs.laws.stable_variables_are_typed.Goals as goal

pub returns : goal.returns
returns c = stable_variables_are_typed
