use Rattle.declaration_laws.proofs.Functions.{declared_functions_are_typed}
use Rattle.declaration_laws.proofs.laws.declared_functions_are_typed.Goals as goal

pub returns : goal.returns
returns c = declared_functions_are_typed
