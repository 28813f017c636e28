use Rattle.declaration_laws.proofs.Values.{values_are_typed}
use Rattle.declaration_laws.proofs.laws.values_are_typed.Goals as goal

pub returns : goal.returns
returns c = values_are_typed
