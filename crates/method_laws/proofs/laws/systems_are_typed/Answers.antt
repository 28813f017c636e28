use Rattle.method_laws.proofs.Methods.{systems_are_typed}
use Rattle.method_laws.proofs.laws.systems_are_typed.Goals as goal

pub returns : goal.returns
returns c = systems_are_typed
