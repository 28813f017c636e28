use Rattle.method_laws.proofs.Methods.{methods_are_typed}
use Rattle.method_laws.proofs.laws.methods_are_typed.Goals as goal

pub returns : goal.returns
returns c = methods_are_typed
