use Rattle.function_laws.proofs.Forms.{functions_are_typed}
use Rattle.function_laws.proofs.laws.functions_are_typed.Goals as goal

pub returns : goal.returns
returns c = functions_are_typed
