use Rattle.function_laws.proofs.Forms.{calls_are_typed}
use Rattle.function_laws.proofs.laws.calls_are_typed.Goals as goal

pub returns : goal.returns
returns c = calls_are_typed
