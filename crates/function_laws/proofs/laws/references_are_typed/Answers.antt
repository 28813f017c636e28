use Rattle.function_laws.proofs.Forms.{references_are_typed}
use Rattle.function_laws.proofs.laws.references_are_typed.Goals as goal

pub returns : goal.returns
returns c = references_are_typed
