use Rattle.declaration_laws.proofs.Blocks.{objects_are_typed}
use Rattle.declaration_laws.proofs.laws.objects_are_typed.Goals as goal

pub returns : goal.returns
returns c = objects_are_typed
