use Rattle.declaration_laws.proofs.Blocks.{blocks_are_typed}
use Rattle.declaration_laws.proofs.laws.blocks_are_typed.Goals as goal

pub returns : goal.returns
returns c = blocks_are_typed
