use Rattle.heap_layout.proofs.Makes.{blocks_made}
use Rattle.heap_layout.proofs.laws.blocks_are_made.Goals as goal

pub returns : goal.returns
returns c = blocks_made
