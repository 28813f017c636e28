use Rattle.heap_layout.proofs.Begins.{blocks_paid}
use Rattle.heap_layout.proofs.laws.blocks_are_paid.Goals as goal

pub returns : goal.returns
returns c = blocks_paid
