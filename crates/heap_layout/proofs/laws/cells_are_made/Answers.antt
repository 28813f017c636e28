use Rattle.heap_layout.proofs.NewCells.{cells_made}
use Rattle.heap_layout.proofs.laws.cells_are_made.Goals as goal

pub returns : goal.returns
returns c = cells_made
