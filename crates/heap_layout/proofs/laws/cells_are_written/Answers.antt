use Rattle.heap_layout.proofs.Cells.{cells_written}
use Rattle.heap_layout.proofs.laws.cells_are_written.Goals as goal

pub returns : goal.returns
returns c = cells_written
