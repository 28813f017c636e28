use Rattle.heap_layout.proofs.Begins.{heaps_begin}
use Rattle.heap_layout.proofs.laws.heaps_begin.Goals as goal

pub returns : goal.returns
returns c = heaps_begin
