use Rattle.heap_layout.proofs.Meanings.{meanings_kept}
use Rattle.heap_layout.proofs.laws.meanings_stay.Goals as goal

pub returns : goal.returns
returns c = meanings_kept
