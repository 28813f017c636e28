use Rattle.heap_layout.proofs.Owners.{words_read}
use Rattle.heap_layout.proofs.laws.words_are_read.Goals as goal

pub returns : goal.returns
returns c = words_read
