use Rattle.heap_layout.proofs.Begins.{texts_stand}
use Rattle.heap_layout.proofs.laws.texts_stand.Goals as goal

pub returns : goal.returns
returns c = texts_stand
