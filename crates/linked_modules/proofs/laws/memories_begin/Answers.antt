use Rattle.linked_modules.proofs.First.{memories_begin}
use Rattle.linked_modules.proofs.laws.memories_begin.Goals as goal

pub returns : goal.returns
returns c = memories_begin
