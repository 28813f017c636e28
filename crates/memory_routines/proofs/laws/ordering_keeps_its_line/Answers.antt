use Rattle.memory_routines.proofs.Kept.{ordering_kept}
use Rattle.memory_routines.proofs.laws.ordering_keeps_its_line.Goals as goal

pub returns : goal.returns
returns g c = ordering_kept _
