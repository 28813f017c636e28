use Rattle.memory_routines.proofs.Kept.{allocation_kept}
use Rattle.memory_routines.proofs.laws.allocation_keeps_its_line.Goals as goal

pub returns : goal.returns
returns g c = allocation_kept _
