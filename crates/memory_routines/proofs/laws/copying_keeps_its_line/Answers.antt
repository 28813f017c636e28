use Rattle.memory_routines.proofs.Kept.{copying_kept}
use Rattle.memory_routines.proofs.laws.copying_keeps_its_line.Goals as goal

pub returns : goal.returns
returns g c = copying_kept _
