use Rattle.memory_routines.proofs.Kept.{comparison_kept}
use Rattle.memory_routines.proofs.laws.comparison_keeps_its_line.Goals as goal

pub returns : goal.returns
returns g c = comparison_kept _
