use Rattle.number_routines.proofs.Kept.{sameness_kept}
use Rattle.number_routines.proofs.laws.sameness_keeps_its_line.Goals as goal

pub returns : goal.returns
returns g c = sameness_kept _
