use Rattle.number_routines.proofs.Calculated.{arithmetic_kept}
use Rattle.number_routines.proofs.laws.arithmetic_keeps_its_line.Goals as goal

pub returns : goal.returns
returns g c = arithmetic_kept _
