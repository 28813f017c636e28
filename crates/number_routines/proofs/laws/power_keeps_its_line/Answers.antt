use Rattle.number_routines.proofs.PowerKinds.{power_kept}
use Rattle.number_routines.proofs.laws.power_keeps_its_line.Goals as goal

pub returns : goal.returns
returns g c = power_kept _
