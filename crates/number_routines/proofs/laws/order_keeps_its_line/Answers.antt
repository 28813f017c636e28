use Rattle.number_routines.proofs.Kept.{order_kept}
use Rattle.number_routines.proofs.laws.order_keeps_its_line.Goals as goal

pub returns : goal.returns
returns g c = order_kept _
