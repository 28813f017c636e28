use Rattle.number_routines.proofs.Kept.{wrapping_kept}
use Rattle.number_routines.proofs.laws.wrapping_keeps_its_line.Goals as goal

pub returns : goal.returns
returns g c = wrapping_kept _
