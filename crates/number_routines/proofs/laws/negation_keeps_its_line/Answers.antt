use Rattle.number_routines.proofs.Kept.{negation_kept}
use Rattle.number_routines.proofs.laws.negation_keeps_its_line.Goals as goal

pub returns : goal.returns
returns g c = negation_kept _
