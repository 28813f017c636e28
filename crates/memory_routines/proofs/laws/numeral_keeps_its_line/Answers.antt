use Rattle.memory_routines.proofs.Kept.{numeral_kept}
use Rattle.memory_routines.proofs.laws.numeral_keeps_its_line.Goals as goal

pub returns : goal.returns
returns g c = numeral_kept _
