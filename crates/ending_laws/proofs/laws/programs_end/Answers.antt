use Rattle.ending_laws.proofs.AtEnd.{programs_end}
use Rattle.ending_laws.proofs.laws.programs_end.Goals as goal

pub returns : goal.returns
returns c = programs_end
