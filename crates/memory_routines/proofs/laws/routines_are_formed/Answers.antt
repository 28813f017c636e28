use Rattle.memory_routines.proofs.Formed.{routines_formed}
use Rattle.memory_routines.proofs.laws.routines_are_formed.Goals as goal

pub returns : goal.returns
returns c = routines_formed
