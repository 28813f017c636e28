use Rattle.wire_numbers.proofs.Formed.{routines_formed}
use Rattle.wire_numbers.proofs.laws.routines_are_formed.Goals as goal

pub returns : goal.returns
returns c = routines_formed
