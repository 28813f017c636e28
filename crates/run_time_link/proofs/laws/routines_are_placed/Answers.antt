use Rattle.run_time_link.proofs.Placed.{placed}
use Rattle.run_time_link.proofs.laws.routines_are_placed.Goals as goal

pub returns : goal.returns
returns c = placed
