use Rattle.program_laws.proofs.Reached.{names_are_reached}
use Rattle.program_laws.proofs.laws.names_are_reached.Goals as goal

pub returns : goal.returns
returns c = names_are_reached
