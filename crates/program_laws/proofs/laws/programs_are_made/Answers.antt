use Rattle.program_laws.proofs.Programs.{programs_are_made}
use Rattle.program_laws.proofs.laws.programs_are_made.Goals as goal

pub returns : goal.returns
returns c = programs_are_made
