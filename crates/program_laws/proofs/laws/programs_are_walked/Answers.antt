use Rattle.program_laws.proofs.Standing.{programs_are_walked}
use Rattle.program_laws.proofs.laws.programs_are_walked.Goals as goal

pub returns : goal.returns
returns c = programs_are_walked
