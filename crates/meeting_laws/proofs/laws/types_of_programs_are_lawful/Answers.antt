use Rattle.meeting_laws.proofs.Programs.{program_lawful}
use Rattle.meeting_laws.proofs.laws.types_of_programs_are_lawful.Goals as goal

pub returns : goal.returns
returns c = program_lawful
