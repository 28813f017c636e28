use Rattle.program_facts.proofs.Programs.{programs_are_whole_sources}
use Rattle.program_facts.proofs.laws.programs_are_whole_sources.Goals as goal

pub returns : goal.returns
returns c = programs_are_whole_sources
