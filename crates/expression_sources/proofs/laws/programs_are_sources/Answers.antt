use Rattle.expression_sources.proofs.Programs.{programs_sources}
use Rattle.expression_sources.proofs.laws.programs_are_sources.Goals as goal

pub returns : goal.returns
returns c = programs_sources
