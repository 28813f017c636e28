use Rattle.type_sources.proofs.Types.{types_sources}
use Rattle.type_sources.proofs.laws.types_are_sources.Goals as goal

pub returns : goal.returns
returns c = types_sources
