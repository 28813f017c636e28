use Rattle.type_sources.proofs.Patterns.{patterns_sources}
use Rattle.type_sources.proofs.laws.patterns_are_sources.Goals as goal

pub returns : goal.returns
returns c = patterns_sources
