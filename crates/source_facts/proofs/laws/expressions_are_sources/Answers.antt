use Rattle.source_facts.proofs.Layers.{expressions_are_sources}
use Rattle.source_facts.proofs.laws.expressions_are_sources.Goals as goal

pub returns : goal.returns
returns c = expressions_are_sources
