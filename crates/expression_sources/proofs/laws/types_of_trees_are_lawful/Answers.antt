use Rattle.expression_sources.proofs.Programs.{trees_lawful}
use Rattle.expression_sources.proofs.laws.types_of_trees_are_lawful.Goals as goal

pub returns : goal.returns
returns c = trees_lawful
