use Rattle.tree_shapes.proofs.Programs.{expressions_nest}
use Rattle.tree_shapes.proofs.laws.expressions_nest.Goals as goal

pub returns : goal.returns
returns c = expressions_nest
