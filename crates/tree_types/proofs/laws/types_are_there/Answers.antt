use Rattle.tree_types.proofs.Trees.{types_are_there}
use Rattle.tree_types.proofs.laws.types_are_there.Goals as goal

pub returns : goal.returns
returns c = types_are_there
