use Rattle.tree_shapes.proofs.Programs.{programs_nest}
use Rattle.tree_shapes.proofs.laws.programs_nest.Goals as goal

pub returns : goal.returns
returns c = programs_nest
