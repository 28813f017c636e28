use Rattle.closed_trees.proofs.Lawful.{closed_lawful}
use Rattle.closed_trees.proofs.laws.closed_types_are_lawful.Goals as goal

pub returns : goal.returns
returns c = λ types graph basics first past. closed_lawful types first past graph basics
