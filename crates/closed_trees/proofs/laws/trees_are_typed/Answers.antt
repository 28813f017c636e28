use Rattle.closed_trees.proofs.Lawful.{closed_lawful}
use Rattle.closed_trees.proofs.Trees.{expression_holds}
use Rattle.closed_trees.proofs.laws.trees_are_typed.Goals as goal

pub returns : goal.returns
returns g = λ types graph basics first past answers kinds x c e ms w p h. expression_holds types first past graph (closed_lawful types first past graph basics) kinds x answers c e ms w p h
