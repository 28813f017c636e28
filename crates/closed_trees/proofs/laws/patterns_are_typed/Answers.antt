use Rattle.closed_trees.proofs.Lawful.{closed_lawful}
use Rattle.closed_trees.proofs.Patterns.{pattern_typed}
use Rattle.closed_trees.proofs.laws.patterns_are_typed.Goals as goal

pub returns : goal.returns
returns c = λ types graph basics first past vs e around p t ns h. pattern_typed types first past graph (closed_lawful types first past graph basics) vs e around p t ns h
