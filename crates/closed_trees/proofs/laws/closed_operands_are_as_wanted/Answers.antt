use Rattle.mo_soundness.proofs.Meets.{arithmetic_meets, equality_meets}
use Rattle.closed_trees.specs.Worlds.{closed_world}
use Rattle.closed_trees.proofs.laws.closed_operands_are_as_wanted.Goals as goal

pub returns-clause-numbers : goal.returns-clause-numbers
returns-clause-numbers g = λ types first answers kinds c o k vs w h. arithmetic_meets (closed_world types first) answers kinds c o k vs w h

pub returns-clause-compared : goal.returns-clause-compared
returns-clause-compared g = λ types first answers kinds c t vs w h. equality_meets (closed_world types first) answers kinds c t vs w h
