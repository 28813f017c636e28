use Rattle.mo_soundness.specs.Worlds.{plain_world}
use Rattle.mo_soundness.proofs.Meets.{arithmetic_meets, equality_meets}
use Rattle.mo_soundness.proofs.laws.operands_are_as_wanted.Goals as goal

pub returns-clause-numbers : goal.returns-clause-numbers
returns-clause-numbers g = λ head answers kinds c o k vs w h. arithmetic_meets (plain_world head) answers kinds c o k vs w h

pub returns-clause-compared : goal.returns-clause-compared
returns-clause-compared g = λ head answers kinds c t vs w h. equality_meets (plain_world head) answers kinds c t vs w h
