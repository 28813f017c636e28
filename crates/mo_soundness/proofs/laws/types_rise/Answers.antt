use Rattle.mo_soundness.specs.Worlds.{plain_world}
use Rattle.mo_soundness.proofs.Less.{has_sub, typed_sub}
use Rattle.mo_soundness.proofs.laws.types_rise.Goals as goal

pub returns-clause-values : goal.returns-clause-values
returns-clause-values g = λ head lawful answers kinds v w u h s. has_sub (plain_world head) lawful answers kinds v w u h s

pub returns-clause-expressions : goal.returns-clause-expressions
returns-clause-expressions g = λ head lawful answers kinds c e w u h s. typed_sub (plain_world head) lawful answers kinds c e w u h s
