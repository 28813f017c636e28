use Rattle.mo_soundness.specs.Worlds.{plain_world}
use Rattle.mo_soundness.proofs.Values.{there}
use Rattle.mo_soundness.proofs.laws.values_have_their_types.Goals as goal

pub returns : goal.returns
returns c = λ head answers kinds v w h. there (plain_world head) answers kinds v w h
