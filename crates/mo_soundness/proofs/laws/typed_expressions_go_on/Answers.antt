use Rattle.mo_soundness.specs.Worlds.{plain_world}
use Rattle.mo_soundness.proofs.Going.{no_stuck, no_jump}
use Rattle.mo_soundness.proofs.laws.typed_expressions_go_on.Goals as goal

pub returns : goal.returns
returns c = λ head lawful answers kinds w store e n s h. (no_stuck (plain_world head) lawful answers kinds w store e n s h, no_jump (plain_world head) lawful answers kinds w store e n s h)
