use Rattle.mo_soundness.specs.Worlds.{plain_world}
use Rattle.mo_soundness.proofs.Reached.{reached}
use Rattle.mo_soundness.proofs.laws.what_is_reached_is_typed.Goals as goal

pub returns : goal.returns
returns c = λ head lawful answers kinds w store last e g s h r. reached (plain_world head) lawful answers w kinds store last e g s h r
