use Rattle.actor_refinement.proofs.Scripts.{script_sound, script_once}
use Rattle.actor_refinement.proofs.laws.scripts_are_sound.Goals as goal

pub returns : goal.returns
returns c = λ text modules events s. (script_sound text modules events s, script_once text modules events s)
