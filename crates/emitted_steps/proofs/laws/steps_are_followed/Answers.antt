use Rattle.emitted_steps.proofs.Followed.{steps_followed}
use Rattle.emitted_steps.proofs.laws.steps_are_followed.Goals as goal

pub returns : goal.returns
returns g c = steps_followed _
