use Rattle.emitted_steps.proofs.Routines.{routines_do}
use Rattle.emitted_steps.proofs.laws.routines_do.Goals as goal

pub returns : goal.returns
returns g c = routines_do _
