use Rattle.emitted_runs.proofs.Entered.{bodies_entered}
use Rattle.emitted_runs.proofs.laws.bodies_are_entered.Goals as goal

pub returns : goal.returns
returns g c = bodies_entered _
