use Rattle.elaboration_steps.proofs.Beginning.{begins}
use Rattle.elaboration_steps.proofs.laws.bodies_begin.Goals as goal

pub returns : goal.returns
returns c = begins
