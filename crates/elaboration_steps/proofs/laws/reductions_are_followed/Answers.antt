use Rattle.elaboration_steps.proofs.Standing.{stands_reduce}
use Rattle.elaboration_steps.proofs.laws.reductions_are_followed.Goals as goal

pub returns : goal.returns
returns c = stands_reduce
