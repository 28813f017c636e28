use Rattle.elaboration_steps.proofs.Depth.{as_deep}
use Rattle.elaboration_steps.proofs.laws.stacks_are_as_deep.Goals as goal

pub returns : goal.returns
returns c = as_deep
