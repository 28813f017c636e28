use Rattle.elaboration.proofs.laws.checks_decide.Goals as goal
use Rattle.elaboration.proofs.Checking.{decide}

pub returns : goal.returns
returns c = decide
