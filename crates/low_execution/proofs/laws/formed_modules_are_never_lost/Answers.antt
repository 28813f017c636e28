use Rattle.low_execution.proofs.NeverLost.{never_lost}
use Rattle.low_execution.proofs.laws.formed_modules_are_never_lost.Goals as goal

pub returns : goal.returns
returns c = never_lost
