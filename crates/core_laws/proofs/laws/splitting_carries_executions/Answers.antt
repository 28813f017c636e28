use Rattle.core_laws.proofs.SplittingLaw.{splitting_carries}
use Rattle.core_laws.proofs.laws.splitting_carries_executions.Goals as goal

pub returns : goal.returns
returns c = splitting_carries
