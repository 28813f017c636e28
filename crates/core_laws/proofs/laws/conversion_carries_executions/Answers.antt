use Rattle.core_laws.proofs.ConversionLaw.{conversion_carries}
use Rattle.core_laws.proofs.laws.conversion_carries_executions.Goals as goal

pub returns : goal.returns
returns c = conversion_carries
