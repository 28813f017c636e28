use Rattle.core_laws.proofs.ActorLaws.{passes_carry}
use Rattle.core_laws.proofs.laws.passes_carry_executions.Goals as goal

pub returns : goal.returns
returns c = passes_carry
