use Rattle.mo_meaning.proofs.Settled.{all_settle}
use Rattle.mo_meaning.proofs.laws.executions_settle.Goals as goal

pub returns : goal.returns
returns c = λ coding first types p. all_settle coding types p first
