use Rattle.mo_meaning.proofs.Growth.{all_grow}
use Rattle.mo_meaning.proofs.laws.executions_grow.Goals as goal

pub returns : goal.returns
returns c = λ coding first types p. all_grow coding types p first
