use Rattle.mo_values.proofs.Natural.{natural}
use Rattle.mo_values.proofs.laws.operations_see_no_function.Goals as goal

pub returns : goal.returns
returns g c = λ head code o vs. natural code head o vs
