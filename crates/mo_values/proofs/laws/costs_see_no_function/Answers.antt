use Rattle.mo_values.proofs.SameCosts.{same_cost}
use Rattle.mo_values.proofs.laws.costs_see_no_function.Goals as goal

pub returns : goal.returns
returns g c = λ code o vs answer. same_cost code o vs answer
