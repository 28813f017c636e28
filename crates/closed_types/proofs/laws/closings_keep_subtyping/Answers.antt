use Rattle.closed_types.proofs.Substitution.{stays_below}
use Rattle.closed_types.proofs.laws.closings_keep_subtyping.Goals as goal

pub returns : goal.returns
returns g x = λ head other closed ends c within t u s. stays_below head other closed ends c within t u s
