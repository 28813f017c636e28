use Rattle.mo_values.proofs.Leaves.{leaf_is}
use Rattle.mo_values.proofs.laws.leaves_are_of_their_types.Goals as goal

pub returns : goal.returns
returns c = λ t p e. leaf_is t p e
