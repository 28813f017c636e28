use Rattle.typed_tree.proofs.Weights.{weight_same}
use Rattle.typed_tree.proofs.laws.weights_see_no_function.Goals as goal

pub returns : goal.returns
returns g c = λ code p v. weight_same code p v
