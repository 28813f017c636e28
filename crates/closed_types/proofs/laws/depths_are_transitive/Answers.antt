use Rattle.closed_types.proofs.Depthwise.{sub_transitive}
use Rattle.closed_types.proofs.laws.depths_are_transitive.Goals as goal

pub returns : goal.returns
returns g c = λ head none n t u v p q. sub_transitive head none n t u v p q
