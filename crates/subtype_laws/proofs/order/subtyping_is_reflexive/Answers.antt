use Rattle.subtype_laws.proofs.Reflexive.{reflexive}
use Rattle.subtype_laws.proofs.order.subtyping_is_reflexive.Goals as goal

pub returns : goal.returns
returns g c = λ head t own. reflexive head t own
