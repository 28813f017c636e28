use Rattle.subtype_laws.proofs.Transitive.{transitive}
use Rattle.subtype_laws.proofs.order.subtyping_is_transitive.Goals as goal

pub returns : goal.returns
returns g c = λ head one t u v p q. transitive head one t u v p q
