use Rattle.subtype_laws.proofs.Bounds.{one_bound}
use Rattle.subtype_laws.proofs.Reflexive.{reflexive}
use Rattle.subtype_laws.proofs.Transitive.{transitive}
use Rattle.subtype_laws.proofs.order.subtyping_is_an_order.Goals as goal

pub returns-clause-reflexive : goal.returns-clause-reflexive
returns-clause-reflexive g c = λ head own t. reflexive head t (λ u r. own u)

pub returns-clause-transitive : goal.returns-clause-transitive
returns-clause-transitive g c = λ head own bound t u v p q. transitive head (one_bound head own bound) t u v p q
