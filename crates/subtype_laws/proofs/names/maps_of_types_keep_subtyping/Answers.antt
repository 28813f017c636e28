use Rattle.subtype_laws.proofs.Mapped.{there, back}
use Rattle.subtype_laws.proofs.names.maps_of_types_keep_subtyping.Goals as goal

pub returns-clause-depths : goal.returns-clause-depths
returns-clause-depths g c = λ head other f same n t u. (there head other f same n t u, back head other f same n t u)

pub returns-clause-types : goal.returns-clause-types
returns-clause-types g c = λ head other f same t u. (λ s. record { by = λ n. there head other f same n t u (s.by n) }, λ s. record { by = λ n. back head other f same n t u (s.by n) })
