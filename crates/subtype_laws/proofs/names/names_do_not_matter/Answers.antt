use Rattle.subtype_laws.proofs.Renamed.{there, back}
use Rattle.subtype_laws.proofs.names.names_do_not_matter.Goals as goal

pub returns-clause-depths : goal.returns-clause-depths
returns-clause-depths g c = λ head other old new renamed n i j. (there head other old new renamed n i j, back head other old new renamed n i j)

pub returns-clause-types : goal.returns-clause-types
returns-clause-types g c = λ head other old new renamed i j. (λ s. record { by = λ n. there head other old new renamed n i j (s.by n) }, λ s. record { by = λ n. back head other old new renamed n i j (s.by n) })
