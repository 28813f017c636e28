use Rattle.subtype_laws.proofs.Greatest.{pairs_hold}
use Rattle.subtype_laws.proofs.rules.closed_pairs_are_subtypes.Goals as goal

pub returns : goal.returns
returns g c = λ head low high closed i. pairs_hold head low high closed i
