use Rattle.subtype_laws.proofs.Matching.{labels_own}
use Rattle.subtype_laws.proofs.order.told_labels_are_own.Goals as goal

pub returns : goal.returns
returns g c = λ x told. labels_own x told
