use Rattle.subtype_laws.proofs.Samples.{twice_apart}
use Rattle.subtype_laws.proofs.rows.repeated_labels_break_reflexivity.Goals as goal

pub returns : goal.returns
returns c = twice_apart
