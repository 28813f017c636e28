use Rattle.scope_laws.proofs.Plain.{public_fields_are_plain}
use Rattle.scope_laws.proofs.laws.public_fields_are_plain.Goals as goal

pub returns : goal.returns
returns c = public_fields_are_plain
