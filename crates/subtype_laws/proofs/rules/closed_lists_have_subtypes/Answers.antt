use Rattle.subtype_laws.proofs.Greatest.{list_holds}
use Rattle.subtype_laws.proofs.rules.closed_lists_have_subtypes.Goals as goal

pub returns : goal.returns
returns g c = λ head pairs closed. list_holds head pairs closed
