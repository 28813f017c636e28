use Rattle.subtype_laws.proofs.Greatest.{taken, given}
use Rattle.subtype_laws.proofs.rules.subtypes_are_so_by_their_heads.Goals as goal

pub returns : goal.returns
returns g c = λ head t u. (taken head t u, given head t u)
