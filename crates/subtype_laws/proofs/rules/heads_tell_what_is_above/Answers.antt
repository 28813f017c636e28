use Rattle.subtype_laws.proofs.Inversion.{to_above, from_above}
use Rattle.subtype_laws.proofs.rules.heads_tell_what_is_above.Goals as goal

pub returns : goal.returns
returns g c = λ head t u. (to_above head t u, from_above head t u)
