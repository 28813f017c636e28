use Rattle.subtype_laws.proofs.Inversion.{to_below, from_below}
use Rattle.subtype_laws.proofs.rules.heads_tell_what_is_below.Goals as goal

pub returns : goal.returns
returns g c = λ head t u. (to_below head t u, from_below head t u)
