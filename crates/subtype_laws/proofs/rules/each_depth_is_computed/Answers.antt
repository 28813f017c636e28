use Rattle.subtype_laws.proofs.Decided.{decides}
use Rattle.subtype_laws.proofs.rules.each_depth_is_computed.Goals as goal

pub returns : goal.returns
returns g c = λ head n t u. decides head n t u
