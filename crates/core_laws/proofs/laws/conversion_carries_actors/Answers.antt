use Rattle.core_laws.proofs.ActorLaws.{conversion_follows}
use Rattle.core_laws.proofs.laws.conversion_carries_actors.Goals as goal

pub returns : goal.returns
returns g c = conversion_follows _
