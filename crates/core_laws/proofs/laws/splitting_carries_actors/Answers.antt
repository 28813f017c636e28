use Rattle.core_laws.proofs.ActorLaws.{splitting_follows}
use Rattle.core_laws.proofs.laws.splitting_carries_actors.Goals as goal

pub returns : goal.returns
returns g c = splitting_follows _
