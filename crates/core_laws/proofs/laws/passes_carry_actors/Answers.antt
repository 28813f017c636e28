use Rattle.core_laws.proofs.ActorLaws.{passes_follow}
use Rattle.core_laws.proofs.laws.passes_carry_actors.Goals as goal

pub returns : goal.returns
returns g c = passes_follow _
