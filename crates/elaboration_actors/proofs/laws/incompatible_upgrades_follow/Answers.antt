use Rattle.elaboration_actors.proofs.Incompatible.{incompatible_follow}
use Rattle.elaboration_actors.proofs.laws.incompatible_upgrades_follow.Goals as goal

pub returns : goal.returns
returns c = incompatible_follow
