use Rattle.elaboration_starts.proofs.Following.{upgrades_follow}
use Rattle.elaboration_starts.proofs.laws.upgrades_are_followed.Goals as goal

pub returns : goal.returns
returns c = upgrades_follow
