use Rattle.elaboration_starts.proofs.Following.{installs_follow}
use Rattle.elaboration_starts.proofs.laws.installs_are_followed.Goals as goal

pub returns : goal.returns
returns c = installs_follow
