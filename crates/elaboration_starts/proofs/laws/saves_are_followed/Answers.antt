use Rattle.elaboration_starts.proofs.Keeping.{saves_follow}
use Rattle.elaboration_starts.proofs.laws.saves_are_followed.Goals as goal

pub returns : goal.returns
returns c = saves_follow
