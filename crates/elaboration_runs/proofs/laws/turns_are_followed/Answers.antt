use Rattle.elaboration_runs.proofs.Turning.{turns}
use Rattle.elaboration_runs.proofs.laws.turns_are_followed.Goals as goal

pub returns : goal.returns
returns c = turns
