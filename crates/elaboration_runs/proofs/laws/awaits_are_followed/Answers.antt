use Rattle.elaboration_runs.proofs.Waiting.{awaits}
use Rattle.elaboration_runs.proofs.laws.awaits_are_followed.Goals as goal

pub returns : goal.returns
returns c = awaits
