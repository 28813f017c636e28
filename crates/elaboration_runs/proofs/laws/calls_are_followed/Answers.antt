use Rattle.elaboration_runs.proofs.Calling.{calls}
use Rattle.elaboration_runs.proofs.laws.calls_are_followed.Goals as goal

pub returns : goal.returns
returns c = calls
