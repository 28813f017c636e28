use Rattle.emitted_runs.proofs.Runs.{runs_followed}
use Rattle.emitted_runs.proofs.laws.runs_are_followed.Goals as goal

pub returns : goal.returns
returns g c = runs_followed _
