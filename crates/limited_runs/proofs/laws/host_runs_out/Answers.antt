use Rattle.limited_runs.proofs.RunsOut.{runs_out}
use Rattle.limited_runs.proofs.laws.host_runs_out.Goals as goal

pub returns : goal.returns
returns c = runs_out
