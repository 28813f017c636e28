use Rattle.emitted_runs.proofs.Behind.{adds_up}
use Rattle.emitted_runs.proofs.laws.runs_add_up.Goals as goal

pub returns : goal.returns
returns g c = adds_up _ _
