use Rattle.elaboration_judged.proofs.Runs.{judged_runs_elaborate}
use Rattle.elaboration_judged.proofs.laws.judged_runs_are_elaborated.Goals as goal

pub returns : goal.returns
returns c = judged_runs_elaborate
