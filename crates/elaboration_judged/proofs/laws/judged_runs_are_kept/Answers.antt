use Rattle.elaboration_judged.proofs.Runs.{judged_runs_keep, measured_judged_runs_keep}
use Rattle.elaboration_judged.proofs.laws.judged_runs_are_kept.Goals as goal

pub returns-clause-runs : goal.returns-clause-runs
returns-clause-runs c = judged_runs_keep

pub returns-clause-measured : goal.returns-clause-measured
returns-clause-measured c = measured_judged_runs_keep
