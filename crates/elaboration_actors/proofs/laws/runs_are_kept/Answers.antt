use Rattle.elaboration_actors.proofs.Runs.{runs_keep, measured_runs_keep}
use Rattle.elaboration_actors.proofs.laws.runs_are_kept.Goals as goal

pub returns-clause-runs : goal.returns-clause-runs
returns-clause-runs c = runs_keep

pub returns-clause-measured : goal.returns-clause-measured
returns-clause-measured c = measured_runs_keep
