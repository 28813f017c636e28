use Rattle.elaboration_starts.proofs.Runs.{elaborated_runs_keep, measured_elaborated_runs_keep}
use Rattle.elaboration_starts.proofs.laws.elaborated_runs_are_kept.Goals as goal

pub returns-clause-runs : goal.returns-clause-runs
returns-clause-runs c = elaborated_runs_keep

pub returns-clause-measured : goal.returns-clause-measured
returns-clause-measured c = measured_elaborated_runs_keep
