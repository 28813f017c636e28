use Rattle.elaboration_kept.proofs.Runs.{measured_runs_keep, well_typed_runs_keep}
use Rattle.elaboration_kept.proofs.laws.well_typed_runs_are_kept.Goals as goal

pub returns-clause-runs : goal.returns-clause-runs
returns-clause-runs c = well_typed_runs_keep

pub returns-clause-measured : goal.returns-clause-measured
returns-clause-measured c = measured_runs_keep
