use Rattle.elaboration_sources.proofs.Sources.{accepted_runs_keep, measured_accepted_runs_keep}
use Rattle.elaboration_sources.proofs.laws.accepted_runs_are_kept.Goals as goal

pub returns-clause-runs : goal.returns-clause-runs
returns-clause-runs c = accepted_runs_keep

pub returns-clause-measured : goal.returns-clause-measured
returns-clause-measured c = measured_accepted_runs_keep
