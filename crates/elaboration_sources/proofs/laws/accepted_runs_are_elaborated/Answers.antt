use Rattle.elaboration_sources.proofs.Sources.{accepted_runs_elaborate}
use Rattle.elaboration_sources.proofs.laws.accepted_runs_are_elaborated.Goals as goal

pub returns : goal.returns
returns c = accepted_runs_elaborate
