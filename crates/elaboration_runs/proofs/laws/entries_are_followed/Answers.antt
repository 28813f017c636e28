use Rattle.elaboration_runs.proofs.Entering.{entries}
use Rattle.elaboration_runs.proofs.laws.entries_are_followed.Goals as goal

pub returns : goal.returns
returns c = entries
