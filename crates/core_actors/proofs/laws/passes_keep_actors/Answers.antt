use Rattle.core_actors.proofs.KeptLaws.{passes_keep, passes_keep_runs}
use Rattle.core_actors.proofs.laws.passes_keep_actors.Goals as goal

pub returns-clause-keeps : goal.returns-clause-keeps
returns-clause-keeps g c = passes_keep _

pub returns-clause-runs : goal.returns-clause-runs
returns-clause-runs g c = passes_keep_runs _
