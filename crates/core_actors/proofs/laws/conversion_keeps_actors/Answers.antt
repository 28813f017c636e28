use Rattle.core_actors.proofs.KeptLaws.{conversion_keeps, conversion_keeps_runs}
use Rattle.core_actors.proofs.laws.conversion_keeps_actors.Goals as goal

pub returns-clause-keeps : goal.returns-clause-keeps
returns-clause-keeps g c = conversion_keeps _

pub returns-clause-runs : goal.returns-clause-runs
returns-clause-runs g c = conversion_keeps_runs _
