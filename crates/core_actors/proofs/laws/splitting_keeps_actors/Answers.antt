use Rattle.core_actors.proofs.KeptLaws.{splitting_keeps, splitting_keeps_runs}
use Rattle.core_actors.proofs.laws.splitting_keeps_actors.Goals as goal

pub returns-clause-keeps : goal.returns-clause-keeps
returns-clause-keeps g c = splitting_keeps _

pub returns-clause-runs : goal.returns-clause-runs
returns-clause-runs g c = splitting_keeps_runs _
