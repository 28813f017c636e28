use Rattle.core_actors.proofs.QuietRuns.{quiet_is_unbroken}
use Rattle.core_actors.proofs.rows.quiet_actors_are_unbroken.Goals as goal

pub returns : goal.returns
returns c = quiet_is_unbroken
