use Rattle.limited_runs.proofs.Ends.{ends_within}
use Rattle.limited_runs.proofs.laws.bodies_end_within_limits.Goals as goal

pub returns : goal.returns
returns c = ends_within
