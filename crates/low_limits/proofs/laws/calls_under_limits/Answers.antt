use Rattle.low_limits.proofs.Under.{under_limits}
use Rattle.low_limits.proofs.laws.calls_under_limits.Goals as goal

pub returns : goal.returns
returns c = under_limits
