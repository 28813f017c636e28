use Rattle.low_limits.proofs.Cut.{smaller_cut}
use Rattle.low_limits.proofs.laws.smaller_limits_cut_executions.Goals as goal

pub returns : goal.returns
returns c = smaller_cut
