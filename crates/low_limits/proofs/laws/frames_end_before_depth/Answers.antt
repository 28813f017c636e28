use Rattle.low_limits.proofs.Cut.{frames_end}
use Rattle.low_limits.proofs.laws.frames_end_before_depth.Goals as goal

pub returns : goal.returns
returns c = frames_end
