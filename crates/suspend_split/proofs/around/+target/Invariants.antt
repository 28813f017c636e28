use Rattle.std.proofs.Common.{length}
use Rattle.suspend_split.proofs.around.+target.Given as goal

abbrev pub decreases-target : goal.decreases-target
decreases-target l = length l.kinds.now
