use Rattle.std.proofs.Common.{length}
use Rattle.suspend_split.proofs.around.+way.Given as goal

abbrev pub decreases-way : goal.decreases-way
decreases-way l = length l.kinds.now
