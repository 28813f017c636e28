use Rattle.std.proofs.Common.{length}
use Rattle.suspend_split.proofs.around.+handler.Given as goal

abbrev pub decreases-handler : goal.decreases-handler
decreases-handler l = length l.kinds.now
