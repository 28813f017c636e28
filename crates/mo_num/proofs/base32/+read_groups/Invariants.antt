use Rattle.std.proofs.Common.{length}
use Rattle.mo_num.proofs.base32.+read_groups.Given as goal

abbrev pub decreases-read_groups : goal.decreases-read_groups
decreases-read_groups l = length l.text.now
