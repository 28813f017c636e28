use Rattle.kernel_counts.proofs.Adding.{counts_none}
use Rattle.kernel_counts.proofs.types.count_type_arguments.Goals as goal

pub returns-in-None : goal.returns-in-None
returns-in-None c = rw c.in-None.is (counts_none c.args.counted)

pub returns-in-Some : goal.returns-in-Some
returns-in-Some c = rw c.in-Some.is (rw c.as_slice.ensures at c.count_arguments.ensures)
