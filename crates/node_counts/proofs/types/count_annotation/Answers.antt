use Rattle.node_counts.proofs.Adding.{counts_none}
use Rattle.node_counts.proofs.types.count_annotation.Goals as goal

pub returns-in-None : goal.returns-in-None
returns-in-None c = rw c.in-None.is (counts_none c.args.counted)

pub returns-in-Some : goal.returns-in-Some
returns-in-Some c = rw c.in-Some.is c.count_type.ensures
