use Rattle.core_measures.proofs.Views.{size_read, size_missing}
use Rattle.core_measures.proofs.sizes.size_of_group.Goals as goal

pub returns-in-Some : goal.returns-in-Some
returns-in-Some c = let l = c.in-Some.ensures.lookup in size_read c.args.sizes.now c.args.group c.in-Some.size.now (l.3).0 (l.1)

pub returns-in-None : goal.returns-in-None
returns-in-None c = let l = c.in-None.ensures.lookup in size_missing c.args.sizes.now c.args.group (l.3)
