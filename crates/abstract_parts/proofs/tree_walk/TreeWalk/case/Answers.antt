use Rattle.abstract_parts.proofs.ListMaking.{case_made}
use Rattle.abstract_parts.proofs.tree_walk.TreeWalk.case.Goals as goal

pub returns : goal.returns
returns g c = case_made c.args.case.now _ _ _ _ _ _ c.in_ok-word.ensures (rw c.get.ensures at c.in_ok-pattern.ensures) c.in_ok-body.ensures
