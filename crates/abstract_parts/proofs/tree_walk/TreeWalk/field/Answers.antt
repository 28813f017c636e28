use Rattle.abstract_parts.proofs.ListMaking.{field_made}
use Rattle.abstract_parts.proofs.tree_walk.TreeWalk.field.Goals as goal

pub returns : goal.returns
returns g c = field_made c.args.field.now _ _ _ _ _ _ _ _ _ c.in_ok-number_behind.ensures c.count_if.ensures.count c.in_ok-place.ensures c.in_ok-name.ensures c.in_ok-annotation.ensures c.in_ok-value.ensures
