use Rattle.abstract_type_walk.proofs.ItemMaking.{field_made}
use Rattle.abstract_type_walk.proofs.type_walk.TypeWalk.field.Goals as goal

pub returns : goal.returns
returns g c = field_made c.args.field.now _ _ _ _ _ _ _ c.in_ok-number_behind.ensures c.count_if.ensures.count c.in_ok-place.ensures c.in_ok-name.ensures c.in_ok-of.ensures
