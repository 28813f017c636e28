use Rattle.abstract_type_walk.proofs.ItemMaking.{method_made}
use Rattle.abstract_type_walk.proofs.type_walk.TypeWalk.method.Goals as goal

pub returns : goal.returns
returns g c = method_made c.args.method.now _ _ _ _ _ c.in_ok-place.ensures c.in_ok-name.ensures c.in_ok-of.ensures
