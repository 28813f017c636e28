use Rattle.std.proofs.Common.{ap}
use Rattle.typing_rules.specs.AbstractTypes.{item_size}
use Rattle.abstract_type_walk.proofs.ItemMaking.{item_made}
use Rattle.abstract_type_walk.proofs.type_walk.TypeWalk.item.Goals as goal

pub returns-in-None : goal.returns-in-None
returns-in-None g c = item_made c.args.item.now 0 _ _ c.walk.result (ap item_size c.in-None.is) c.in_ok-place.ensures c.walk.ensures

pub returns-in-Some : goal.returns-in-Some
returns-in-Some g c = item_made c.args.item.now 2 _ _ c.walk-in-Some.result (ap item_size c.in-Some.is) c.in_ok-place.ensures c.walk-in-Some.ensures
