use Rattle.abstract_type_walk.proofs.ItemMaking.{empty_tag_made, tag_made}
use Rattle.abstract_type_walk.proofs.type_walk.TypeWalk.tag.Goals as goal

pub returns-in_ok-number_behind-in-None : goal.returns-in_ok-number_behind-in-None
returns-in_ok-number_behind-in-None g c = empty_tag_made c.args.tag.now _ _ _ _ _ c.in-None.is c.in_ok-number_behind.ensures c.in_ok-place.ensures c.in_ok-name.ensures c.in_ok-number_behind-in-None.ensures

pub returns-in_ok-of-in-Some : goal.returns-in_ok-of-in-Some
returns-in_ok-of-in-Some g c = tag_made c.args.tag.now _ _ _ _ _ _ _ c.in-Some.is c.in_ok-number_behind.ensures c.in_ok-place.ensures c.in_ok-name.ensures c.in_ok-of-in-Some.ensures
