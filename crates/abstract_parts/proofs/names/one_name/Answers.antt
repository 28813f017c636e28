use Rattle.abstract_parts.proofs.ListMaking.{name_made}
use Rattle.abstract_parts.proofs.names.one_name.Goals as goal

pub returns : goal.returns
returns c = name_made c.args.name.now _ _ _ _ c.in_ok-place.ensures c.in_ok-placed_name.ensures c.in_ok-behind.ensures
