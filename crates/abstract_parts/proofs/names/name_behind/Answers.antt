use Rattle.abstract_parts.proofs.ListMaking.{if_named}
use Rattle.abstract_parts.proofs.names.name_behind.Goals as goal

pub returns : goal.returns
returns c = if_named c.args.name.now _ _ c.placed_name.result c.in_ok-number_behind.ensures c.placed_name.ensures
