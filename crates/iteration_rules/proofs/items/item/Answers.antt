use Rattle.std.proofs.Common.{length}
use Rattle.type_definitions.proofs.PutIn.{bottom_below}
use Rattle.iteration_rules.proofs.ItemParts.{item_there}
use Rattle.iteration_rules.proofs.items.item.Goals as goal

pub intern-requires-clause-below : goal.intern-requires-clause-below
intern-requires-clause-below c = bottom_below (length c.args.types.now.forms)

pub returns-in-Some : goal.returns-in-Some
returns-in-Some c = item_there c.args.types.now c.requires.kept c.args.id c.in-Some.part c.in-Some.ensures.reached c.in-Some.ensures.is
