use Rattle.iteration_rules.proofs.ItemParts.{no_items}
use Rattle.iteration_rules.proofs.items.items.Goals as goal

pub returns-in-None : goal.returns-in-None
returns-in-None c = no_items c.args.types.now c.args.id c.requires.kept c.in-None.ensures.is
