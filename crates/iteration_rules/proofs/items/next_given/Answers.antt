use Rattle.iteration_rules.proofs.ItemParts.{next_is, no_next}
use Rattle.iteration_rules.proofs.items.next_given.Goals as goal

pub returns-in-Some-clause-is : goal.returns-in-Some-clause-is
returns-in-Some-clause-is c = next_is c.args.types.now c.args.id c.in-Some.next c.constant_part.result c.given_part.result c.in-Some.is c.constant_part.ensures.is c.given_part.ensures.is

pub returns-in-None-clause-is : goal.returns-in-None-clause-is
returns-in-None-clause-is c = no_next c.args.types.now c.args.id c.constant_part.result c.in-None.is c.constant_part.ensures.is
