use Rattle.judging.proofs.NodeParts.{one_part, part_reached}
use Rattle.iteration_rules.specs.Items.{given_of}
use Rattle.iteration_rules.proofs.ItemParts.{given_one}
use Rattle.iteration_rules.proofs.items.given_part.Goals as goal

pub returns-in-Some-clause-is : goal.returns-in-Some-clause-is
returns-in-Some-clause-is c =
    one_part given_of given_of given_one c.args.types.now c.args.id c.in-Some.node.now c.in-Some.ensures.there c.given_at.result c.part_in.result c.given_at.ensures c.part_in.ensures

pub returns-in-Some-clause-reached : goal.returns-in-Some-clause-reached
returns-in-Some-clause-reached c = part_reached c.args.types.now c.given_at.result c.part_in.result c.part_in.ensures

pub returns-in-None-clause-is : goal.returns-in-None-clause-is
returns-in-None-clause-is c = absurd (c.in-None.ensures.missing c.requires.reached)
