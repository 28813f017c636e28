use Rattle.mo_types.specs.Heads.{opt_of}
use Rattle.judging.proofs.NodeParts.{one_part, option_one, part_reached}
use Rattle.judging.proofs.heads.option_part.Goals as goal

pub returns-in-Some-clause-is : goal.returns-in-Some-clause-is
returns-in-Some-clause-is c =
    one_part opt_of opt_of option_one c.args.types.now c.args.id c.in-Some.node.now c.in-Some.ensures.there c.option_at.result c.part_in.result c.option_at.ensures c.part_in.ensures

pub returns-in-Some-clause-reached : goal.returns-in-Some-clause-reached
returns-in-Some-clause-reached c = part_reached c.args.types.now c.option_at.result c.part_in.result c.part_in.ensures

pub returns-in-None-clause-is : goal.returns-in-None-clause-is
returns-in-None-clause-is c = absurd (c.in-None.ensures.missing c.requires.reached)
