use Rattle.mo_types.specs.Heads.{array_of}
use Rattle.judging.proofs.NodeParts.{one_part, part_reached}
use Rattle.data_parts.proofs.HeadParts.{array_one}
use Rattle.data_parts.proofs.heads.array_part.Goals as goal

pub returns-in-Some-clause-is : goal.returns-in-Some-clause-is
returns-in-Some-clause-is c =
    one_part array_of array_of array_one c.args.types.now c.args.id c.in-Some.node.now c.in-Some.ensures.there c.array_at.result c.part_in.result c.array_at.ensures c.part_in.ensures

pub returns-in-Some-clause-reached : goal.returns-in-Some-clause-reached
returns-in-Some-clause-reached c = part_reached c.args.types.now c.array_at.result c.part_in.result c.part_in.ensures

pub returns-in-None-clause-is : goal.returns-in-None-clause-is
returns-in-None-clause-is c = absurd (c.in-None.ensures.missing c.requires.reached)
