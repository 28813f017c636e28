use Rattle.typing_rules.specs.Heads.{bound_of}
use Rattle.judging.proofs.NodeParts.{one_part, part_reached}
use Rattle.member_heads.specs.Members.{bound_at}
use Rattle.member_heads.proofs.HeadParts.{bound_one}
use Rattle.member_heads.proofs.bounds.bound.Goals as goal

pub returns-in-Some-clause-is : goal.returns-in-Some-clause-is
returns-in-Some-clause-is c =
    one_part bound_of bound_at bound_one c.args.types.now c.args.id c.in-Some.node.now c.in-Some.ensures.there c.bound_at.result c.part_in.result c.bound_at.ensures c.part_in.ensures

pub returns-in-Some-clause-reached : goal.returns-in-Some-clause-reached
returns-in-Some-clause-reached c = part_reached c.args.types.now c.bound_at.result c.part_in.result c.part_in.ensures

pub returns-in-None-clause-is : goal.returns-in-None-clause-is
returns-in-None-clause-is c = absurd (c.in-None.ensures.missing c.requires.reached)
