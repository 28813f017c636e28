use Rattle.std.proofs.Common.{option_map}
use Rattle.typing_rules.specs.Expressions.{element_of}
use Rattle.type_definitions.specs.Meanings.{term}
use Rattle.judging.proofs.NodeParts.{one_part, part_reached}
use Rattle.member_heads.specs.Members.{element_at}
use Rattle.member_heads.proofs.HeadParts.{element_one, members_are}
use Rattle.member_heads.proofs.parts.element.Goals as goal

pub returns-in-Some-clause-is : goal.returns-in-Some-clause-is
returns-in-Some-clause-is c =
    members_are element_of c.args.types.now c.args.id c.promoted-last.result (λ later. option_map (term later) c.part_in.result) c.promoted-last.ensures.is
    (one_part element_of element_at element_one c.args.types.now c.promoted-last.result c.in-Some.node.now c.in-Some.ensures.there c.element_at.result c.part_in.result c.element_at.ensures c.part_in.ensures)

pub returns-in-Some-clause-reached : goal.returns-in-Some-clause-reached
returns-in-Some-clause-reached c = part_reached c.args.types.now c.element_at.result c.part_in.result c.part_in.ensures

pub returns-in-None-clause-is : goal.returns-in-None-clause-is
returns-in-None-clause-is c = absurd (c.in-None.ensures.missing c.promoted-last.ensures.reached)
