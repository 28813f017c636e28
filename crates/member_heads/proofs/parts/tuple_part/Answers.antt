use Rattle.std.proofs.Common.{option_map}
use Rattle.type_definitions.specs.Meanings.{term}
use Rattle.judging.proofs.NodeParts.{one_part, part_reached}
use Rattle.member_heads.specs.Members.{part_at}
use Rattle.member_heads.proofs.HeadParts.{members_are, part_one}
use Rattle.member_heads.proofs.parts.tuple_part.Goals as goal

pub returns-in-Some-clause-is : goal.returns-in-Some-clause-is
returns-in-Some-clause-is c =
    members_are (part_at c.args.place) c.args.types.now c.args.id c.promoted-last.result (λ later. option_map (term later) c.part_in.result) c.promoted-last.ensures.is
    (one_part (part_at c.args.place) (part_at c.args.place) (part_one c.args.place) c.args.types.now c.promoted-last.result c.in-Some.node.now c.in-Some.ensures.there c.part_at.result c.part_in.result c.part_at.ensures c.part_in.ensures)

pub returns-in-Some-clause-reached : goal.returns-in-Some-clause-reached
returns-in-Some-clause-reached c = part_reached c.args.types.now c.part_at.result c.part_in.result c.part_in.ensures

pub returns-in-None-clause-is : goal.returns-in-None-clause-is
returns-in-None-clause-is c = absurd (c.in-None.ensures.missing c.promoted-last.ensures.reached)
