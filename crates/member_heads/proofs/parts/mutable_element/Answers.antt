use Rattle.std.proofs.Common.{option_map}
use Rattle.mo_types.specs.Heads.{mut_array_of}
use Rattle.type_definitions.specs.Meanings.{term}
use Rattle.judging.proofs.NodeParts.{one_part, part_reached}
use Rattle.member_heads.specs.Members.{mutable_at}
use Rattle.member_heads.proofs.HeadParts.{mutable_one, members_are}
use Rattle.member_heads.proofs.parts.mutable_element.Goals as goal

pub returns-in-Some-clause-is : goal.returns-in-Some-clause-is
returns-in-Some-clause-is c =
    members_are mut_array_of c.args.types.now c.args.id c.promoted-last.result (λ later. option_map (term later) c.part_in.result) c.promoted-last.ensures.is
    (one_part mut_array_of mutable_at mutable_one c.args.types.now c.promoted-last.result c.in-Some.node.now c.in-Some.ensures.there c.mutable_at.result c.part_in.result c.mutable_at.ensures c.part_in.ensures)

pub returns-in-Some-clause-reached : goal.returns-in-Some-clause-reached
returns-in-Some-clause-reached c = part_reached c.args.types.now c.mutable_at.result c.part_in.result c.part_in.ensures

pub returns-in-None-clause-is : goal.returns-in-None-clause-is
returns-in-None-clause-is c = absurd (c.in-None.ensures.missing c.promoted-last.ensures.reached)
