use Rattle.std.proofs.Common.{option_map}
use Rattle.type_definitions.specs.Meanings.{term}
use Rattle.member_heads.proofs.HeadParts.{field_is, field_reached, members_are, var_field}
use Rattle.member_heads.proofs.parts.object_field.Goals as goal

pub returns-in-Some-clause-is : goal.returns-in-Some-clause-is
returns-in-Some-clause-is c =
    members_are (var_field c.args.label.now) c.args.types.now c.args.id c.promoted-last.result (λ later. option_map (λ q. (q.0, term later q.1)) c.field_in.result) c.promoted-last.ensures.is
    (field_is c.args.label.now c.args.types.now c.promoted-last.result c.in-Some.node.now c.in-Some.ensures.there c.field_at.result c.field_in.result c.field_at.ensures c.field_in.ensures)

pub returns-in-Some-clause-reached : goal.returns-in-Some-clause-reached
returns-in-Some-clause-reached c = field_reached c.args.types.now c.field_at.result c.field_in.result c.field_in.ensures

pub returns-in-None-clause-is : goal.returns-in-None-clause-is
returns-in-None-clause-is c = absurd (c.in-None.ensures.missing c.promoted-last.ensures.reached)
