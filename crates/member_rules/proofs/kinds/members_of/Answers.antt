use Rattle.member_rules.proofs.HeadMembers.{head_meant, meant_reached}
use Rattle.member_rules.proofs.kinds.members_of.Goals as goal

pub returns-in-Some-clause-is : goal.returns-in-Some-clause-is
returns-in-Some-clause-is c =
    head_meant c.args.label.now c.args.types.now c.args.id c.promoted-last.result c.in-Some.node.now c.members_at.result c.members_in.result c.promoted-last.ensures.is c.in-Some.ensures.there c.members_at.ensures c.members_in.ensures

pub returns-in-Some-clause-reached : goal.returns-in-Some-clause-reached
returns-in-Some-clause-reached c = meant_reached c.args.label.now c.args.types.now c.members_at.result c.members_in.result c.members_in.ensures

pub returns-in-None-clause-is : goal.returns-in-None-clause-is
returns-in-None-clause-is c = absurd (c.in-None.ensures.missing c.promoted-last.ensures.reached)
