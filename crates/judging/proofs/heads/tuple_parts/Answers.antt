use Rattle.std.proofs.Common.{length}
use Rattle.judging.proofs.NodeParts.{parts_reached, tuple_found, tuple_within}
use Rattle.judging.proofs.heads.tuple_parts.Goals as goal

pub terms_at-requires : goal.terms_at-requires
terms_at-requires c = tuple_within (length c.args.types.now.reached) c.in-Some.node.now c.in-Some-tuple_at.parts.now c.in-Some-tuple_at.ensures c.in-Some.ensures.there.parts

pub returns-in_ok-terms_at-in-Some-tuple_at-clause-is : goal.returns-in_ok-terms_at-in-Some-tuple_at-clause-is
returns-in_ok-terms_at-in-Some-tuple_at-clause-is c =
    tuple_found c.args.types.now c.args.id c.in-Some.node.now c.in-Some.ensures.there c.in-Some-tuple_at.parts.now c.in_ok-terms_at-in-Some-tuple_at.field-0.items c.in-Some-tuple_at.ensures
    c.in_ok-terms_at-in-Some-tuple_at.ensures

pub returns-in_ok-terms_at-in-Some-tuple_at-clause-reached : goal.returns-in_ok-terms_at-in-Some-tuple_at-clause-reached
returns-in_ok-terms_at-in-Some-tuple_at-clause-reached c =
    parts_reached c.args.types.now c.in-Some-tuple_at.parts.now c.in_ok-terms_at-in-Some-tuple_at.field-0.items c.in_ok-terms_at-in-Some-tuple_at.ensures
