use Rattle.mo_types.specs.Heads.{async_of}
use Rattle.judging.proofs.NodeParts.{one_part, part_reached}
use Rattle.call_rules.proofs.Promises.{future_one}
use Rattle.call_rules.proofs.futures.future_part.Goals as goal

pub returns-in-Some-clause-is : goal.returns-in-Some-clause-is
returns-in-Some-clause-is c =
    one_part async_of async_of future_one c.args.types.now c.args.id c.in-Some.node.now c.in-Some.ensures.there c.future_at.result c.part_in.result c.future_at.ensures c.part_in.ensures

pub returns-in-Some-clause-reached : goal.returns-in-Some-clause-reached
returns-in-Some-clause-reached c = part_reached c.args.types.now c.future_at.result c.part_in.result c.part_in.ensures

pub returns-in-None-clause-is : goal.returns-in-None-clause-is
returns-in-None-clause-is c = absurd (c.in-None.ensures.missing c.requires.reached)
