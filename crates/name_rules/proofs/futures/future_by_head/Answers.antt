use Rattle.name_rules.proofs.FutureTypes.{head_is}
use Rattle.name_rules.proofs.futures.future_by_head.Goals as goal

pub returns-clause-is : goal.returns-clause-is
returns-clause-is c = head_is c.args.types.now c.head.new.self c.args.kind c.in_ok-node.node c.is_async.result c.in_ok-node.ensures.goes.listed c.in_ok-node.ensures.made c.is_async.ensures
