use Rattle.name_rules.proofs.FutureTypes.{met_is}
use Rattle.name_rules.proofs.futures.met_future.Goals as goal

pub returns-in-Some : goal.returns-in-Some
returns-in-Some c = met_is c.args.types.now c.args.kind c.in-Some.node.now c.is_async.result c.in-Some.ensures.there c.is_async.ensures
