use Rattle.kernel_nodes.proofs.Rolling.{alone_is}
use Rattle.kernel_nodes.proofs.values.alone.Goals as goal

pub returns : goal.returns
returns c = alone_is c.args.types.now c.args.kind c.at.result c.args.function c.in_ok-steps.steps c.in_ok-value.value c.in_ok-steps.ensures c.in_ok-value.ensures c.at.ensures
