use Rattle.kernel_nodes.proofs.Rolling.{tuple_of_none, tuple_of_several}
use Rattle.kernel_nodes.proofs.values.tuple.Goals as goal

pub returns-then-is_empty : goal.returns-then-is_empty
returns-then-is_empty c = tuple_of_none c.args.types.now c.args.kind c.constant.result c.args.items c.is_empty.result c.is_empty.ensures c.if-is_empty.true c.constant.ensures

pub returns-else-is_empty : goal.returns-else-is_empty
returns-else-is_empty c = tuple_of_several c.args.types.now c.args.kind c.operates.result c.args.items c.is_empty.result c.is_empty.ensures c.if-is_empty.false c.operates.ensures
