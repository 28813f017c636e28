use Rattle.std.proofs.Common.{[], ◌∷◌, refl}
use Rattle.kernel_nodes.proofs.Rolling.{operates_on}
use Rattle.kernel_nodes.proofs.data.operate_on.Goals as goal

pub returns : goal.returns
returns c = operates_on c.args.types.now c.args.kind c.operates.result c.args.operation c.args.operation c.in_ok-operands.operands (c.args.a ∷ []) refl c.in_ok-operands.ensures c.operates.ensures
