use Rattle.std.proofs.Common.{[], ◌∷◌, refl}
use Rattle.kernel_operators.proofs.Operators.{operated}
use Rattle.kernel_operators.proofs.operands.pair.Goals as goal

pub returns : goal.returns
returns c = operated c.operates.result c.args.types.now c.args.kind c.args.a c.args.b c.args.operation c.args.operation c.in_ok-operands.operands (c.args.a ∷ c.args.b ∷ []) refl c.in_ok-operands.ensures c.operates.ensures
