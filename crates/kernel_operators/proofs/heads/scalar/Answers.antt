use Rattle.kernel_operators.proofs.Operators.{scalar_found}
use Rattle.kernel_operators.proofs.heads.scalar.Goals as goal

pub returns : goal.returns
returns c = scalar_found c.args.types.now c.args.kind c.in_ok-head.head.now c.in_ok-head.ensures c.scalar_at.result c.scalar_at.ensures
