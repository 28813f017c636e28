use Rattle.kernel_operators.proofs.Operators.{either_made}
use Rattle.kernel_operators.proofs.operands.either.Goals as goal

pub returns : goal.returns
returns c = either_made c.at.result c.args.types.now c.args.kind c.args.a c.args.b c.in_ok-truth.truth c.in_ok-truth.ensures c.at.ensures
