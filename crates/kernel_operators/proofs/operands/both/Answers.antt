use Rattle.kernel_operators.proofs.Operators.{both_made}
use Rattle.kernel_operators.proofs.operands.both.Goals as goal

pub returns : goal.returns
returns c = both_made c.at.result c.args.types.now c.args.kind c.args.a c.args.b c.in_ok-falsehood.falsehood c.in_ok-falsehood.ensures c.at.ensures
