use Rattle.std.proofs.Common.{arith}
use Rattle.core_ir.specs.CodeView.{exit_code}
use Rattle.suspend_split.proofs.Before.{into_some}
use Rattle.suspend_split.proofs.draft.Draft.leaves.Goals as goal

pub returns-then-len-gt0-clause-goes_on : goal.returns-then-len-gt0-clause-goes_on
returns-then-len-gt0-clause-goes_on c names slot operand = into_some c.args.self.now.instructions slot operand names (exit_code c.args.self.now.exit) (let l = c.len.ensures in let m = c.if-len-gt0.true in omega (arith, l, m))
