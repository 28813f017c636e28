use Rattle.std.proofs.Common.{sym}
use Rattle.met_types.specs.States.{State}
use Rattle.kernel_pieces.proofs.Valued.{found, nothing_last}
use Rattle.kernel_pieces.proofs.values.last_expression.Goals as goal

pub returns-in-Some : goal.returns-in-Some
returns-in-Some c = λ (s : State). found s (λ a. a.now) c.args.declarations.now c.evaluated.result c.in-Some.last.now (sym c.in-Some.ensures.value) (rw c.get.ensures at (c.evaluated.ensures s c.in-Some.last.now.note))

pub returns-in-None : goal.returns-in-None
returns-in-None c = λ (s : State). nothing_last s c.args.declarations.now c.in-None.ensures.value
