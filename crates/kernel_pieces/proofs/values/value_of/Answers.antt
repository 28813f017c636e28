use Rattle.met_types.specs.States.{State}
use Rattle.kernel_pieces.proofs.Valued.{flagged, unflagged}
use Rattle.kernel_pieces.proofs.values.value_of.Goals as goal

pub returns-then-has_value : goal.returns-then-has_value
returns-then-has_value c = λ (s : State). flagged s (λ a. a.now) c.args.declarations.now c.last_expression.result c.args.has_value c.if-has_value.true (c.last_expression.ensures s)

pub returns-else-has_value : goal.returns-else-has_value
returns-else-has_value c = λ (s : State). unflagged s c.args.declarations.now c.args.has_value c.if-has_value.false
