-- `if c a`
use Rattle.typed_tree.specs.declared.expression.Form.TheOpen as F
use Rattle.typed_tree.specs.declared.expression.TypedExpression.{TypedExpression}
use Rattle.type_terms.specs.declared.form.TermId.{TermId}
use Rattle.met_types.specs.States.{State}
use Rattle.kernel_nodes.specs.Made.{at_type, unit_in}

abbrev pub when_at : State → TermId → TypedExpression → TypedExpression → TypedExpression
when_at s kind c a = at_type s kind (F.If c a (unit_in s))
