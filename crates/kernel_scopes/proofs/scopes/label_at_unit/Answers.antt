use Rattle.std.proofs.Common.{◌∙◌, ap}
use Rattle.typed_tree.specs.declared.expression.Form.{Form}
use Rattle.kernel_nodes.specs.Made.{on}
use Rattle.kernel_scopes.proofs.Around.{labelled}
use Rattle.kernel_scopes.proofs.scopes.label_at_unit.Goals as goal

pub returns : goal.returns
returns c = ap (λ (z : Form). on c.in_ok-unit.unit z) c.in_ok-form.ensures ∙ labelled c.args.types.now c.in_ok-unit.unit c.args.a c.in_ok-unit.ensures
