use Rattle.std.proofs.Common.{◌∙◌, ap, sym}
use Rattle.typed_tree.specs.declared.expression.Form.{Form}
use Rattle.typed_tree.specs.declared.expression.Form.TheVariants as f
use Rattle.kernel_nodes.specs.Made.{on}
use Rattle.kernel_objects.proofs.operands.name_at.Goals as goal

pub returns : goal.returns
returns c = ap (λ (z : Form). on c.args.of_type z) c.in_ok-form.ensures ∙ ap (λ (z : Form). on c.args.of_type z) (sym (f.rolls-Name c.args.index))
