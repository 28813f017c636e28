use Rattle.typed_tree.specs.declared.expression.Form.TheVariants as f
use Rattle.typed_tree.specs.declared.expression.Form.TheOpen as F
use Rattle.typed_tree.specs.declared.literal.Literal.TheVariants as literal
use Rattle.typing_rules.specs.Terms.{unit}
use Rattle.kernel_types.specs.Numbers.{number}
use Rattle.kernel_nodes.proofs.Rolling.{made_as}
use Rattle.kernel_nodes.proofs.values.unit_value.Goals as goal

pub returns : goal.returns
returns c = made_as c.on_number.result c.in_ok-unit.unit (number c.args.types.now unit) (f.Constant literal.Unit) (F.Constant literal.Unit) c.in_ok-unit.ensures (f.rolls-Constant literal.Unit) c.on_number.ensures
