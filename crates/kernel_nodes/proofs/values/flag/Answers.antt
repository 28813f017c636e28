use Rattle.typed_tree.specs.declared.expression.Form.TheVariants as f
use Rattle.typed_tree.specs.declared.expression.Form.TheOpen as F
use Rattle.typed_tree.specs.declared.literal.Literal.TheVariants as literal
use Rattle.typing_rules.specs.Terms.{Boolean}
use Rattle.kernel_types.specs.Numbers.{number}
use Rattle.kernel_nodes.proofs.Rolling.{made_as}
use Rattle.kernel_nodes.proofs.values.flag.Goals as goal

pub returns : goal.returns
returns c = made_as c.on_number.result c.in_ok-boolean.boolean (number c.args.types.now Boolean) (f.Constant (literal.Flag c.args.value)) (F.Constant (literal.Flag c.args.value)) c.in_ok-boolean.ensures (f.rolls-Constant (literal.Flag c.args.value)) c.on_number.ensures
