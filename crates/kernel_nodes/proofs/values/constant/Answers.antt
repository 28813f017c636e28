use Rattle.std.proofs.Common.{refl}
use Rattle.typed_tree.specs.declared.expression.Form.TheVariants as f
use Rattle.typed_tree.specs.declared.expression.Form.TheOpen as F
use Rattle.kernel_types.specs.Numbers.{number_of}
use Rattle.kernel_nodes.proofs.Rolling.{made_as}
use Rattle.kernel_nodes.proofs.values.constant.Goals as goal

pub returns : goal.returns
returns c = made_as c.at.result (number_of c.args.types.now c.args.kind) (number_of c.args.types.now c.args.kind) (f.Constant c.args.literal) (F.Constant c.args.literal) refl (f.rolls-Constant c.args.literal) c.at.ensures
