use Rattle.std.proofs.Common.{[], ◌∷◌, refl}
use Rattle.typed_tree.specs.declared.action.Action.TheVariants as action
use Rattle.kernel_nodes.proofs.Rolling.{acted}
use Rattle.kernel_nodes.proofs.values.new_cell.Goals as goal

pub returns : goal.returns
returns c = acted c.on_number.result c.args.of_type c.args.of_type action.New c.in_ok-operands.operands (c.args.of ∷ []) refl c.in_ok-operands.ensures c.on_number.ensures
