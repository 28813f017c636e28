use Rattle.std.proofs.Common.{[], ◌∷◌}
use Rattle.typed_tree.specs.declared.action.Action.TheVariants as action
use Rattle.kernel_nodes.proofs.Rolling.{acts_on}
use Rattle.kernel_nodes.proofs.values.leaves.Goals as goal

pub returns : goal.returns
returns c = acts_on c.args.types.now c.args.kind c.acts.result (action.Break c.args.exits) c.in_ok-operands.operands (c.args.of ∷ []) c.in_ok-operands.ensures c.acts.ensures
