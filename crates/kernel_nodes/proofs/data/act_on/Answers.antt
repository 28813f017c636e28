use Rattle.std.proofs.Common.{[], ◌∷◌}
use Rattle.kernel_nodes.proofs.Rolling.{acts_on}
use Rattle.kernel_nodes.proofs.data.act_on.Goals as goal

pub returns : goal.returns
returns c = acts_on c.args.types.now c.args.kind c.acts.result c.args.action c.in_ok-operands.operands (c.args.a ∷ []) c.in_ok-operands.ensures c.acts.ensures
