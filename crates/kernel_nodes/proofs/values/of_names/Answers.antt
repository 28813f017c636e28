use Rattle.kernel_nodes.specs.Made.{name_at}
use Rattle.kernel_nodes.proofs.Rolling.{held_on}
use Rattle.kernel_nodes.proofs.values.of_names.Goals as goal

pub returns : goal.returns
returns c = held_on c.args.types.now c.args.kind c.held.result c.args.is_cell c.in_ok-value.value (name_at c.args.types.now c.args.kind c.args.index) c.in_ok-value.ensures c.held.ensures
