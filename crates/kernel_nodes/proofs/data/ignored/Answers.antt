use Rattle.std.proofs.Common.{[], ◌∷◌}
use Rattle.kernel_nodes.specs.Made.{evaluate_step, unit_in}
use Rattle.kernel_nodes.proofs.Rolling.{block_is}
use Rattle.kernel_nodes.proofs.data.ignored.Goals as goal

pub returns : goal.returns
returns c = block_is c.args.types.now c.args.kind c.at.result c.in_ok-steps.steps (evaluate_step c.args.a ∷ []) c.in_ok-value.value (unit_in c.args.types.now) c.in_ok-steps.ensures c.in_ok-value.ensures c.at.ensures
