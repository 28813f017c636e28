use Rattle.std.proofs.Common.{◌∙◌}
use Rattle.node_counts.proofs.Adding.{from_none}
use Rattle.node_counts.proofs.declarations.count_nodes.Goals as goal

pub returns : goal.returns
returns c = c.capped.ensures ∙ from_none _ _ (rw c.as_slice.ensures at c.in_ok-counted.ensures)
