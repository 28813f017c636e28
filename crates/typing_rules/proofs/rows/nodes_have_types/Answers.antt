use Rattle.typing_rules.proofs.NodesAnswered.{node_types_made}
use Rattle.typing_rules.proofs.rows.nodes_have_types.Goals as goal

pub returns : goal.returns
returns c = node_types_made
