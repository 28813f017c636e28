use Rattle.graph_laws.proofs.Kept.{graphs_are_kept}
use Rattle.graph_laws.proofs.laws.graphs_are_kept.Goals as goal

pub returns : goal.returns
returns c = graphs_are_kept
