use Rattle.graph_laws.proofs.Lawful.{graphs_are_lawful}
use Rattle.graph_laws.proofs.laws.graphs_are_lawful.Goals as goal

pub returns : goal.returns
returns c = graphs_are_lawful
