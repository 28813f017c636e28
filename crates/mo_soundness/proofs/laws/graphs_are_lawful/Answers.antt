use Rattle.mo_soundness.proofs.Graphs.{lawful_graph}
use Rattle.mo_soundness.proofs.laws.graphs_are_lawful.Goals as goal

pub returns : goal.returns
returns c = λ types lawful b u n p q r. lawful_graph types lawful b u n p q r
