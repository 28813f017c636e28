use Rattle.mo_coding.specs.Heads.{of_graph, of_table}
use Rattle.mo_coding.proofs.Heads.{graph_finite, table_finite}
use Rattle.mo_coding.proofs.Equality.{same_decides}
use Rattle.mo_coding.proofs.laws.types_are_told_apart.Goals as goal

pub returns-clause-graphs : goal.returns-clause-graphs
returns-clause-graphs c = λ old new t u. same_decides (of_graph old) (of_graph new) (graph_finite old) (graph_finite new) t u

pub returns-clause-header : goal.returns-clause-header
returns-clause-header c = λ table slots r t. same_decides (of_table table) (of_graph slots) (table_finite table) (graph_finite slots) r t
