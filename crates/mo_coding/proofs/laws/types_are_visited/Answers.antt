use Rattle.mo_coding.specs.Heads.{of_graph, of_saved}
use Rattle.mo_coding.proofs.Heads.{graph_finite, saved_finite}
use Rattle.mo_coding.proofs.Order.{order_visits}
use Rattle.mo_coding.proofs.laws.types_are_visited.Goals as goal

pub returns-clause-graph : goal.returns-clause-graph
returns-clause-graph c = λ slots types. order_visits (of_graph slots) (graph_finite slots) types

pub returns-clause-saved : goal.returns-clause-saved
returns-clause-saved c = λ slots variables types. order_visits (of_saved slots variables) (saved_finite slots variables) types
