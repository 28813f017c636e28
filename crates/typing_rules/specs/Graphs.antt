-- How a graph of types stands for terms: under each number there is one term, and its head is the node that stands there.
use Rattle.std.specs.Prelude.{◌≡◌, List, length, slice_get, Option, Some, None}
use Rattle.mo_types.specs.declared.node.Node.{Node}
use Rattle.mo_types.specs.declared.node.TypeId.{TypeId}
use Rattle.mo_types.specs.Graph.{Slot, node_at}
use Rattle.mo_subtype.specs.Renamed.{on_node}
use Rattle.subtype_laws.specs.Reached.{Among}
use Rattle.typed_tree.specs.OperationTypes.{Distinct}
use Rattle.typing_rules.specs.Terms.{Term, Bottom}
use Rattle.typing_rules.specs.Definitions.{Definitions}
use Rattle.typing_rules.specs.Heads.{head}
use Rattle.typing_rules.specs.Counts.{Reached}

abbrev pub or_none : Option Term → Term
or_none None = Bottom
or_none (Some u) = u

-- the term of a type
abbrev pub term_of : List Term → TypeId → Term
term_of terms id = or_none (slice_get terms id.index)

pub record Tied (defs : Definitions) (slots : List Slot) (terms : List Term) : Type 0 where
  pub as_many : length terms ≡ length slots
  pub different : Distinct terms
  pub heads : (id : TypeId) (n : Node TypeId) → node_at slots id ≡ Some n → head defs (term_of terms id) ≡ on_node (term_of terms) n

-- Of the terms that are reached all are there and no others: the graph is as large as the count of the types.
pub record Whole (defs : Definitions) (met : List Term) (slots : List Slot) (terms : List Term) : Type 0 where
  pub tied : Tied defs slots terms
  pub each : (u : Term) → Among u terms → Reached defs met u
  pub all : (u : Term) → Reached defs met u → Among u terms
