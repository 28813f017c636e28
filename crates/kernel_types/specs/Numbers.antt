-- The numbers that types have in the graph, and their heads.
use Rattle.std.specs.Prelude.{◌≡◌, suc, List, Option, Some, None, length}
use Rattle.mo_types.specs.declared.node.Node.{Node}
use Rattle.mo_types.specs.declared.node.Node.TheVariants as node
use Rattle.mo_types.specs.declared.node.TypeId.{TypeId}
use Rattle.mo_types.specs.Sub.{Each}
use Rattle.mo_subtype.specs.Renamed.{on_node}
use Rattle.typed_tree.specs.Instances.{types_in}
use Rattle.typing_rules.specs.Definitions.{Definitions}
use Rattle.typing_rules.specs.Graphs.{term_of}
use Rattle.typing_rules.specs.Heads as rules
use Rattle.typing_rules.specs.SameTerms.{number_in}
use Rattle.typing_rules.specs.Terms.{Term}
use Rattle.type_terms.specs.declared.form.TermId.{TermId}
use Rattle.type_terms.specs.Tables.{Founded, Distinct}
use Rattle.type_definitions.specs.Definitions.{rules_in}
use Rattle.type_definitions.specs.Meanings.{term}
use Rattle.met_types.specs.Closing.{terms_in}
use Rattle.met_types.specs.States.{State, Kept}

-- the terms of the types of the graph, in the order of their numbers
abbrev pub graph_terms : State → List Term
graph_terms s = terms_in s.forms s.reached

-- the number of a type
abbrev pub number : State → Term → TypeId
number s u = number_in (graph_terms s) u

-- that of a type of the table
abbrev pub number_of : State → TermId → TypeId
number_of s id = number s (term s.forms id)

-- the type of a number
abbrev pub type_at : State → TypeId → Term
type_at s id = term_of (graph_terms s) id

-- the definitions of the program
abbrev pub definitions : State → Definitions
definitions s = rules_in s.forms s.listed

-- the head of a type of the table
abbrev pub head_of : State → TermId → Node Term
head_of s id = rules.head (definitions s) (term s.forms id)

-- the head that the members of its values go by
abbrev pub members_head_of : State → TermId → Node Term
members_head_of s id = rules.members_head (definitions s) (term s.forms id)

-- This is the head, with the numbers of its parts.
pub record IsNumbered (s : State) (y : Node Term) (n : Node TypeId) : Type 0 where
  pub parts : Each (λ p. number s (type_at s p) ≡ p) (types_in n)
  pub is : y ≡ on_node (type_at s) n

abbrev pub IsHead : State → TermId → Node TypeId → Type 0
IsHead s id n = IsNumbered s (head_of s id) n

abbrev pub IsMembersHead : State → TermId → Node TypeId → Type 0
IsMembersHead s id n = IsNumbered s (members_head_of s id) n

-- the bound, where the type is a parameter
abbrev pub bound_at : {A : Type 0} → Node A → Option A
bound_at (node.Variable at b) = Some b
bound_at _ = None

-- the members of values of the one type go by the head of the other
abbrev pub IsPromoted : State → TermId → TermId → Type 0
IsPromoted s id last = term s.forms last ≡ rules.promoted (definitions s) (suc (length (definitions s).parameters)) (term s.forms id)

-- the types as they are kept
pub record Holds (s : State) : Type 0 where
  pub kept : Kept s
  pub founded : Founded s.forms
  pub distinct : Distinct s.forms
