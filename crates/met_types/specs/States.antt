-- The types of a program as the checker has them.
use Rattle.std.specs.Prelude.{◌≡◌, ◌<◌, ℕ, Bool, true, false, List, length, slice_get, Some}
use Rattle.mo_types.specs.Graph.{Slot}
use Rattle.mo_types.specs.declared.node.Node.{Node}
use Rattle.mo_types.specs.declared.node.TypeId.{TypeId}
use Rattle.mo_types.specs.Sub.{Each, IsSubtype}
use Rattle.mo_subtype.specs.Renamed.{on_node}
use Rattle.typed_tree.specs.Instances.{types_in}
use Rattle.typing_rules.specs.Graphs.{term_of}
use Rattle.type_terms.specs.declared.form.Form.{Form}
use Rattle.type_terms.specs.declared.form.TermId.{TermId}
use Rattle.typing_rules.specs.Terms.{Term}
use Rattle.typing_rules.specs.Heads.{head}
use Rattle.typing_rules.specs.Counts.{FewTypes}
use Rattle.type_definitions.specs.declared.chains.Outcome.{Outcome}
use Rattle.type_definitions.specs.Meanings.{term}
use Rattle.type_definitions.specs.Tables.{Grows, Later}
use Rattle.type_definitions.specs.Definitions.{Listed, Stand, rules_in}
use Rattle.type_definitions.specs.Outcomes.{AreOutcomes}
use Rattle.met_types.specs.Closing.{Covers, Formed, Keeps, terms_in}

pub record State : Type 0 where
  pub forms : List Form
  pub listed : Listed
  pub outcomes : List Outcome
  pub reached : List TermId
  pub slots : List Slot

abbrev pub state : List Form → Listed → List Outcome → List TermId → List Slot → State
state forms listed outcomes reached slots = record { forms = forms; listed = listed; outcomes = outcomes; reached = reached; slots = slots }

-- All types of the graph have their heads, and definitions have their outcomes.
pub record Kept (s : State) : Type 0 where
  pub stand : Stand s.forms s.listed
  pub outcomes : AreOutcomes s.forms s.listed s.outcomes
  pub formed : Formed s.listed s.forms s.slots s.reached (length s.reached)

-- The graph has the types that are reached from those that were met, and no others.
abbrev pub Stands : List Term → State → Type 0
Stands met s = Covers s.listed met s.forms s.reached

-- The table of terms and the graph grew. The definitions are the same.
pub record Goes (old new : State) : Type 0 where
  pub forms : Grows old.forms new.forms
  pub listed : new.listed ≡ old.listed
  pub outcomes : new.outcomes ≡ old.outcomes
  pub reached : Keeps old.reached new.reached

-- what is left where a type cannot be met: the table of terms may have grown
pub record Left (old new : State) : Type 0 where
  pub forms : Grows old.forms new.forms
  pub listed : new.listed ≡ old.listed

-- this is the term
abbrev pub IsTerm : State → TermId → Term → Type 0
IsTerm s id t = (later : List Form) → Later s.forms later → term later id ≡ t

-- a type of the graph
abbrev pub IsReached : State → TermId → Type 0
IsReached s id = (i : ℕ) × (slice_get s.reached i ≡ Some id)

-- with this type those that are met are few
abbrev pub MeetsFew : State → List Term → Type 0
MeetsFew s met = (later : List Form) → Later s.forms later → FewTypes (rules_in later s.listed) met

-- they are many
abbrev pub MeetsMany : State → List Term → Type 0
MeetsMany s met = (later : List Form) → Later s.forms later → FewTypes (rules_in later s.listed) met → ⊥

-- whether it is so
abbrev pub IsSo : Bool → Type 0 → Type 0
IsSo true P = P
IsSo false P = P → ⊥

abbrev pub IsBelowAnswer : State → TermId → TermId → Bool → Type 0
IsBelowAnswer s a b is = (later : List Form) → Later s.forms later → IsSo is (IsSubtype (head (rules_in later s.listed)) (term later a) (term later b))

-- the head of a type of the graph, whose parts are types of the graph
pub record IsNodeOf (s : State) (id : TermId) (n : Node TypeId) : Type 0 where
  pub parts : Each (λ p. p.index < length s.reached) (types_in n)
  pub is : (later : List Form) → Later s.forms later → head (rules_in later s.listed) (term later id) ≡ on_node (term_of (terms_in later s.reached)) n
