-- A graph of the types that are met and of those that they reach, while it is closed: the first ones have their heads, and the others wait.
use Rattle.std.specs.Prelude.{◌≡◌, ℕ, ◌+◌, ◌<◌, ◌≤◌, List, [], ◌∷◌, length, map, slice_get, Some}
use Rattle.mo_types.specs.declared.node.Node.{Node}
use Rattle.mo_types.specs.declared.node.TypeId.{TypeId}
use Rattle.mo_types.specs.Graph.{Slot, Open, Defined, Fits, total}
use Rattle.mo_types.specs.Sub.{Each}
use Rattle.mo_subtype.specs.Renamed.{on_node}
use Rattle.subtype_laws.specs.Reached.{Among}
use Rattle.typed_tree.specs.Instances.{types_in}
use Rattle.type_terms.specs.declared.form.Form.{Form}
use Rattle.type_terms.specs.declared.form.TermId.{TermId}
use Rattle.typing_rules.specs.Terms.{Term}
use Rattle.typing_rules.specs.Heads.{head}
use Rattle.typing_rules.specs.Counts.{Reached}
use Rattle.typing_rules.specs.Graphs.{term_of}
use Rattle.type_definitions.specs.Meanings.{term}
use Rattle.type_definitions.specs.Tables.{Within, Later}
use Rattle.type_definitions.specs.Definitions.{Listed, rules_in}
use Rattle.met_types.specs.Reached.{IsMissing}

-- none stands twice
abbrev pub Different : List TermId → Type 0
Different xs = (i j : ℕ) (t : TermId) → slice_get xs i ≡ Some t → slice_get xs j ≡ Some t → i ≡ j

-- those that were there have the numbers that they had
abbrev pub Keeps : List TermId → List TermId → Type 0
Keeps old new = (i : ℕ) (t : TermId) → slice_get old i ≡ Some t → slice_get new i ≡ Some t

-- the terms of the types of the graph
abbrev pub terms_in : List Form → List TermId → List Term
terms_in later reached = map (term later) reached

-- The type of this number has the head of its term, with types of the graph as parts.
pub record Ready (l : Listed) (forms : List Form) (slots : List Slot) (reached : List TermId) (i : ℕ) : Type 0 where
  pub own : TermId
  pub node : Node TypeId
  pub there : slice_get reached i ≡ Some own
  pub slot : slice_get slots i ≡ Some (Defined node)
  pub parts : Each (λ p. p.index < length reached) (types_in node)
  pub is : (later : List Form) → Later forms later → head (rules_in later l) (term later own) ≡ on_node (term_of (terms_in later reached)) node

-- so many are ready, and the others wait
pub record Formed (l : Listed) (forms : List Form) (slots : List Slot) (reached : List TermId) (done : ℕ) : Type 0 where
  pub many : length reached ≡ length slots
  pub different : Different reached
  pub fits : Fits slots
  pub within : (i : ℕ) (t : TermId) → slice_get reached i ≡ Some t → Within forms t
  pub ready : (i : ℕ) → i < done → Ready l forms slots reached i
  pub waiting : (i : ℕ) → done ≤ i → i < length reached → slice_get slots i ≡ Some Open

-- Those that were met are there, and each is reached from them.
pub record Covers (l : Listed) (met : List Term) (forms : List Form) (reached : List TermId) : Type 0 where
  pub from : (later : List Form) → Later forms later → (i : ℕ) (t : TermId) → slice_get reached i ≡ Some t → Reached (rules_in later l) met (term later t)
  pub all : (later : List Form) → Later forms later → (u : Term) → Among u met → Among u (terms_in later reached)

-- Parts were added that were not there yet, with slots that wait.
pub record Extends (parts : List TermId) (old new : List TermId) (slots more : List Slot) : Type 0 where
  pub keeps : Keeps old new
  pub slots_keep : (i : ℕ) (s : Slot) → slice_get slots i ≡ Some s → slice_get more i ≡ Some s
  pub added : (i : ℕ) (t : TermId) → length old ≤ i → slice_get new i ≡ Some t → Among t parts × (slice_get more i ≡ Some Open)
  pub longer : length old ≤ length new
  pub many : length new ≡ length more
  pub different : Different new
  pub fits : Fits more
  pub same_total : total more ≡ total slots

-- there is no room for this part, which is not there
pub record NoRoom (parts : List TermId) (new : List TermId) : Type 0 where
  pub part : TermId
  pub among : Among part parts
  pub missing : IsMissing new part
  pub full : 4096 < length new + 1

-- the numbers of these parts
abbrev pub AreNumbers : List TermId → List TermId → List TypeId → Type 0
AreNumbers reached [] [] = Unit {0}
AreNumbers reached (p ∷ ps) (id ∷ ids) = (slice_get reached id.index ≡ Some p) × AreNumbers reached ps ids
AreNumbers reached _ _ = ⊥
