-- What the heads of types have, in each later table.
use Rattle.std.specs.Prelude.{◌≡◌, List, [], ◌∷◌, Option, Some, None, option_map, slice_get}
use Rattle.mo_types.specs.declared.node.Node.{Node}
use Rattle.mo_types.specs.declared.node.Node.TheVariants as node
use Rattle.mo_types.specs.declared.node.TypeId.{TypeId}
use Rattle.type_terms.specs.declared.form.Form.{Form}
use Rattle.type_terms.specs.declared.form.TermId.{TermId}
use Rattle.typing_rules.specs.Terms.{Term}
use Rattle.typing_rules.specs.Heads.{head}
use Rattle.typing_rules.specs.Ends.{wanted}
use Rattle.type_definitions.specs.Meanings.{term}
use Rattle.type_definitions.specs.Tables.{Later}
use Rattle.type_definitions.specs.Definitions.{rules_in}
use Rattle.met_types.specs.States.{State}

-- whether it is that of blobs, whatever the parts are
abbrev pub blob_at : {A : Type 0} → Node A → Option (Unit {0})
blob_at node.Blob = Some tt
blob_at _ = None

-- the head of the type has this
abbrev pub HeadHas : {X : Type 0} → (Node Term → Option X) → State → TermId → (List Form → Option X) → Type 0
HeadHas of s id o = (later : List Form) → Later s.forms later → of (head (rules_in later s.listed) (term later id)) ≡ o later

-- this is the type that is wanted, with what its head has
abbrev pub WantedHas : {X Y : Type 0} → (Node Term → Option X) → State → Option TermId → (List Form → Y → X) → Option (TermId × Y) → Type 0
WantedHas of s w show o = (later : List Form) → Later s.forms later → wanted (rules_in later s.listed) of (option_map (term later) w) ≡ option_map (λ q. (term later q.0, show later q.1)) o

-- the term of a type of the graph
abbrev pub part_in : State → Option TypeId → Option TermId
part_in s None = None
part_in s (Some p) = slice_get s.reached p.index

-- these are the terms of types of the graph
abbrev pub PartsFound : State → List TypeId → List TermId → Type 0
PartsFound s [] [] = Unit {0}
PartsFound s (p ∷ ps) (id ∷ ids) = (slice_get s.reached p.index ≡ Some id) × PartsFound s ps ids
PartsFound s _ _ = ⊥
