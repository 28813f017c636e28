-- What the heads have by which members go, in each later table.
use Rattle.std.specs.Prelude.{◌≡◌, ℕ, suc, Bool, List, Option, Some, None, length, option_map, slice_get}
use Rattle.std.specs.Option.{option_and_then}
use Rattle.mo_types.specs.declared.node.Node.{Node}
use Rattle.mo_types.specs.declared.node.Node.TheVariants as node
use Rattle.mo_types.specs.declared.node.Field.{Field}
use Rattle.mo_types.specs.declared.node.TypeId.{TypeId}
use Rattle.mo_types.specs.Heads.{mut_array_of, object_of, tuple_of}
use Rattle.mo_types.specs.Sub.{find}
use Rattle.type_terms.specs.declared.form.Form.{Form}
use Rattle.type_terms.specs.declared.form.TermId.{TermId}
use Rattle.typing_rules.specs.AbstractSyntax.{Bytes}
use Rattle.typing_rules.specs.Heads.{members_head, promoted}
use Rattle.typing_rules.specs.Terms.{Term}
use Rattle.type_definitions.specs.Meanings.{term}
use Rattle.type_definitions.specs.Tables.{Later}
use Rattle.type_definitions.specs.Definitions.{rules_in}
use Rattle.met_types.specs.States.{State}

-- the members of values of the one type go by the head of the other
abbrev pub IsPromoted : State → TermId → TermId → Type 0
IsPromoted s id last = (later : List Form) → Later s.forms later → promoted (rules_in later s.listed) (suc (length (rules_in later s.listed).parameters)) (term later id) ≡ term later last

-- the head by which members go has this
abbrev pub MembersHave : {X : Type 0} → (Node Term → Option X) → State → TermId → (List Form → Option X) → Type 0
MembersHave of s id o = (later : List Form) → Later s.forms later → of (members_head (rules_in later s.listed) (term later id)) ≡ o later

-- ---- parts of heads

abbrev pub bound_at : {A : Type 0} → Node A → Option A
bound_at (node.Variable at b) = Some b
bound_at _ = None

abbrev pub element_at : {A : Type 0} → Node A → Option A
element_at (node.Array a) = Some a
element_at (node.MutArray a) = Some a
element_at _ = None

abbrev pub mutable_at : {A : Type 0} → Node A → Option A
mutable_at y = mut_array_of y

-- the part at this place of a tuple
abbrev pub part_at : {A : Type 0} → ℕ → Node A → Option A
part_at n y = option_and_then (λ ts. slice_get ts n) (tuple_of y)

abbrev pub field_at : {A : Type 0} → Bytes → Node A → Option (Field A)
field_at x y = option_and_then (λ fields. find x fields) (object_of y)

-- whether it is a `var` field, and its type
abbrev pub seen_field : {A : Type 0} → Field A → Bool × A
seen_field f = (f.mutable, f.part)

-- the same with the term of the type of the graph
abbrev pub with_flag : Bool → Option TermId → Option (Bool × TermId)
with_flag mutable o = option_map (λ id. (mutable, id)) o

abbrev pub field_in : State → Option (Bool × TypeId) → Option (Bool × TermId)
field_in s None = None
field_in s (Some q) = with_flag q.0 (slice_get s.reached q.1.index)
