-- Stable values of one program at a type of the next one, as a function (Motoko language manual, section "Stable variables"):
-- the Candid value is turned back into a value of the new type.
use Rattle.std.specs.Prelude.{ℕ, List, [], ◌∷◌, length, Bool, true, false, ◌&&◌, Option, Some, None, nat_eq, nat_lt, pos}
use Rattle.mo_types.specs.declared.datum.Datum.{Datum}
use Rattle.mo_types.specs.declared.datum.Datum.TheVariants as part
use Rattle.mo_types.specs.declared.node.Node.{Node}
use Rattle.mo_types.specs.declared.node.Node.TheVariants as node
use Rattle.mo_types.specs.declared.node.TypeId.{TypeId}
use Rattle.mo_types.specs.declared.wire.Ref.TheVariants.{Of}
use Rattle.mo_types.specs.Form.{form}
use Rattle.mo_types.specs.Graph.{head_at}
use Rattle.mo_types.specs.Values.{Values, Nil, Value, inside}
use Rattle.mo_values.specs.Equality.{same_values}
use Rattle.mo_values.specs.Parts.{is_leaf_of}
use Rattle.mo_meaning.specs.Coding.{Types}
use Rattle.mo_coding.specs.Equality.{same}
use Rattle.mo_coding.specs.Heads.{of_graph}

-- whether an outermost part is one of a value of a type with this head
abbrev pub is_part_of : {A : Type 0} → Node A → Datum → Bool
is_part_of node.Any (part.Record n) = nat_eq n 0
is_part_of (node.Opt a) part.Present = true
is_part_of (node.Array a) (part.Many n) = true
is_part_of (node.Tuple ts) (part.Record n) = nat_eq n (length ts)
is_part_of (node.Object fs) (part.Record n) = nat_eq n (length fs)
is_part_of (node.Variant fs) (part.Tag i) = nat_lt i (length fs)
is_part_of n p = is_leaf_of n p

-- the bytes that stand one by one
abbrev pub byte_of : Datum → ℕ
byte_of (part.Number (pos b)) = b
byte_of p = 0

abbrev pub bytes_of : Values → List ℕ
bytes_of Nil = []
bytes_of (Value p inner others) = byte_of p ∷ bytes_of others

-- the Motoko part of a Candid value
abbrev pub motoko_part : {A : Type 0} → Node A → Datum → Values → Datum
motoko_part node.Char (part.Number (pos c)) inner = part.Char c
motoko_part node.Blob p inner = part.Blob (bytes_of inner)
motoko_part node.Any p inner = part.Record 0
motoko_part _ p inner = p

-- () where a type is that of ()
abbrev pub unit_or : {A : Type 0} → Node A → Values → Values
unit_or (node.Tuple []) other = Value (part.Record 0) Nil Nil
unit_or _ other = other

module _ {A : Type 0} (head : A → Node A) where
  -- values of these types
  abbrev pub have_types : List A → Values → Bool
  have_types [] Nil = true
  have_types (t ∷ ts) (Value p inner others) = is_part_of (head t) p && (have_types (inside (head t) p) inner && have_types ts others)
  have_types _ _ = false

  abbrev pub from_tag : List A → Values → Values
  from_tag (t ∷ []) inner = unit_or (head t) inner
  from_tag _ inner = inner

  abbrev pub motoko_inner : Node A → Datum → Values → Values
  motoko_inner node.Blob p inner = Nil
  motoko_inner node.Any p inner = Nil
  motoko_inner (node.Variant fs) p inner = from_tag (inside (node.Variant fs) p) inner
  motoko_inner _ p inner = inner

  -- the values of these types whose Candid values these are
  abbrev pub unform : List A → Values → Values
  unform (t ∷ ts) (Value q inner others) =
      Value (motoko_part (head t) q inner) (motoko_inner (head t) (motoko_part (head t) q inner) (unform (inside (head t) (motoko_part (head t) q inner)) inner)) (unform ts others)
  unform _ values = values

-- this value, where it is one of the type and has this Candid value
abbrev pub if_formed : Types → TypeId → Values → Values → Option Values
if_formed new u candid w = elim (have_types (head_at new) (u ∷ []) w && same_values (form (head_at new) (u ∷ []) w) candid) [ true ↦ Some w | false ↦ None ]

abbrev pub formed_again : Types → TypeId → Values → Option Values
formed_again new u candid = if_formed new u candid (unform (head_at new) (u ∷ []) candid)

abbrev pub keep : Types → Types → TypeId → TypeId → Values → Option Values
keep old new t u v = elim (same (of_graph old) (of_graph new) (Of t) (Of u) && have_types (head_at old) (t ∷ []) v) [ true ↦ formed_again new u (form (head_at old) (t ∷ []) v) | false ↦ None ]
