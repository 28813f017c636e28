-- Candid types by number, with their heads in a table.
use Rattle.std.specs.Prelude.{◌≡◌, ℕ, ◌+◌, ◌-◌, List, [], ◌∷◌, length, Option, Some, None, slice_get, nat_lt, if◌then◌else◌}
use Rattle.mo_types.specs.declared.node.TypeId.{TypeId}
use Rattle.mo_types.specs.declared.wire.Plain.{Plain}
use Rattle.mo_types.specs.declared.wire.Plain.TheVariants as plain
use Rattle.mo_types.specs.declared.wire.Entry.{Entry}
use Rattle.mo_types.specs.declared.wire.Wire.{Wire}
use Rattle.mo_types.specs.declared.wire.Wire.TheVariants.{Simple}
use Rattle.mo_types.specs.declared.wire.Ref.{Ref}
use Rattle.mo_types.specs.declared.wire.Ref.TheVariants.{Of, Just}
use Rattle.mo_types.specs.Graph.{Slot, head_at}
use Rattle.mo_types.specs.Wire.{wire, map_wire}

-- the types without parts, which have the numbers from 0 on
abbrev pub plains : List Plain
plains = plain.Empty ∷ plain.Null ∷ plain.Bool ∷ plain.Nat ∷ plain.Int ∷ plain.Nat8 ∷ plain.Nat16 ∷ plain.Nat32 ∷ plain.Nat64 ∷ plain.Int8 ∷ plain.Int16 ∷ plain.Int32 ∷ plain.Int64 ∷ plain.Float32 ∷ plain.Float64 ∷ plain.Text ∷ plain.Reserved ∷ plain.Principal ∷ []

abbrev pub plain_number : Plain → ℕ
plain_number plain.Empty = 0
plain_number plain.Null = 1
plain_number plain.Bool = 2
plain_number plain.Nat = 3
plain_number plain.Int = 4
plain_number plain.Nat8 = 5
plain_number plain.Nat16 = 6
plain_number plain.Nat32 = 7
plain_number plain.Nat64 = 8
plain_number plain.Int8 = 9
plain_number plain.Int16 = 10
plain_number plain.Int32 = 11
plain_number plain.Int64 = 12
plain_number plain.Float32 = 13
plain_number plain.Float64 = 14
plain_number plain.Text = 15
plain_number plain.Reserved = 16
plain_number plain.Principal = 17

-- and behind them the types of a graph, in its order
abbrev pub number_of : TypeId → ℕ
number_of id = 18 + id.index

abbrev pub ref_by : Option Plain → ℕ → Ref TypeId
ref_by None n = Of (record { index = n - 18 })
ref_by (Some p) n = Just p

-- the type of a number
unfoldable pub ref_of : ℕ → Ref TypeId
ref_of n = ref_by (slice_get plains n) n

abbrev pub or_empty : Option (Wire ℕ) → Wire ℕ
or_empty None = Simple plain.Empty
or_empty (Some w) = w

-- entries in the rising order of their ids
abbrev pub insert_entry : Entry ℕ → List (Entry ℕ) → List (Entry ℕ)
insert_entry e [] = e ∷ []
insert_entry e (f ∷ fs) = if nat_lt e.id f.id then e ∷ f ∷ fs else f ∷ insert_entry e fs

abbrev pub by_id : List (Entry ℕ) → List (Entry ℕ)
by_id [] = []
by_id (e ∷ es) = insert_entry e (by_id es)

-- the head under a number of a table; what is not there is empty
abbrev pub shape_at : List (Wire ℕ) → ℕ → Wire ℕ
shape_at shapes n = or_empty (slice_get shapes n)

-- The table of a graph: under each number the head of its type, with the numbers of the parts.
pub record IsTableOf (slots : List Slot) (shapes : List (Wire ℕ)) : Type 0 where
  pub heads : (n : ℕ) → wire (head_at slots) (ref_of n) ≡ map_wire ref_of (shape_at shapes n)
  pub count : length shapes ≡ 18 + length slots
