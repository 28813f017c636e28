-- A coding that computes, for the examples: Candid specification, sections "Type definition table" and "Memory". Types are the
-- same where they have the same number, so it is meant for graphs in which no two types are equal.
use Rattle.std.specs.Prelude.{ℕ, zero, suc, ◌+◌, ◌-◌, ◌/◌, ◌%◌, List, [], ◌∷◌, ◌++◌, length, Bool, true, false, cond, nat_eq, nat_lt, Option, Some, None, ℤ, pos, negsuc}
use Rattle.mo_types.specs.declared.datum.Datum.{Datum}
use Rattle.mo_types.specs.declared.datum.Datum.TheVariants as part
use Rattle.mo_types.specs.declared.node.TypeId.{TypeId}
use Rattle.mo_types.specs.declared.wire.Entry.{Entry}
use Rattle.mo_types.specs.declared.wire.Method.{Method}
use Rattle.mo_types.specs.declared.wire.Plain.{Plain}
use Rattle.mo_types.specs.declared.wire.Plain.TheVariants as plain
use Rattle.mo_types.specs.declared.wire.Ref.{Ref}
use Rattle.mo_types.specs.declared.wire.Ref.TheVariants.{Of, Just}
use Rattle.mo_types.specs.declared.wire.Wire.{Wire}
use Rattle.mo_types.specs.declared.wire.Wire.TheVariants.{Simple, Opt, Vec, Record, Variant, Func, Service}
use Rattle.mo_types.specs.Code.{Variable, Saved, Whole, Inner, saved_head, saved_values}
use Rattle.mo_types.specs.Form.{form}
use Rattle.mo_types.specs.Graph.{head_at}
use Rattle.mo_types.specs.Header.{magic, parts_of}
use Rattle.mo_types.specs.Spelling.{as_bytes, bit, wire_inside}
use Rattle.mo_types.specs.Values.{Values, Value}
use Rattle.mo_types.specs.Wire.{plain_code, refs, wire}
use Rattle.mo_values.specs.Shapes.{Bytes}
use Rattle.mo_meaning.specs.Coding.{Types}

-- ---- numbers, in the fewest bytes: Candid specification, section "Notation" (LEB128)

abbrev pub leb_by : ℕ → ℕ → Bytes
leb_by zero n = []
leb_by (suc fuel) n = cond (nat_lt n 128) (n ∷ []) ((128 + n % 128) ∷ leb_by fuel (n / 128))

abbrev pub leb : ℕ → Bytes
leb n = leb_by 10 n

abbrev pub sleb_by : ℕ → ℤ → Bytes
sleb_by zero z = []
sleb_by (suc fuel) (pos n) = cond (nat_lt n 64) (n ∷ []) ((128 + n % 128) ∷ sleb_by fuel (pos (n / 128)))
sleb_by (suc fuel) (negsuc n) = cond (nat_lt n 64) ((127 - n) ∷ []) ((255 - n % 128) ∷ sleb_by fuel (negsuc (n / 128)))

abbrev pub sleb : ℤ → Bytes
sleb z = sleb_by 10 z

abbrev pub nat_code : ℤ → Bytes
nat_code (pos n) = leb n
nat_code (negsuc n) = []

-- ---- values

abbrev pub string_code : Bytes → Bytes
string_code t = leb (length t) ++ t

abbrev pub principal_code : Bytes → Bytes
principal_code p = 1 ∷ string_code p

abbrev pub simple_code : Plain → Datum → Bytes
simple_code plain.Nat (part.Number z) = nat_code z
simple_code plain.Int (part.Number z) = sleb z
simple_code plain.Nat8 (part.Number z) = as_bytes 1 z
simple_code plain.Int8 (part.Number z) = as_bytes 1 z
simple_code plain.Nat16 (part.Number z) = as_bytes 2 z
simple_code plain.Int16 (part.Number z) = as_bytes 2 z
simple_code plain.Nat32 (part.Number z) = as_bytes 4 z
simple_code plain.Int32 (part.Number z) = as_bytes 4 z
simple_code plain.Nat64 (part.Number z) = as_bytes 8 z
simple_code plain.Int64 (part.Number z) = as_bytes 8 z
simple_code plain.Bool (part.Flag b) = bit b ∷ []
simple_code plain.Text (part.Text t) = string_code t
simple_code plain.Principal (part.Principal p) = principal_code p
simple_code _ p = []

abbrev pub part_code : {B : Type 0} → Wire B → Datum → Bytes
part_code (Simple s) p = simple_code s p
part_code (Opt b) part.Null = 0 ∷ []
part_code (Opt b) part.Present = 1 ∷ []
part_code (Vec b) (part.Many n) = leb n
part_code (Variant es) (part.Tag i) = leb i
part_code (Func ps rs ns) (part.Method p name) = 1 ∷ (principal_code p ++ string_code name)
part_code (Service ms) (part.Actor p) = principal_code p
part_code _ p = []

module _ {B : Type 0} (head : B → Wire B) where
  abbrev pub values_code : List B → Values → Bytes
  values_code (b ∷ bs) (Value p inner others) = part_code (head b) p ++ (values_code (wire_inside (head b) p) inner ++ values_code bs others)
  values_code _ values = []

-- ---- types, each with a way to tell whether two are the same

abbrev pub place_in : {B : Type 0} → (B → B → Bool) → List B → B → ℕ → Option ℕ
place_in same [] b n = None
place_in same (c ∷ cs) b n = cond (same c b) (Some n) (place_in same cs b (suc n))

abbrev pub is_simple : {B : Type 0} → Wire B → Bool
is_simple (Simple p) = true
is_simple _ = false

module _ {B : Type 0} (head : B → Wire B) (same : B → B → Bool) where
  abbrev pub is_old : List B → B → Bool
  is_old order b = has_place (place_in same order b 0)
    where
      has_place : Option ℕ → Bool
      has_place None = false
      has_place (Some n) = true

  -- the types with parts in the order of first visit, each once
  abbrev pub order_by : ℕ → List B → List B → List B
  order_by zero order todo = order
  order_by (suc fuel) order [] = order
  order_by (suc fuel) order (b ∷ todo) =
      order_by fuel (cond (is_simple (head b)) order (cond (is_old order b) order (order ++ b ∷ [])))
      (cond (is_simple (head b)) todo (cond (is_old order b) todo (parts_of (head b) ++ todo)))

  abbrev pub numbered : Option ℕ → Bytes
  numbered None = []
  numbered (Some n) = sleb (pos n)

  abbrev pub ref_by : List B → B → Wire B → Bytes
  ref_by order b (Simple p) = plain_code p ∷ []
  ref_by order b _ = numbered (place_in same order b 0)

  abbrev pub ref_code : List B → B → Bytes
  ref_code order b = ref_by order b (head b)

  abbrev pub refs_code : List B → List B → Bytes
  refs_code order [] = []
  refs_code order (b ∷ bs) = ref_code order b ++ refs_code order bs

  abbrev pub fields_code : List B → List (Entry B) → Bytes
  fields_code order [] = []
  fields_code order (e ∷ es) = leb e.id ++ (ref_code order e.part ++ fields_code order es)

  abbrev pub methods_code : List B → List (Method B) → Bytes
  methods_code order [] = []
  methods_code order (m ∷ ms) = string_code m.name ++ (ref_code order m.part ++ methods_code order ms)

  abbrev pub entry_code : List B → Wire B → Bytes
  entry_code order (Simple p) = []
  entry_code order (Opt b) = 0x6e ∷ ref_code order b
  entry_code order (Vec b) = 0x6d ∷ ref_code order b
  entry_code order (Record es) = 0x6c ∷ (leb (length es) ++ fields_code order es)
  entry_code order (Variant es) = 0x6b ∷ (leb (length es) ++ fields_code order es)
  entry_code order (Func ps rs ns) = 0x6a ∷ (leb (length ps) ++ (refs_code order ps ++ (leb (length rs) ++ (refs_code order rs ++ string_code ns))))
  entry_code order (Service ms) = 0x69 ∷ (leb (length ms) ++ methods_code order ms)

  abbrev pub entries_code : List B → List B → Bytes
  entries_code order [] = []
  entries_code order (b ∷ bs) = entry_code order (head b) ++ entries_code order bs

  abbrev pub header_with : List B → List B → Bytes
  header_with order args = magic ++ (leb (length order) ++ (entries_code order order ++ (leb (length args) ++ refs_code order args)))

  abbrev pub header_of : List B → Bytes
  header_of args = header_with (order_by 200 [] args) args

  abbrev pub message : List B → Values → Bytes
  message args values = header_of args ++ values_code head args values

-- ---- messages of a program

abbrev pub same_ref : Ref TypeId → Ref TypeId → Bool
same_ref (Of t) (Of u) = nat_eq t.index u.index
same_ref (Just p) (Just q) = nat_eq (plain_code p) (plain_code q)
same_ref _ _ = false

abbrev pub example_header : Types → List TypeId → Bytes
example_header slots types = header_of (wire (head_at slots)) same_ref (refs types)

abbrev pub example_code : Types → List TypeId → Values → Bytes
example_code slots types values = message (wire (head_at slots)) same_ref (refs types) (form (head_at slots) types values)

-- ---- stable variables

abbrev pub same_saved : Saved TypeId → Saved TypeId → Bool
same_saved Whole Whole = true
same_saved (Inner r) (Inner q) = same_ref r q
same_saved _ _ = false

abbrev pub example_save : Types → List (Variable TypeId) → Bytes
example_save slots variables = message (saved_head (head_at slots) variables) same_saved (Whole ∷ []) (saved_values (head_at slots) variables)
