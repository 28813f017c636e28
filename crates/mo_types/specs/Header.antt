-- The header of a Candid message (Candid specification, section "Type definition table"): a table of types, and the types
-- of the arguments.
use Rattle.std.specs.Prelude.{◌≡◌, ℕ, ◌<◌, List, [], ◌∷◌, ◌++◌, length, map, true, Option, Some, None, slice_get, pos}
use Rattle.mo_types.specs.Sub.{Each}
use Rattle.mo_types.specs.declared.wire.Plain.TheVariants as plain
use Rattle.mo_types.specs.declared.wire.Entry.{Entry}
use Rattle.mo_types.specs.declared.wire.Method.{Method}
use Rattle.mo_types.specs.declared.wire.Wire.{Wire}
use Rattle.mo_types.specs.declared.wire.Wire.TheVariants.{Simple, Opt, Vec, Record, Variant, Func, Service}
use Rattle.mo_types.specs.declared.wire.TableRef.{TableRef}
use Rattle.mo_types.specs.declared.wire.TableRef.TheVariants.{Plainly, At}
use Rattle.mo_types.specs.Wire.{plain_code, SameWire, name_before}
use Rattle.mo_types.specs.Spelling.{Numbers, Then, IsString}

-- the bytes 44 49 44 4c, `DIDL`
abbrev pub magic : List ℕ
magic = 0x44 ∷ 0x49 ∷ 0x44 ∷ 0x4c ∷ []

abbrev pub IsByte : ℕ → List ℕ → Type 0
IsByte code bytes = bytes ≡ code ∷ []

abbrev pub IsEach : {X : Type 0} → (X → List ℕ → Type 0) → List X → List ℕ → Type 0
IsEach Item [] bytes = bytes ≡ []
IsEach Item (x ∷ xs) bytes = Then (Item x) (IsEach Item xs) bytes

module _ (N : Numbers) where
  -- a count, and so many items
  abbrev pub IsList : {X : Type 0} → (X → List ℕ → Type 0) → List X → List ℕ → Type 0
  IsList Item xs bytes = Then (λ b. N.unsigned 32 b (length xs)) (IsEach Item xs) bytes

  module _ {B : Type 0} (Part : B → List ℕ → Type 0) where
    abbrev pub IsField : Entry B → List ℕ → Type 0
    IsField e bytes = Then (λ b. N.unsigned 32 b e.id) (Part e.part) bytes

    abbrev pub IsMethod : Method B → List ℕ → Type 0
    IsMethod m bytes = Then (IsString N m.name) (Part m.part) bytes

    -- an entry of the table; types without parts are none
    abbrev pub IsEntry : Wire B → List ℕ → Type 0
    IsEntry (Simple p) bytes = ⊥
    IsEntry (Opt b) bytes = Then (IsByte 0x6e) (Part b) bytes
    IsEntry (Vec b) bytes = Then (IsByte 0x6d) (Part b) bytes
    IsEntry (Record es) bytes = Then (IsByte 0x6c) (IsList IsField es) bytes
    IsEntry (Variant es) bytes = Then (IsByte 0x6b) (IsList IsField es) bytes
    IsEntry (Func ps rs ns) bytes = Then (IsByte 0x6a) (λ b. Then (IsList Part ps) (λ c. Then (IsList Part rs) (IsList IsByte ns) c) b) bytes
    IsEntry (Service ms) bytes = Then (IsByte 0x69) (IsList IsMethod ms) bytes

    -- the first bytes, the table and the arguments' types
    abbrev pub IsHeader : List (Wire B) → List B → List ℕ → Type 0
    IsHeader table args bytes = Then (λ b. b ≡ magic) (λ b. Then (IsList IsEntry table) (IsList Part args) b) bytes

  -- a type by its code, which is one byte, or by its number in the table
  abbrev pub IsTableRef : TableRef → List ℕ → Type 0
  IsTableRef (Plainly p) bytes = IsByte (plain_code p) bytes
  IsTableRef (At i) bytes = N.signed 33 bytes (pos i)

-- ---- a header that is read

abbrev pub or_empty : Option (Wire TableRef) → Wire TableRef
or_empty None = Simple plain.Empty
or_empty (Some w) = w

abbrev pub table_head : List (Wire TableRef) → TableRef → Wire TableRef
table_head table (Plainly p) = Simple p
table_head table (At i) = or_empty (slice_get table i)

abbrev pub IsWithin : ℕ → TableRef → Type 0
IsWithin count (Plainly p) = Unit {0}
IsWithin count (At i) = i < count

abbrev pub RisingIds : {B : Type 0} → List (Entry B) → Type 0
RisingIds [] = Unit {0}
RisingIds (e ∷ []) = Unit {0}
RisingIds (e ∷ f ∷ es) = (e.id < f.id) × RisingIds (f ∷ es)

abbrev pub RisingNames : {B : Type 0} → List (Method B) → Type 0
RisingNames [] = Unit {0}
RisingNames (m ∷ []) = Unit {0}
RisingNames (m ∷ n ∷ ms) = (name_before m.name n.name ≡ true) × RisingNames (n ∷ ms)

abbrev pub IsFunction : {B : Type 0} → Wire B → Type 0
IsFunction (Func ps rs ns) = Unit {0}
IsFunction _ = ⊥

-- ids and names rise, numbers are in the table, methods are functions
abbrev pub IsSound : List (Wire TableRef) → Wire TableRef → Type 0
IsSound table (Simple p) = ⊥
IsSound table (Opt b) = IsWithin (length table) b
IsSound table (Vec b) = IsWithin (length table) b
IsSound table (Record es) = RisingIds es × Each (λ e. IsWithin (length table) e.part) es
IsSound table (Variant es) = RisingIds es × Each (λ e. IsWithin (length table) e.part) es
IsSound table (Func ps rs ns) = Each (IsWithin (length table)) ps × Each (IsWithin (length table)) rs
IsSound table (Service ms) = RisingNames ms × Each (λ m. IsWithin (length table) m.part × IsFunction (table_head table m.part)) ms

-- a table that is well formed, with the arguments' types
pub record IsTable (table : List (Wire TableRef)) (args : List TableRef) : Type 0 where
  pub sound : Each (IsSound table) table
  pub within : Each (IsWithin (length table)) args

-- ---- the header that is written

abbrev pub IsSimple : {B : Type 0} → Wire B → Type 0
IsSimple (Simple p) = Unit {0}
IsSimple _ = ⊥

-- the parts of a type, in order
abbrev pub parts_of : {B : Type 0} → Wire B → List B
parts_of (Simple p) = []
parts_of (Opt b) = b ∷ []
parts_of (Vec b) = b ∷ []
parts_of (Record es) = map (λ e. e.part) es
parts_of (Variant es) = map (λ e. e.part) es
parts_of (Func ps rs ns) = ps ++ rs
parts_of (Service ms) = map (λ m. m.part) ms

module _ {B : Type 0} (head : B → Wire B) where
  -- equal to the one at this place
  pub record IsAt (order : List B) (b : B) (i : ℕ) : Type 0 where
    pub other : B
    pub there : slice_get order i ≡ Some other
    pub same : SameWire head head other b

  abbrev pub IsKnown : List B → B → Type 0
  IsKnown order b = (i : ℕ) × IsAt order b i

  -- Visiting these types in turn makes one order of the other: a type before its parts, each once up to equality.
  pub data Visits : List B → List B → List B → Type 0 where
    Done : {order : List B} → Visits order [] order
    Skip : {order ts out : List B} (t : B) → IsSimple (head t) → Visits order ts out → Visits order (t ∷ ts) out
    Old : {order ts out : List B} (t : B) → IsKnown order t → Visits order ts out → Visits order (t ∷ ts) out
    New : {order ts out : List B} (t : B) → (IsSimple (head t) → ⊥) → (IsKnown order t → ⊥) → Visits (order ++ t ∷ []) (parts_of (head t) ++ ts) out → Visits order (t ∷ ts) out

  abbrev pub RefBy : Numbers → List B → B → Wire B → List ℕ → Type 0
  RefBy N order b (Simple p) bytes = IsByte (plain_code p) bytes
  RefBy N order b _ bytes = (i : ℕ) × IsAt order b i × N.signed 33 bytes (pos i)

  -- a type by its code, or by the place of the one that is equal to it
  abbrev pub IsRef : Numbers → List B → B → List ℕ → Type 0
  IsRef N order b bytes = RefBy N order b (head b) bytes

  -- the header with each type in the order of first visit
  pub record IsCanonical (N : Numbers) (args : List B) (bytes : List ℕ) : Type 0 where
    pub order : List B
    pub visits : Visits [] args order
    pub header : IsHeader N (IsRef N order) (map head order) args bytes
