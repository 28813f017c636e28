-- The bytes of Candid values (Candid specification, section "Memory"), by cases on types and values. The spelling of
-- numbers is a parameter: a reader takes padded ones, a writer writes the shortest.
use Rattle.std.specs.Prelude.{◌≡◌, ℕ, zero, suc, ◌+◌, ◌-◌, ◌*◌, ◌/◌, ◌%◌, ◌^◌, ◌<◌, ◌≤◌, List, [], ◌∷◌, ◌++◌, length, map, Bool, true, false, Option, Some, None, slice_get, ℤ, pos, negsuc}
use Rattle.std.specs.Str.{is_utf8}
use Rattle.mo_num.specs.declared.kind.Kind.{Kind}
use Rattle.mo_num.specs.declared.kind.Kind.TheVariants as kind
use Rattle.mo_num.specs.Kinds.{InRange}
use Rattle.mo_num.specs.Leb.{IsLeb, IsSleb, IsShortestLeb, IsShortestSleb}
use Rattle.mo_num.specs.LebRead.{most, IsSigned}
use Rattle.mo_types.specs.declared.datum.Datum.{Datum}
use Rattle.mo_types.specs.declared.datum.Datum.TheVariants as part
use Rattle.mo_types.specs.Sub.{Each}
use Rattle.mo_types.specs.Values.{Values, Nil, Value, copies, is_method_name}
use Rattle.mo_types.specs.declared.wire.Plain.{Plain}
use Rattle.mo_types.specs.declared.wire.Plain.TheVariants as plain
use Rattle.mo_types.specs.declared.wire.Entry.{Entry}
use Rattle.mo_types.specs.declared.wire.Wire.{Wire}
use Rattle.mo_types.specs.declared.wire.Wire.TheVariants.{Simple, Opt, Vec, Record, Variant, Func, Service}

-- these bytes, and then those
pub record Then (P Q : List ℕ → Type 0) (bytes : List ℕ) : Type 0 where
  pub front : List ℕ
  pub back : List ℕ
  pub whole : bytes ≡ front ++ back
  pub first : P front
  pub second : Q back

-- how numbers are spelled, within so many bits
pub record Numbers : Type 1 where
  pub unsigned : ℕ → List ℕ → ℕ → Type 0
  pub signed : ℕ → List ℕ → ℤ → Type 0

abbrev pub padded : Numbers
padded = record {
  unsigned = λ bits bytes n. IsLeb bytes n × (length bytes ≤ most bits) × (n < 2 ^ bits);
  signed = λ bits bytes n. IsSleb bytes n × (length bytes ≤ most bits) × IsSigned bits n;
}

abbrev pub shortest : Numbers
shortest = record {
  unsigned = λ bits bytes n. IsShortestLeb bytes n × (n < 2 ^ bits);
  signed = λ bits bytes n. IsShortestSleb bytes n × IsSigned bits n;
}

abbrev pub bit : Bool → ℕ
bit true = 1
bit false = 0

-- so many bytes, the lowest first
abbrev pub low_first : ℕ → ℕ → List ℕ
low_first zero n = []
low_first (suc w) n = n % 256 ∷ low_first w (n / 256)

-- a number as one of so many bytes, a negative one by what it lacks
abbrev pub as_bytes : ℕ → ℤ → List ℕ
as_bytes w (pos n) = low_first w n
as_bytes w (negsuc n) = low_first w (2 ^ (8 * w) - (n + 1))

module _ (N : Numbers) where
  -- a count of 32 bits, and that many bytes
  abbrev pub IsString : List ℕ → List ℕ → Type 0
  IsString text bytes = Then (λ b. N.unsigned 32 b (length text)) (λ b. b ≡ text) bytes

  abbrev pub IsNat : ℤ → List ℕ → Type 0
  IsNat (pos n) bytes = (n < 2 ^ 63) × N.unsigned 70 bytes n
  IsNat (negsuc n) bytes = ⊥

  abbrev pub IsFixed : Kind → ℕ → ℤ → List ℕ → Type 0
  IsFixed k w n bytes = InRange k n × (bytes ≡ as_bytes w n)

  -- an actor's or another principal: a flag, a length of at most 29, the bytes
  abbrev pub IsPrincipal : List ℕ → List ℕ → Type 0
  IsPrincipal p bytes = (length p ≤ 29) × Then (λ b. b ≡ 1 ∷ []) (IsString p) bytes

  abbrev pub IsPlainPart : Plain → Datum → List ℕ → Type 0
  IsPlainPart plain.Null part.Null bytes = bytes ≡ []
  IsPlainPart plain.Reserved part.Null bytes = bytes ≡ []
  IsPlainPart plain.Bool (part.Flag b) bytes = bytes ≡ bit b ∷ []
  IsPlainPart plain.Nat (part.Number n) bytes = IsNat n bytes
  IsPlainPart plain.Int (part.Number n) bytes = InRange kind.Int n × N.signed 70 bytes n
  IsPlainPart plain.Nat8 (part.Number n) bytes = IsFixed kind.Nat8 1 n bytes
  IsPlainPart plain.Nat16 (part.Number n) bytes = IsFixed kind.Nat16 2 n bytes
  IsPlainPart plain.Nat32 (part.Number n) bytes = IsFixed kind.Nat32 4 n bytes
  IsPlainPart plain.Nat64 (part.Number n) bytes = IsFixed kind.Nat64 8 n bytes
  IsPlainPart plain.Int8 (part.Number n) bytes = IsFixed kind.Int8 1 n bytes
  IsPlainPart plain.Int16 (part.Number n) bytes = IsFixed kind.Int16 2 n bytes
  IsPlainPart plain.Int32 (part.Number n) bytes = IsFixed kind.Int32 4 n bytes
  IsPlainPart plain.Int64 (part.Number n) bytes = IsFixed kind.Int64 8 n bytes
  IsPlainPart plain.Text (part.Text t) bytes = (is_utf8 t ≡ true) × IsString t bytes
  IsPlainPart plain.Principal (part.Principal p) bytes = IsPrincipal p bytes
  IsPlainPart _ _ bytes = ⊥

  module _ {B : Type 0} (Allowed : ℕ → B → Type 0) where
    -- the outermost part of a Candid value; so many items of a vector may be allowed or not
    abbrev pub IsWirePart : Wire B → Datum → List ℕ → Type 0
    IsWirePart (Simple s) p bytes = IsPlainPart s p bytes
    IsWirePart (Opt b) part.Null bytes = bytes ≡ 0 ∷ []
    IsWirePart (Opt b) part.Present bytes = bytes ≡ 1 ∷ []
    IsWirePart (Vec b) (part.Many n) bytes = Allowed n b × N.unsigned 32 bytes n
    IsWirePart (Record es) (part.Record n) bytes = (n ≡ length es) × (bytes ≡ [])
    IsWirePart (Variant es) (part.Tag i) bytes = (i < length es) × N.unsigned 32 bytes i
    IsWirePart (Func ps rs m) (part.Method p name) bytes = (is_method_name name ≡ true) × Then (λ b. b ≡ 1 ∷ []) (λ b. Then (IsPrincipal p) (IsString name) b) bytes
    IsWirePart (Service ms) (part.Actor p) bytes = IsPrincipal p bytes
    IsWirePart _ _ bytes = ⊥

abbrev pub one_part : {B : Type 0} → Option (Entry B) → List B
one_part None = []
one_part (Some e) = e.part ∷ []

-- the types of the values inside a part
abbrev pub wire_inside : {B : Type 0} → Wire B → Datum → List B
wire_inside (Opt b) part.Present = b ∷ []
wire_inside (Vec b) (part.Many n) = copies n b
wire_inside (Record es) (part.Record n) = map (λ e. e.part) es
wire_inside (Variant es) (part.Tag i) = one_part (slice_get es i)
wire_inside _ _ = []

-- exactly one spelling of each value of these types, in order
abbrev pub Spell : (N : Numbers) → {B : Type 0} → (ℕ → B → Type 0) → (B → Wire B) → List B → Values → List ℕ → Type 0
Spell N Allowed head [] Nil bytes = bytes ≡ []
Spell N Allowed head (t ∷ ts) (Value p inner others) bytes =
    Then (IsWirePart N Allowed (head t) p) (Then (Spell N Allowed head (wire_inside (head t) p) inner) (Spell N Allowed head ts others)) bytes
Spell N Allowed head _ _ bytes = ⊥

-- a type whose values have no bytes, by so many levels: null, reserved, and records of such types alone
abbrev pub EmptyHead : {B : Type 0} → (B → Type 0) → Wire B → Type 0
EmptyHead E (Simple plain.Null) = Unit {0}
EmptyHead E (Simple plain.Reserved) = Unit {0}
EmptyHead E (Record es) = Each (λ e. E e.part) es
EmptyHead E _ = ⊥

unfoldable pub EmptyBy : {B : Type 0} → (B → Wire B) → ℕ → B → Type 0
EmptyBy head zero b = ⊥
EmptyBy head (suc n) b = EmptyHead (EmptyBy head n) (head b)

-- at most 10,000 items without bytes in one vector
abbrev pub FewEmpty : {B : Type 0} → (B → Wire B) → ℕ → B → Type 0
FewEmpty head n b = (levels : ℕ) → EmptyBy head levels b → n ≤ 10000

-- as many as there are
abbrev pub AnyCount : {B : Type 0} → ℕ → B → Type 0
AnyCount n b = Unit {0}
