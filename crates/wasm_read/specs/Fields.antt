-- Reading the fields of a module, where all that breaks a rule, but for the codes of floats, is malformed.
use Rattle.std.specs.Prelude.{ℕ, List, [], ◌∷◌, Bool, length, Result, Ok, Err, nat_eq, if◌then◌else◌, ℤ}
use Rattle.std.specs.Str.{is_utf8}
use Rattle.exact_reading.specs.Reading as exact
use Rattle.exact_reading.specs.Reading.{◌>>=◌}
use Rattle.wasm_read.specs.declared.fault.Fault.{Fault}
use Rattle.wasm_read.specs.declared.fault.Fault.TheVariants.{Malformed}

-- Reading a value of this kind.
abbrev pub Reading : Type 0 → Type 0
Reading X = exact.Reading Fault X

-- A value of which the test holds.
abbrev pub kept : {X : Type 0} → (X → Bool) → Reading X → Reading X
kept test p = exact.kept Malformed test p

-- What its first byte tells.
abbrev pub first : {Y : Type 0} → (ℕ → List ℕ → Result Y Fault) → List ℕ → Result Y Fault
first by = exact.first Malformed by

-- This byte, and what comes after it.
abbrev pub behind : ℕ → List ℕ → Result (List ℕ) Fault
behind code = first (λ b rest. if nat_eq b code then Ok rest else Err Malformed)

abbrev pub after_code : {X : Type 0} → ℕ → Reading X → Reading X
after_code code p bytes = behind code bytes >>= p

-- Nothing is left.
abbrev pub whole : {X : Type 0} → Reading X → List ℕ → Result X Fault
whole p bytes = p bytes >>= λ x. if nat_eq (length x.1) 0 then Ok x.0 else Err Malformed

-- Numbers, WebAssembly Core 1.0 section 5.2.2.
abbrev pub u32_at : Reading ℕ
u32_at = exact.u32_at Malformed Malformed

abbrev pub s32_at : Reading ℤ
s32_at = exact.signed_at Malformed Malformed 32

abbrev pub s64_at : Reading ℤ
s64_at = exact.signed_at Malformed Malformed 64

-- Vectors, section 5.1.3.
abbrev pub each_at : {X : Type 0} → Reading X → ℕ → Reading (List X)
each_at p n = exact.many {S = Unit {0}} (λ _. p) (λ _ _. tt) n tt

abbrev pub vector_at : {X : Type 0} → Reading X → Reading (List X)
vector_at p = exact.list_at {S = Unit {0}} Malformed Malformed (λ _. p) (λ _ _. tt) tt

abbrev pub byte_vector_at : Reading (List ℕ)
byte_vector_at = exact.string_at Malformed Malformed

-- What stands behind the number of its bytes takes all of these.
abbrev pub sized : {X : Type 0} → Reading X → Reading X
sized p bytes = byte_vector_at bytes >>= λ c. whole p c.0 >>= λ x. Ok (x, c.1)

-- Names, section 5.2.4.
unfoldable pub name_at : Reading (List ℕ)
name_at = kept is_utf8 byte_vector_at
