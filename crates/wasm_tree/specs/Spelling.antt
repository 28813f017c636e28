-- How parts are spelled one after another: WebAssembly Core 1.0 section 5.1 and 5.2.
use Rattle.std.specs.Prelude.{◌≡◌, ℕ, ◌<◌, ◌≤◌, ◌^◌, ◌⊎◌, List, [], ◌∷◌, ◌++◌, length, ℤ, FitsSigned}
use Rattle.std.specs.Int.{w32, w64}
use Rattle.mo_num.specs.Leb.{IsLeb, IsSleb}

-- these bytes and no others
abbrev pub Exactly : List ℕ → List ℕ → Type 0
Exactly these bytes = bytes ≡ these

abbrev pub IsByte : ℕ → List ℕ → Type 0
IsByte byte = Exactly (byte ∷ [])

-- first the one, then the other
pub record Then (P Q : List ℕ → Type 0) (bytes : List ℕ) : Type 0 where
  pub front : List ℕ
  pub back : List ℕ
  pub whole : bytes ≡ front ++ back
  pub first : P front
  pub second : Q back

-- an unsigned number of 32 bits, in at most five bytes (section 5.2.2)
pub record IsU32 (n : ℕ) (bytes : List ℕ) : Type 0 where
  pub small : n < 2 ^ 32
  pub short : length bytes ≤ 5
  pub spells : IsLeb bytes n

-- a signed number of 32 bits, in at most five bytes (section 5.2.2)
pub record IsS32 (z : ℤ) (bytes : List ℕ) : Type 0 where
  pub small : FitsSigned w32 z
  pub short : length bytes ≤ 5
  pub spells : IsSleb bytes z

-- a signed number of 64 bits, in at most ten bytes (section 5.2.2)
pub record IsS64 (z : ℤ) (bytes : List ℕ) : Type 0 where
  pub small : FitsSigned w64 z
  pub short : length bytes ≤ 10
  pub spells : IsSleb bytes z

-- each of the list in turn
abbrev pub IsEach : {X : Type 0} → (X → List ℕ → Type 0) → List X → List ℕ → Type 0
IsEach P [] bytes = bytes ≡ []
IsEach P (x ∷ xs) bytes = Then (P x) (IsEach P xs) bytes

-- a vector: how many, and each in turn (section 5.1.3)
abbrev pub IsVector : {X : Type 0} → (X → List ℕ → Type 0) → List X → List ℕ → Type 0
IsVector P xs = Then (IsU32 (length xs)) (IsEach P xs)

-- what has a spelling P, behind the number of its bytes
pub record IsSized (P : List ℕ → Type 0) (bytes : List ℕ) : Type 0 where
  pub size : List ℕ
  pub contents : List ℕ
  pub whole : bytes ≡ size ++ contents
  pub count : IsU32 (length contents) size
  pub inner : P contents

-- a section with this number, its size and its contents (section 5.5.2)
abbrev pub IsSection : ℕ → (List ℕ → Type 0) → List ℕ → Type 0
IsSection number P = Then (IsByte number) (IsSized P)

-- a section of a vector, which may be left out where the vector is empty
abbrev pub IsVectorSection : {X : Type 0} → ℕ → (X → List ℕ → Type 0) → List X → List ℕ → Type 0
IsVectorSection number P xs bytes = ((xs ≡ []) × (bytes ≡ [])) ⊎ IsSection number (IsVector P xs) bytes

-- a vector of bytes: how many, and the bytes themselves (section 5.2.1)
abbrev pub IsByteVector : List ℕ → List ℕ → Type 0
IsByteVector these = Then (IsU32 (length these)) (Exactly these)

-- any number of parts of this kind
abbrev pub IsMany : {X : Type 0} → (X → List ℕ → Type 0) → List ℕ → Type 0
IsMany {X} P bytes = (xs : List X) × IsEach P xs bytes

-- the bytes spell it, and no spelling of it is shorter
pub record IsLeast (P : List ℕ → Type 0) (bytes : List ℕ) : Type 0 where
  pub spells : P bytes
  pub least : (other : List ℕ) → P other → length bytes ≤ length other

-- the new bytes are the old ones and the least spelling behind them
pub record AppendsLeast (P : List ℕ → Type 0) (old new : List ℕ) : Type 0 where
  pub bytes : List ℕ
  pub appended : new ≡ old ++ bytes
  pub least : IsLeast P bytes

-- there is a spelling of it
pub record HasSpelling (P : List ℕ → Type 0) : Type 0 where
  pub bytes : List ℕ
  pub spells : P bytes
