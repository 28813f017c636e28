-- Reading LEB128 numbers of a given width: WebAssembly Core 1.0 section 5.2.2. At most ceil(bits / 7) bytes may spell
-- one, so that it may be padded to that length.
use Rattle.std.specs.Prelude.{◌≡◌, ℕ, ◌+◌, ◌-◌, ◌/◌, ◌^◌, ◌<◌, ◌≤◌, ◌⊎◌, List, ◌++◌, take, length, ℤ, pos, neg_ℤ, ◌≤ℤ◌, ◌<ℤ◌, Result, Ok, Err}
use Rattle.std.specs.List.{AllByRecursion}
use Rattle.mo_num.specs.declared.leb_reader.LebFault.{LebFault}
use Rattle.mo_num.specs.declared.leb_reader.LebFault.TheVariants.{Short, TooWide}
use Rattle.mo_num.specs.Leb.{IsLeb, IsSleb}

-- How many bytes a number of so many bits may take.
abbrev pub most : ℕ → ℕ
most bits = (bits + 6) / 7

-- None of the bytes is the last one of a number.
abbrev pub NoneEnds : List ℕ → Type 0
NoneEnds bytes = AllByRecursion (λ b. 128 ≤ b) bytes

-- A spelling of the number, of at most so many bytes, stands at the front of the bytes.
pub record Begins {V : Type 0} (Spells : List ℕ → V → Type 0) (limit : ℕ) (bytes : List ℕ) (n : V) (count : ℕ) : Type 0 where
  pub front : List ℕ
  pub rest : List ℕ
  pub whole : bytes ≡ front ++ rest
  pub counted : length front ≡ count
  pub allowed : count ≤ limit
  pub spells : Spells front n

-- What reading answers: the number at the front and the length of its spelling; Short where there are fewer bytes than
-- the number may take and none of them ends it; TooWide where so many bytes do not end it, or it does not fit.
abbrev pub Reads : {V : Type 0} → (List ℕ → V → Type 0) → (V → Type 0) → ℕ → List ℕ → Result (V × ℕ) LebFault → Type 0
Reads Spells Fits limit bytes (Ok r) = Begins Spells limit bytes r.0 r.1 × Fits r.0
Reads Spells Fits limit bytes (Err Short) = (length bytes < limit) × NoneEnds bytes
Reads {V} Spells Fits limit bytes (Err TooWide) = ((limit ≤ length bytes) × NoneEnds (take limit bytes)) ⊎ ((n : V) × (count : ℕ) × Begins Spells limit bytes n count × (Fits n → ⊥))

abbrev pub ReadsLeb : ℕ → List ℕ → Result (ℕ × ℕ) LebFault → Type 0
ReadsLeb bits bytes answer = Reads IsLeb (λ n. n < 2 ^ bits) (most bits) bytes answer

-- The number fits in so many bits with its sign.
abbrev pub IsSigned : ℕ → ℤ → Type 0
IsSigned bits n = (neg_ℤ (pos (2 ^ (bits - 1))) ≤ℤ n) × (n <ℤ pos (2 ^ (bits - 1)))

abbrev pub ReadsSleb : ℕ → List ℕ → Result (ℤ × ℕ) LebFault → Type 0
ReadsSleb bits bytes answer = Reads IsSleb (λ n. IsSigned bits n) (most bits) bytes answer
