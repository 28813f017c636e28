-- LEB128: WebAssembly Core 1.0 section 5.2.2 (integers), Candid specification (nat and int).
use Rattle.std.specs.Prelude.{◌≡◌, ℕ, ◌+◌, ◌*◌, ◌<◌, ◌≤◌, ◌⊎◌, List, [], ◌∷◌, ◌++◌, length, ℤ, pos, ◌+ℤ◌, ◌*ℤ◌}

-- The bytes spell the number in base 128, its low digits first. A byte below 128 is the last one; any
-- other stands for itself less 128. High digits may be 0, so that a number has many spellings.
abbrev pub IsLeb : List ℕ → ℕ → Type 0
IsLeb [] n = ⊥
IsLeb (b ∷ []) n = (b < 128) × (n ≡ b)
IsLeb (b ∷ c ∷ bs) n = (128 ≤ b) × (b < 256) × (high : ℕ) × (n + 128 ≡ b + 128 * high) × IsLeb (c ∷ bs) high

-- The same of signed numbers: a last byte from 64 to 127 stands for itself less 128.
abbrev pub IsSleb : List ℕ → ℤ → Type 0
IsSleb [] n = ⊥
IsSleb (b ∷ []) n = ((b < 64) × (n ≡ pos b)) ⊎ ((64 ≤ b) × (b < 128) × (n +ℤ pos 128 ≡ pos b))
IsSleb (b ∷ c ∷ bs) n = (128 ≤ b) × (b < 256) × (high : ℤ) × (n +ℤ pos 128 ≡ pos b +ℤ (pos 128 *ℤ high)) × IsSleb (c ∷ bs) high

-- The bytes spell the number, and no spelling of it is shorter.
pub record IsShortestLeb (bytes : List ℕ) (n : ℕ) : Type 0 where
  pub spells : IsLeb bytes n
  pub least : (other : List ℕ) → IsLeb other n → length bytes ≤ length other

pub record IsShortestSleb (bytes : List ℕ) (n : ℤ) : Type 0 where
  pub spells : IsSleb bytes n
  pub least : (other : List ℕ) → IsSleb other n → length bytes ≤ length other

-- The new bytes are the old ones and the shortest spelling behind them.
abbrev pub AppendsLeb : List ℕ → List ℕ → ℕ → Type 0
AppendsLeb old new n = (bytes : List ℕ) × (new ≡ old ++ bytes) × IsShortestLeb bytes n

abbrev pub AppendsSleb : List ℕ → List ℕ → ℤ → Type 0
AppendsSleb old new n = (bytes : List ℕ) × (new ≡ old ++ bytes) × IsShortestSleb bytes n
