-- Counting up to one more than the nodes that a program may have.
use Rattle.std.specs.Prelude.{◌≡◌, ℕ, ◌+◌, min}

abbrev pub capped : ℕ → ℕ
capped n = min n 50001

-- So many more were counted, as far as it matters.
pub record Counts (n before after : ℕ) : Type 0 where
  pub is : capped after ≡ capped (before + n)

-- the nodes of a field were counted, in whichever list it stands
pub record CountsField {L : Type 0} (count : L → ℕ) (field : L → L) (before after : ℕ) : Type 0 where
  pub is : (rest : L) → capped (after + count rest) ≡ capped (before + count (field rest))
