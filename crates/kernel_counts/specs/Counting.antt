-- Counting nodes.
use Rattle.std.specs.Prelude.{◌≡◌, ℕ, ◌+◌}

-- So many more were counted.
pub record Counts (n before after : ℕ) : Type 0 where
  pub is : after ≡ before + n

-- the nodes of a field were counted, in whichever list it stands
pub record CountsField {L : Type 0} (count : L → ℕ) (field : L → L) (before after : ℕ) : Type 0 where
  pub is : (rest : L) → after + count rest ≡ before + count (field rest)
