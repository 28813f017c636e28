-- Lines and columns.
use Rattle.std.specs.Prelude.{◌≡◌, ℕ, ◌+◌, ◌<◌, ◌≤◌, List, length, slice_index}

-- the last line that starts at or before the place, and how far the place is behind its start; both from 1
pub record IsLineColumn (starts : List ℕ) (place : ℕ) (answer : ℕ × ℕ) : Type 0 where
  pub index : ℕ
  pub within : index < length starts
  pub started : slice_index starts index ≤ place
  pub last : index + 1 < length starts → place < slice_index starts (index + 1)
  pub line : answer.0 ≡ index + 1
  pub column : slice_index starts index + answer.1 ≡ place + 1
