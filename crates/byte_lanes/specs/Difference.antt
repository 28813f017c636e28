-- The first place at which two lists differ.
use Rattle.std.specs.Prelude.{◌≡◌, ◌≢◌, ℕ, ◌<◌, List, length, slice_index}

-- the lists agree before the place, and differ at it
pub record IsFirstDifference (a b : List ℕ) (place : ℕ) : Type 0 where
  pub in_first : place < length a
  pub in_second : place < length b
  pub before : (k : ℕ) → k < place → slice_index a k ≡ slice_index b k
  pub at : slice_index a place ≢ slice_index b place
