-- Indexes of a list of numbers by the numbers that stand there.
use Rattle.std.specs.Prelude.{◌≡◌, ◌≤◌, ℕ, suc, List, [], ◌∷◌, cond, length, nat_eq, slice_index_or}

-- where this number stands, if the first has this index
abbrev pub indexes_from : ℕ → ℕ → List ℕ → List ℕ
indexes_from n k [] = []
indexes_from n k (p ∷ ps) = cond (nat_eq p n) (k ∷ indexes_from n (suc k) ps) (indexes_from n (suc k) ps)

-- The group of each number up to the length of the list is where it stands in it.
abbrev pub IsGrouped : List ℕ → List (List ℕ) → Type 0
IsGrouped ps groups = (n : ℕ) → n ≤ length ps → slice_index_or groups n [] ≡ indexes_from n 0 ps
