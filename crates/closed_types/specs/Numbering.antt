-- Lists of numbers as numbers, and back.
use Rattle.std.specs.Prelude.{ℕ, zero, suc, ◌+◌, List, [], ◌∷◌}

-- 1 + 2 + ... + n
abbrev pub sum_to : ℕ → ℕ
sum_to zero = 0
sum_to (suc n) = sum_to n + suc n

abbrev pub number_of_pair : ℕ → ℕ → ℕ
number_of_pair a b = sum_to (a + b) + b

-- pairs in the order of their sums
abbrev pub next_pair : ℕ × ℕ → ℕ × ℕ
next_pair (zero, b) = (suc b, 0)
next_pair (suc a, b) = (a, suc b)

abbrev pub pair_of_number : ℕ → ℕ × ℕ
pair_of_number zero = (0, 0)
pair_of_number (suc n) = next_pair (pair_of_number n)

-- no list has the number 0 but the empty one
abbrev pub number_of_list : List ℕ → ℕ
number_of_list [] = 0
number_of_list (x ∷ xs) = suc (number_of_pair x (number_of_list xs))

-- with at most so many elements
abbrev pub list_within : ℕ → ℕ → List ℕ
list_within zero n = []
list_within (suc k) zero = []
list_within (suc k) (suc n) = (pair_of_number n).0 ∷ list_within k (pair_of_number n).1

abbrev pub list_of_number : ℕ → List ℕ
list_of_number n = list_within n n
