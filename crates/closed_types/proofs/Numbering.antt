-- A list of numbers is read back from its number.
use Rattle.std.proofs.Common.{◌≡◌, ◌≤◌, ◌∙◌, ℕ, zero, suc, ◌+◌, List, [], ◌∷◌, length, refl, ap, arith}
use Rattle.closed_types.specs.Numbering.{sum_to, number_of_pair, next_pair, pair_of_number, number_of_list, list_within, list_of_number}

-- all pairs of one sum, if the first of them stands at its place
row : (s : ℕ) → pair_of_number (sum_to s + 0) ≡ (s, 0) → (b a : ℕ) → a + b ≡ s → pair_of_number (sum_to s + b) ≡ (a, b)
row s first zero a e = first ∙ ap (λ n. (n, 0)) (by a s e) where
  by : (a s : ℕ) → a + 0 ≡ s → s ≡ a
  by a s e = omega arith
row s first (suc b) a e =
    ap pair_of_number (after (sum_to s) b) ∙ ap next_pair (row s first b (suc a) (by a b s e)) where
      after : (n b : ℕ) → n + suc b ≡ suc (n + b)
      after n b = omega arith

      by : (a b s : ℕ) → a + suc b ≡ s → suc a + b ≡ s
      by a b s e = omega arith

first_of_row : (s : ℕ) → pair_of_number (sum_to s + 0) ≡ (s, 0)
first_of_row zero = refl
first_of_row (suc s) = ap pair_of_number (after (sum_to s) s) ∙ ap next_pair (row s (first_of_row s) s 0 (by s)) where
  after : (n s : ℕ) → (n + suc s) + 0 ≡ suc (n + s)
  after n s = omega arith

  by : (s : ℕ) → 0 + s ≡ s
  by s = omega arith

pair_back : (a b : ℕ) → pair_of_number (number_of_pair a b) ≡ (a, b)
pair_back a b = row (a + b) (first_of_row (a + b)) b a refl

list_back : (k : ℕ) (xs : List ℕ) → length xs ≤ k → list_within k (number_of_list xs) ≡ xs
list_back zero [] l = refl
list_back (suc k) [] l = refl
list_back zero (x ∷ xs) l = absurd (by (length xs) l) where
  by : (n : ℕ) → suc n ≤ 0 → ⊥
  by n l = omega arith
list_back (suc k) (x ∷ xs) l =
    ap (λ (p : ℕ × ℕ). p.0 ∷ list_within k p.1) (pair_back x (number_of_list xs)) ∙ ap (λ ys. x ∷ ys) (list_back k xs (by (length xs) k l)) where
      by : (n k : ℕ) → suc n ≤ suc k → n ≤ k
      by n k l = omega arith

shorter : (xs : List ℕ) → length xs ≤ number_of_list xs
shorter [] = by where
  by : 0 ≤ 0
  by = omega arith
shorter (x ∷ xs) = by (length xs) (number_of_list xs) (sum_to (x + number_of_list xs)) (shorter xs) where
  by : (n m s : ℕ) → n ≤ m → suc n ≤ suc (s + m)
  by n m s l = omega arith

pub number_back : (xs : List ℕ) → list_of_number (number_of_list xs) ≡ xs
number_back xs = list_back (number_of_list xs) xs (shorter xs)
