-- A word that is written, the others, and the words of a memory that has more behind it.
use Rattle.std.proofs.Common.{◌≡◌, ℕ, zero, suc, ◌+◌, ◌*◌, ◌<◌, ◌≤◌, ◌^◌, List, [], ◌∷◌, ◌++◌, length, take, drop, Bool, true, false, nat_lt, nat_eq, refl, ap, ◌∙◌, arith}
use Rattle.std.proofs.lemmas.Bool.Decides.{nat_tests}
use Rattle.wasm_tree.specs.Exec.{number_of}
use Rattle.module_laws.specs.Stored.{written, IsStored}
use Rattle.module_laws.proofs.StoredBytes.{stored, number_back}
use Rattle.heap_layout.specs.Words.{word_at}

past : (i j : ℕ) → i ≤ j → (j ≡ i → ⊥) → i < j
past zero zero le ne = absurd (ne refl)
past zero (suc j) le ne = omega arith
past (suc i) zero le ne = absurd (omega arith)
past (suc i) (suc j) le ne = let lt : i < j = past i j (omega arith) (λ e. ne (ap suc e)) in omega arith

pub word_here : (m : List ℕ) (i v : ℕ) → 8 * i + 8 ≤ length m → v < 2 ^ 64 → word_at (written m (8 * i) 8 v) i ≡ v
word_here m i v h lt = ap number_of (stored m (8 * i) 8 v h).here ∙ number_back 8 v lt

pub word_other : (m : List ℕ) (i j v : ℕ) → 8 * i + 8 ≤ length m → (j ≡ i → ⊥) → word_at (written m (8 * i) 8 v) j ≡ word_at m j
word_other m i j v h ne = by (nat_lt j i) refl
  where
    s : IsStored m (8 * i) 8 v
    s = stored m (8 * i) 8 v h

    by : (t : Bool) → nat_lt j i ≡ t → word_at (written m (8 * i) 8 v) j ≡ word_at m j
    by true e = let lt : j < i = grind (arith, nat_tests, e) in ap number_of (s.below (8 * j) 8 (omega (arith, lt)))
    by false e = let le : i ≤ j = grind (arith, nat_tests, e) in let lt : i < j = past i j le ne in ap (λ l. number_of (take 8 l)) (s.above (8 * j) (omega (arith, lt)))

-- A word of a memory that has more behind it.
pub word_larger : (m more : List ℕ) (i : ℕ) → 8 * i + 8 ≤ length m → word_at (m ++ more) i ≡ word_at m i
word_larger m more i h = ap number_of (before m more (8 * i) h)
  where
    before : (m more : List ℕ) (b : ℕ) → b + 8 ≤ length m → take 8 (drop b (m ++ more)) ≡ take 8 (drop b m)
    before m more b h = ap (λ l. take 8 l) (drops m more b (omega (arith, h))) ∙ takes 8 (drop b m) more (left m b h)
      where
        drops : (m more : List ℕ) (b : ℕ) → b ≤ length m → drop b (m ++ more) ≡ drop b m ++ more
        drops m more zero h = refl
        drops [] more (suc b) h = absurd (omega arith)
        drops (x ∷ m) more (suc b) h = drops m more b (omega arith)

        takes : (n : ℕ) (l more : List ℕ) → n ≤ length l → take n (l ++ more) ≡ take n l
        takes zero l more h = refl
        takes (suc n) [] more h = absurd (omega arith)
        takes (suc n) (x ∷ l) more h = ap (λ k. x ∷ k) (takes n l more (omega arith))

        left : (m : List ℕ) (b : ℕ) → b + 8 ≤ length m → 8 ≤ length (drop b m)
        left m zero h = omega arith
        left [] (suc b) h = absurd (omega arith)
        left (x ∷ m) (suc b) h = left m b (omega arith)

pub same_number : (i j : ℕ) → nat_eq i j ≡ true → i ≡ j
same_number i j e = grind (arith, nat_tests, e)

pub other_numbers : (i j : ℕ) → nat_eq i j ≡ false → i ≡ j → ⊥
other_numbers i j e k = grind (arith, nat_tests, e, k)

pub equal_number : (i : ℕ) → nat_eq i i ≡ true
equal_number i = grind (arith, nat_tests)

pub not_equal : (i j : ℕ) → (i ≡ j → ⊥) → nat_eq i j ≡ false
not_equal i j ne = by (nat_eq i j) refl
  where
    by : (t : Bool) → nat_eq i j ≡ t → nat_eq i j ≡ false
    by true e = absurd (ne (same_number i j e))
    by false e = e
