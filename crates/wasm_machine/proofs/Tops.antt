-- The operands that cells hold.
use Rattle.std.proofs.Common.{◌≡◌, ℕ, zero, suc, ◌+◌, ◌-◌, ◌<◌, ◌≤◌, List, [], ◌∷◌, ◌++◌, length, drop, refl, sym, ap, ◌∙◌, arith, get_or-set_other, get_or-set_same, add-one}
use Rattle.std.specs.Prelude.{slice_index, slice_set, take}
use Rattle.std.proofs.Math.ListN.{drop_of_length-le}
use Rattle.std.proofs.Common.{◌⊎◌, inl, inr}
use Rattle.std.proofs.lemmas.Bool.{cases_lt}
use Rattle.wasm_steps.specs.Moves.{slide}
use Rattle.wasm_machine.specs.Operands.{tops}

pub length_tops : (s : List ℕ) (n : ℕ) → length (tops s n) ≡ n
length_tops s zero = refl
length_tops s (suc n) = ap suc (length_tops s n)

pub tops_set : (s : List ℕ) (n i v : ℕ) → n ≤ i → tops (slice_set s i v) n ≡ tops s n
tops_set s zero i v h = refl
tops_set s (suc n) i v h =
    let e : slice_index (slice_set s i v) n ≡ slice_index s n = get_or-set_other s i n v 0 (omega arith) in
    let r : tops (slice_set s i v) n ≡ tops s n = tops_set s n i v (omega arith) in
    cc

pub tops_put : (s : List ℕ) (n v : ℕ) → n < length s → tops (slice_set s n v) (n + 1) ≡ v ∷ tops s n
tops_put s n v h =
    let e : slice_index (slice_set s n v) n ≡ v = get_or-set_same s n v 0 h in
    let r : tops (slice_set s n v) n ≡ tops s n = tops_set s n n v (omega arith) in
    rw add-one (cc)

pub tops_one : (s : List ℕ) (n : ℕ) → 0 < n → tops s n ≡ slice_index s (n - 1) ∷ tops s (n - 1)
tops_one s zero h = absurd (omega arith)
tops_one s (suc n) h = let e : suc n - 1 ≡ n = omega arith in rw e refl

pub tops_two : (s : List ℕ) (n : ℕ) → 1 < n → tops s n ≡ slice_index s (n - 1) ∷ slice_index s (n - 2) ∷ tops s (n - 2)
tops_two s zero h = absurd (omega arith)
tops_two s (suc n) h =
    let e : suc n - 1 ≡ n = omega arith in
    let f : suc n - 2 ≡ n - 1 = omega arith in
    rw (e, f) (ap (λ t. slice_index s n ∷ t) (tops_one s n (omega arith)))

pub tops_three : (s : List ℕ) (n : ℕ) → 3 ≤ n → tops s n ≡ slice_index s (n - 1) ∷ slice_index s (n - 2) ∷ slice_index s (n - 3) ∷ tops s (n - 3)
tops_three s n h =
    let e : n - 2 - 1 ≡ n - 3 = omega arith in
    tops_two s n (omega arith) ∙ ap (λ t. slice_index s (n - 1) ∷ slice_index s (n - 2) ∷ t) (tops_one s (n - 2) (omega arith)) ∙ ap (λ i. slice_index s (n - 1) ∷ slice_index s (n - 2) ∷ slice_index s i ∷ tops s i) e

drop_all : (l : List ℕ) (n : ℕ) → length l ≤ n → drop n l ≡ []
drop_all l n h = drop_of_length-le l h

drop_more : (s : List ℕ) (n h : ℕ) → suc h ≤ suc n → (suc h ≤ n → drop (n - suc h) (tops s n) ≡ tops s (suc h)) → (h < n) ⊎ (n ≤ h) → drop (suc n - suc h) (tops s (suc n)) ≡ tops s (suc h)
drop_more s n h le ih (inl lt) =
    let e : suc n - suc h ≡ suc (n - suc h) = omega arith in
    rw e (ih (omega arith))
drop_more s n h le ih (inr ge) =
    let e : suc n - suc h ≡ 0 = omega arith in
    let f : h ≡ n = omega arith in
    rw (e, f) refl

pub tops_drop : (s : List ℕ) (n h : ℕ) → h ≤ n → drop (n - h) (tops s n) ≡ tops s h
tops_drop s zero h le = let e : h ≡ 0 = omega arith in rw e refl
tops_drop s (suc n) zero le =
    let e : suc n - 0 ≡ suc n = omega arith in
    rw e (drop_all (tops s n) n (omega (arith, length_tops s n)))
tops_drop s (suc n) (suc h) le = drop_more s n h le (λ lt. tops_drop s n (suc h) lt) (cases_lt h n)

-- the operands cut to a height
pub cut_none : (s : List ℕ) (n h : ℕ) → h ≤ n → tops s h ≡ slide 0 h (tops s n)
cut_none s n h le = rw (length_tops s n) (sym (tops_drop s n h le))

pub cut_one : (s : List ℕ) (n h : ℕ) → h < n → n ≤ length s → tops (slice_set s h (slice_index s (n - 1))) (h + 1) ≡ slide 1 h (tops s n)
cut_one s n h lt within =
    let a : tops (slice_set s h (slice_index s (n - 1))) (h + 1) ≡ slice_index s (n - 1) ∷ tops s h = tops_put s h (slice_index s (n - 1)) (omega arith) in
    let b : tops s n ≡ slice_index s (n - 1) ∷ tops s (n - 1) = tops_one s n (omega arith) in
    let d : take 1 (tops s n) ≡ slice_index s (n - 1) ∷ [] = rw b refl in
    let e : drop (length (tops s n) - h) (tops s n) ≡ tops s h = rw (length_tops s n) (tops_drop s n h (omega arith)) in
    a ∙ sym (ap (λ t. t ++ drop (length (tops s n) - h) (tops s n)) d ∙ ap (λ t. slice_index s (n - 1) ∷ t) e)
