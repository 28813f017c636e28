-- Lists of places: without repetition, and within others.
use Rattle.std.proofs.Common.{◌≡◌, ℕ, suc, ◌≤◌, refl, sym, ap, ◌∙◌, subst, List, [], ◌∷◌, ◌++◌, length, Bool, true, false, arith as arithmetic, cond}
use Rattle.std.specs.Prelude.{cond, nat_eq}
use Rattle.std.proofs.lemmas.Bool.{eqb-true, eq-eqb}
use Rattle.core_ir.specs.Outward.{holds, distinct}
use Rattle.core_laws.proofs.FoundUses.{Within}

-- ---- lists without repetition are no longer than what they are within

abbrev pub Distinct : List ℕ → Type 0
Distinct [] = Unit {0}
Distinct (x ∷ xs) = (holds x xs ≡ false) × Distinct xs

remove : ℕ → List ℕ → List ℕ
remove x [] = []
remove x (z ∷ ms) = cond (nat_eq z x) ms (z ∷ remove x ms)

module _ (x : ℕ) where
  removed_length : (ms : List ℕ) → holds x ms ≡ true → length ms ≡ suc (length (remove x ms))
  unfolding remove
  removed_length [] h = absurd (let z : false ≡ true = h in cc)
  removed_length (z ∷ ms) h = by (nat_eq z x) h (removed_length ms)
    where
      by : (b : Bool) → cond b true (holds x ms) ≡ true → (holds x ms ≡ true → length ms ≡ suc (length (remove x ms))) → suc (length ms) ≡ suc (length (cond b ms (z ∷ remove x ms)))
      by true h f = refl
      by false h f = ap suc (f h)

  -- another one stays
  removed_keeps : (y : ℕ) (ms : List ℕ) → nat_eq x y ≡ false → holds y ms ≡ true → holds y (remove x ms) ≡ true
  unfolding remove
  removed_keeps y [] d h = absurd (let z : false ≡ true = h in cc)
  removed_keeps y (z ∷ ms) d h = by (nat_eq z x) refl h (removed_keeps y ms d)
    where
      same : nat_eq z x ≡ true → holds y (z ∷ ms) ≡ true → holds y ms ≡ true
      same e i = subst (λ b. cond b true (holds y ms) ≡ true) (ap (λ n. nat_eq n y) (eqb-true z x e) ∙ d) i

      kept : (b : Bool) → cond b true (holds y ms) ≡ true → (holds y ms ≡ true → holds y (remove x ms) ≡ true) → cond b true (holds y (remove x ms)) ≡ true
      kept true i f = refl
      kept false i f = f i

      by : (b : Bool) → nat_eq z x ≡ b → holds y (z ∷ ms) ≡ true → (holds y ms ≡ true → holds y (remove x ms) ≡ true) → holds y (cond b ms (z ∷ remove x ms)) ≡ true
      by true e i f = same e i
      by false e i f = kept (nat_eq z y) i f

absent : (x y : ℕ) (xs : List ℕ) → holds x xs ≡ false → holds y xs ≡ true → nat_eq x y ≡ false
absent x y xs h i = by (nat_eq x y) refl
  where
    by : (b : Bool) → nat_eq x y ≡ b → b ≡ false
    by false e = refl
    by true e = let z : false ≡ true = sym h ∙ ap (λ n. holds n xs) (eqb-true x y e) ∙ i in absurd (let w : false ≡ true = z in cc)

pub no_longer : (xs ms : List ℕ) → Distinct xs → Within xs ms → length xs ≤ length ms
no_longer [] ms d w = omega arithmetic
no_longer (x ∷ xs) ms d w =
    let has : holds x ms ≡ true = w x (ap (λ b. cond b true (holds x xs)) (eq-eqb x x refl)) in
    let rest = no_longer xs (remove x ms) (d.1) (λ y h. removed_keeps x y ms (absent x y xs (d.0) h) (w y (still (nat_eq x y) y h))) in
    let many = removed_length x ms has in
    omega (arithmetic, rest, many)
  where
    still : (b : Bool) (y : ℕ) → holds y xs ≡ true → cond b true (holds y xs) ≡ true
    still true y h = refl
    still false y h = h

pub pushed_distinct : (x : ℕ) (xs : List ℕ) → holds x xs ≡ false → Distinct xs → Distinct (xs ++ x ∷ [])
pushed_distinct x [] h d = (refl, tt)
pushed_distinct x (y ∷ xs) h d = by (nat_eq y x) refl h (λ i. pushed_distinct x xs i (d.1))
  where
    other : nat_eq y x ≡ false → (ys : List ℕ) → holds y ys ≡ false → holds y (ys ++ x ∷ []) ≡ false
    other e [] i = ap (λ b. cond b true false) (turned (nat_eq x y) refl)
      where
        turned : (b : Bool) → nat_eq x y ≡ b → b ≡ false
        turned false z = refl
        turned true z = let w : false ≡ true = sym e ∙ ap (λ n. nat_eq y n) (eqb-true x y z) ∙ eq-eqb y y refl in absurd (let v : false ≡ true = w in cc)
    other e (z ∷ ys) i = step (nat_eq z y) i (other e ys)
      where
        step : (b : Bool) → cond b true (holds y ys) ≡ false → (holds y ys ≡ false → holds y (ys ++ x ∷ []) ≡ false) → cond b true (holds y (ys ++ x ∷ [])) ≡ false
        step true i f = i
        step false i f = f i

    by : (b : Bool) → nat_eq y x ≡ b → cond b true (holds x xs) ≡ false → (holds x xs ≡ false → Distinct (xs ++ x ∷ [])) → Distinct (y ∷ (xs ++ x ∷ []))
    by true e i f = absurd (let v : true ≡ false = i in cc)
    by false e i f = (other e xs (d.0), f i)

-- ---- each place once

pub distinct_keeps : (y : ℕ) (ms : List ℕ) → holds y ms ≡ true → holds y (distinct ms) ≡ true
distinct_keeps y [] h = h
distinct_keeps y (z ∷ ms) h = by (holds z ms) refl (nat_eq z y) refl h (distinct_keeps y ms)
  where
    by : (a : Bool) → holds z ms ≡ a → (b : Bool) → nat_eq z y ≡ b → cond b true (holds y ms) ≡ true → (holds y ms ≡ true → holds y (distinct ms) ≡ true) → holds y (cond a (distinct ms) (z ∷ distinct ms)) ≡ true
    by true e true f h r = r (subst (λ n. holds n ms ≡ true) (eqb-true z y f) e)
    by true e false f h r = r h
    by false e true f h r = ap (λ b. cond b true (holds y (distinct ms))) f
    by false e false f h r = ap (λ b. cond b true (holds y (distinct ms))) f ∙ r h
