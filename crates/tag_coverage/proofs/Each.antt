-- What holds of each of a list, and of what is given.
use Rattle.std.proofs.Common.{◌≡◌, ◌⊎◌, inl, inr, ℕ, zero, suc, ◌+◌, ◌<◌, List, [], ◌∷◌, ◌++◌, length, take, Result, Ok, Err, IfOk, Some, arith, refl, sym, ap, ◌∙◌, subst}
use Rattle.std.specs.Prelude.{slice_get}
use Rattle.std.proofs.Math.Seq.{take-append_seam}
use Rattle.mo_types.specs.Sub.{Each}

pub each_at : {A : Type 0} (P : A → Type 0) (xs : List A) (n : ℕ) (x : A) → slice_get xs n ≡ Some x → Each P xs → P x
each_at P [] n x g h = cc
each_at P (y ∷ xs) zero x g h = subst P (let e : y ≡ x = cc in e) h.0
each_at P (y ∷ xs) (suc n) x g h = each_at P xs n x g h.1

module _ {A : Type 0} (P : A → Type 0) where
  pub each_of_both : (xs ys : List A) → Each P xs → Each P ys → Each P (xs ++ ys)
  each_of_both [] ys h k = k
  each_of_both (x ∷ xs) ys h k = (h.0, each_of_both xs ys h.1 k)

  pub each_left : (xs ys : List A) → Each P (xs ++ ys) → Each P xs
  each_left [] ys h = tt
  each_left (x ∷ xs) ys h = (h.0, each_left xs ys h.1)

  pub each_right : (xs ys : List A) → Each P (xs ++ ys) → Each P ys
  each_right [] ys h = h
  each_right (x ∷ xs) ys h = each_right xs ys h.1

pub if_ok : {A E : Type 0} (r : Result A E) (P Q : A → Type 0) → ((a : A) → P a → Q a) → IfOk r P → IfOk r Q
if_ok (Ok a) P Q f h = f a h
if_ok (Err e) P Q f h = tt

-- all of a list that has so many
pub front : {A : Type 0} (n : ℕ) (xs ys : List A) → length xs ≡ n → take n (xs ++ ys) ≡ xs
front {A} n xs ys e = ap (λ (k : ℕ). take k (xs ++ ys)) (sym e) ∙ take-append_seam xs ys

-- one index further
pub further : {A : Type 0} (P : ℕ → A → Type 0) (xs : List A) (i : ℕ) (x : A) → ((n : ℕ) (y : A) → n < i → slice_get xs n ≡ Some y → P n y) → slice_get xs i ≡ Some x → P i x
    → (n : ℕ) (y : A) → n < i + 1 → slice_get xs n ≡ Some y → P n y
further P xs i x h e p n y l k = by (below n i l)
  where
    below : (n i : ℕ) → n < i + 1 → (n ≡ i) ⊎ (n < i)
    below zero zero l = inl refl
    below zero (suc i) l = inr (omega arith)
    below (suc n) zero l = absurd (omega (arith, l))
    below (suc n) (suc i) l = next (below n i (omega (arith, l)))
      where
        next : (n ≡ i) ⊎ (n < i) → (suc n ≡ suc i) ⊎ (suc n < suc i)
        next (inl q) = inl (ap suc q)
        next (inr q) = inr (omega (arith, q))

    by : (n ≡ i) ⊎ (n < i) → P n y
    by (inl q) =
        let z : Some x ≡ Some y = sym e ∙ ap (slice_get xs) (sym q) ∙ k in
        let s : x ≡ y = cc in
        subst (λ (m : ℕ). P m y) (sym q) (subst (P i) s p)
    by (inr q) = h n y q k
