-- Lists from an index on.
use Rattle.std.proofs.Common.{◌≡◌, ◌∙◌, ℕ, zero, suc, ◌+◌, ◌<◌, ◌≤◌, List, [], ◌∷◌, length, drop, get_or, refl, sym, ap, arith, length-drop, drop-cons}
use Rattle.std.specs.Prelude.{Some, slice_get}
use Rattle.std.proofs.lemmas.List.{get_or-drop}
use Rattle.std.proofs.lemmas.Option.{slice_get-get_or}

module _ {A : Type 0} where
  abbrev behind_first : List A → List A
  behind_first [] = []
  behind_first (x ∷ xs) = xs

  pub drop_none : (xs : List A) → drop 0 xs ≡ xs
  drop_none [] = refl
  drop_none (x ∷ xs) = refl

  pub drop_all : (xs : List A) (n : ℕ) → length xs ≤ n → drop n xs ≡ []
  drop_all [] zero l = refl
  drop_all [] (suc n) l = refl
  drop_all (x ∷ xs) zero l = absurd (omega (arith, l))
  drop_all (x ∷ xs) (suc n) l = drop_all xs n (omega (arith, l))

  long : (xs : List A) (k : ℕ) (x : A) (rest : List A) → drop k xs ≡ x ∷ rest → k < length xs
  long xs k x rest e = let h : length (drop k xs) ≡ length (x ∷ rest) = ap length e in omega (arith, length-drop k xs, h)

  pub at_drop : (xs : List A) (k : ℕ) (x : A) (rest : List A) → drop k xs ≡ x ∷ rest → slice_get xs k ≡ Some x
  at_drop xs k x rest e =
      let l : k < length xs = long xs k x rest e in
      let n : k ≡ k + 0 = omega arith in
      slice_get-get_or xs k x l ∙ ap (λ (z : A). Some z) (ap (λ (j : ℕ). get_or xs j x) n ∙ (sym (get_or-drop k xs 0 x) ∙ ap (λ (z : List A). get_or z 0 x) e))

  pub behind_drop : (xs : List A) (k : ℕ) (x : A) (rest : List A) → drop k xs ≡ x ∷ rest → drop (suc k) xs ≡ rest
  behind_drop xs k x rest e = let l : k < length xs = long xs k x rest e in sym (ap behind_first (sym e ∙ drop-cons xs k x l))
