-- Lists that are made item by item.
use Rattle.std.proofs.Common.{◌≡◌, ◌∙◌, ℕ, zero, suc, ◌+◌, ◌<◌, List, [], ◌∷◌, ◌++◌, length, map, take, get_or, sym, ap, arith}

module _ {A B : Type 0} (f : A → B) where
  one_more : (xs : List A) (i : ℕ) (x : A) → i < length xs → x ≡ get_or xs i x → map f (take (suc i) xs) ≡ map f (take i xs) ++ f x ∷ []
  one_more [] i x l e = absurd (omega (arith, l))
  one_more (y ∷ xs) zero x l e = ap (λ (z : A). f z ∷ []) (sym e)
  one_more (y ∷ xs) (suc i) x l e = ap (λ (z : List B). f y ∷ z) (one_more xs i x (omega (arith, l)) e)

  pub pushed : (xs : List A) (i : ℕ) (x : A) (made more : List B) (y : B) → i < length xs → x ≡ get_or xs i x → made ≡ map f (take i xs) → y ≡ f x → more ≡ made ++ y ∷ [] → more ≡ map f (take (i + 1) xs)
  pushed xs i x made more y l e h g k =
      let n : suc i ≡ i + 1 = omega arith in
      k ∙ (ap (λ (z : List B). z ++ y ∷ []) h ∙ (ap (λ (z : B). map f (take i xs) ++ z ∷ []) g ∙ (sym (one_more xs i x l e) ∙ ap (λ (m : ℕ). map f (take m xs)) n)))
