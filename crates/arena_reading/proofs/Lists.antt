-- Lists item by item.
use Rattle.std.proofs.Common.{◌≡◌, ℕ, zero, suc, ◌+◌, List, [], ◌∷◌, ◌++◌, take, drop, reverse, refl, sym, ap, ◌∙◌, add-one}

module _ {A : Type 0} where
  taken : (n : ℕ) (xs : List A) (v : A) (rest : List A) → drop n xs ≡ v ∷ rest → (take (suc n) xs ≡ take n xs ++ v ∷ []) × (drop (suc n) xs ≡ rest)
  taken zero [] v rest h = absurd (let e : [] ≡ v ∷ rest = h in cc)
  taken zero (x ∷ xs) v rest h = (let e : x ∷ xs ≡ v ∷ rest = h in let f : x ≡ v = cc in ap (λ (y : A). y ∷ []) f, let e : x ∷ xs ≡ v ∷ rest = h in cc)
  taken (suc n) [] v rest h = absurd (let e : [] ≡ v ∷ rest = h in cc)
  taken (suc n) (x ∷ xs) v rest h = let both = taken n xs v rest h in (ap (λ (l : List A). x ∷ l) both.0, both.1)

  over : (n : ℕ) (xs : List A) → drop n xs ≡ [] → (take (suc n) xs ≡ take n xs) × (drop (suc n) xs ≡ [])
  over zero [] h = (refl, refl)
  over zero (x ∷ xs) h = absurd (let e : x ∷ xs ≡ [] = h in cc)
  over (suc n) [] h = (refl, refl)
  over (suc n) (x ∷ xs) h = let both = over n xs h in (ap (λ (l : List A). x ∷ l) both.0, both.1)

  -- the last item is taken
  pub takes_last : (n : ℕ) (all inside more left values : List A) (v : A) → values ≡ left ++ v ∷ [] → more ≡ inside ++ v ∷ [] → reverse (left ++ v ∷ []) ≡ v ∷ reverse left → inside ≡ take n all → reverse values ≡ drop n all
      → (more ≡ take (n + 1) all) × (reverse left ≡ drop (n + 1) all)
  takes_last n all inside more left values v is put turned h k =
      let both = taken n all v (reverse left) (sym k ∙ ap reverse is ∙ turned) in
      (put ∙ ap (λ (l : List A). l ++ v ∷ []) h ∙ sym both.0 ∙ ap (λ (m : ℕ). take m all) (sym (add-one n)), sym both.1 ∙ ap (λ (m : ℕ). drop m all) (sym (add-one n)))

  -- there is none
  pub takes_none : (n : ℕ) (all inside left values : List A) → values ≡ [] → left ≡ [] → inside ≡ take n all → reverse values ≡ drop n all → (inside ≡ take (n + 1) all) × (reverse left ≡ drop (n + 1) all)
  takes_none n all inside left values none same h k =
      let both = over n all (sym k ∙ ap reverse none) in
      (h ∙ sym both.0 ∙ ap (λ (m : ℕ). take m all) (sym (add-one n)), ap reverse same ∙ sym both.1 ∙ ap (λ (m : ℕ). drop m all) (sym (add-one n)))
