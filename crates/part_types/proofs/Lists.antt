-- A list item by item.
use Rattle.std.proofs.Common.{◌≡◌, ℕ, zero, suc, ◌+◌, List, [], ◌∷◌, ◌++◌, refl, ap, ◌∙◌, add-one}
use Rattle.mo_types.specs.Values.{copies}

module _ {A : Type 0} where
  pub copies_more : (n : ℕ) (a : A) → copies (n + 1) a ≡ copies n a ++ a ∷ []
  copies_more n a = ap (λ (k : ℕ). copies k a) (add-one n) ∙ by n
    where
      by : (k : ℕ) → copies (suc k) a ≡ copies k a ++ a ∷ []
      by zero = refl
      by (suc k) = ap (λ (l : List A). a ∷ l) (by k)
