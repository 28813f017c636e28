-- What is done with a value that may be missing, and with lists by place.
use Rattle.std.specs.Prelude.{ℕ, zero, suc, List, [], ◌∷◌, Bool, true, false, Option, Some, None}

-- where there is one, and else
abbrev pub on_some : {A B : Type 0} → B → Option A → (A → B) → B
on_some otherwise None f = otherwise
on_some otherwise (Some a) f = f a

-- the one or the other
abbrev pub choose : {A : Type 0} → Bool → A → A → A
choose true a b = a
choose false a b = b

module _ {A : Type 0} where
  -- what stands at a place, and else
  abbrev pub nth : A → List A → ℕ → A
  nth otherwise [] n = otherwise
  nth otherwise (x ∷ xs) zero = x
  nth otherwise (x ∷ xs) (suc n) = nth otherwise xs n

  -- with another at a place; a list that is too short is filled up
  abbrev pub filled : A → List A → ℕ → A → List A
  filled between [] zero v = v ∷ []
  filled between [] (suc n) v = between ∷ filled between [] n v
  filled between (x ∷ xs) zero v = v ∷ xs
  filled between (x ∷ xs) (suc n) v = x ∷ filled between xs n v
