-- Where a number stands first in a list.
use Rattle.std.specs.Prelude.{ℕ, suc, List, [], ◌∷◌, Option, Some, None, cond, nat_eq}

abbrev pub place_from : ℕ → List ℕ → ℕ → Option ℕ
place_from n [] p = None
place_from n (k ∷ ks) p = cond (nat_eq k p) (Some n) (place_from (suc n) ks p)

abbrev pub first_place : List ℕ → ℕ → Option ℕ
first_place ks p = place_from 0 ks p
