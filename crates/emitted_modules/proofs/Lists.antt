-- Lists, read at places.
use Rattle.std.proofs.Common.{◌≡◌, ℕ, zero, suc, ◌+◌, ◌<◌, ◌≤◌, List, [], ◌∷◌, ◌++◌, length, map, Bool, true, false, ◌&&◌, Option, Some, None, slice_get, refl, sym, ap, ◌∙◌, arith}
use Rattle.low_ir.specs.Numbering.{upto}

pub first : (a b : Bool) → (a && b) ≡ true → a ≡ true
first true b e = refl
first false b e = absurd (cc)

pub second : (a b : Bool) → (a && b) ≡ true → b ≡ true
second true b e = e
second false b e = absurd (cc)

pub get_front : {A : Type 0} → (xs ys : List A) (k : ℕ) (x : A) → slice_get xs k ≡ Some x → slice_get (xs ++ ys) k ≡ Some x
get_front [] ys k x e = absurd (cc)
get_front (y ∷ xs) ys zero x e = e
get_front (y ∷ xs) ys (suc k) x e = get_front xs ys k x e

pub get_behind : {A : Type 0} → (xs ys : List A) (k : ℕ) → slice_get (xs ++ ys) (length xs + k) ≡ slice_get ys k
get_behind [] ys k = ap (slice_get ys) (omega arith)
get_behind (x ∷ xs) ys k = let next : suc (length xs) + k ≡ suc (length xs + k) = omega arith in ap (slice_get (x ∷ (xs ++ ys))) next ∙ get_behind xs ys k

pub get_map : {A B : Type 0} → (f : A → B) (xs : List A) (k : ℕ) (x : A) → slice_get xs k ≡ Some x → slice_get (map f xs) k ≡ Some (f x)
get_map f [] k x e = absurd (cc)
get_map f (y ∷ xs) zero x e = let same : y ≡ x = cc in ap (λ z. Some (f z)) same
get_map f (y ∷ xs) (suc k) x e = get_map f xs k x e

pub get_upto : (from n k : ℕ) → k < n → slice_get (upto from n) k ≡ Some (from + k)
get_upto from zero k lt = absurd (omega (arith, lt))
get_upto from (suc n) zero lt = ap Some (omega arith)
get_upto from (suc n) (suc k) lt = get_upto (suc from) n k (omega (arith, lt)) ∙ ap Some (omega arith)

pub length_upto : (from n : ℕ) → length (upto from n) ≡ n
length_upto from zero = refl
length_upto from (suc n) = ap suc (length_upto (suc from) n)
