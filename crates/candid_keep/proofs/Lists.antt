-- Lists item by item.
use Rattle.std.proofs.Common.{◌≡◌, ℕ, ◌+◌, ◌-◌, ◌<◌, ◌≤◌, List, ◌∷◌, [], ◌++◌, length, get_or, map, take, drop, Some, add-one, sym, ap, ◌∙◌, arith, length-drop}
use Rattle.std.specs.Prelude.{slice_get}
use Rattle.std.proofs.Math.Seq.{take-suc}
use Rattle.std.proofs.lemmas.List.{get_or-drop, map-append}
use Rattle.std.proofs.lemmas.Option.{get_or_from_slice_get, slice_get_within}

-- one item more
pub map_next : {A B : Type 0} (f : A → B) (xs : List A) (i : ℕ) (x : A) → i < length xs → x ≡ get_or xs i x → map f (take (i + 1) xs) ≡ map f (take i xs) ++ f x ∷ []
map_next {A = A} f xs i x below is =
    ap (λ (n : ℕ). map f (take n xs)) (add-one i)
    ∙ ap (map f) (take-suc xs i x below ∙ ap (λ (y : A). take i xs ++ y ∷ []) (sym is))
    ∙ map-append f (take i xs) (x ∷ [])

-- one item more behind the first eighteen
pub next_behind : {A B : Type 0} (f : A → B) (xs : List A) (n : ℕ) (x : A) → 18 ≤ n → Some x ≡ slice_get xs n → map f (take (n + 1 - 18) (drop 18 xs)) ≡ map f (take (n - 18) (drop 18 xs)) ++ f x ∷ []
next_behind {A = A} f xs n x past is =
    let i : ℕ = n - 18 in
    let count : n + 1 - 18 ≡ i + 1 = omega arith in
    let at : 18 + i ≡ n = omega arith in
    let below : i < length (drop 18 xs) = omega (arith, length-drop 18 xs, slice_get_within xs n x (sym is)) in
    ap (λ (k : ℕ). map f (take k (drop 18 xs))) count
    ∙ map_next f (drop 18 xs) i x below
    (sym (get_or_from_slice_get xs n x x (sym is)) ∙ ap (λ (k : ℕ). get_or xs k x) (sym at) ∙ sym (get_or-drop 18 xs i x))
