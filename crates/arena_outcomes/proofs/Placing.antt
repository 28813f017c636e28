-- Lists with another item at a place.
use Rattle.std.proofs.Common.{◌≡◌, ℕ, zero, suc, ◌+◌, ◌<◌, ◌≤◌, List, [], ◌∷◌, ◌++◌, length, get_or, set, take, Bool, false, Some, add-one, arith, refl, sym, ap, ap₂, ◌∙◌}
use Rattle.std.specs.Prelude.{◌||◌, slice_get}
use Rattle.std.specs.List.{list_any}
use Rattle.std.proofs.Math.Seq.{take-suc}
use Rattle.std.proofs.lemmas.List.Folds.{list_any-append}
use Rattle.arena_actors.specs.declared.actor.Filled.{Filled}
use Rattle.arena_actors.specs.declared.actor.Made.{Made}
use Rattle.arena_outcomes.specs.Books.{state_set}

-- the items before and this one
pub take_read : {A : Type 0} (xs : List A) (i : ℕ) (x : A) → i < length xs → x ≡ get_or xs i x → take (i + 1) xs ≡ take i xs ++ x ∷ []
take_read {A = A} xs i x h is = ap (λ (n : ℕ). take n xs) (add-one i) ∙ take-suc xs i x h ∙ ap (λ (y : A). take i xs ++ y ∷ []) (sym is)

-- none of the items before passes, nor does this one
pub any_next : {A : Type 0} (p : A → Bool) (xs : List A) (i : ℕ) (x : A) → i < length xs → x ≡ get_or xs i x → p x ≡ false → list_any p (take i xs) ≡ false → list_any p (take (i + 1) xs) ≡ false
any_next {A = A} p xs i x h is missed none =
    ap (λ (l : List A). list_any p l) (take_read xs i x h is)
    ∙ list_any-append p (take i xs) (x ∷ [])
    ∙ ap₂ (λ (a b : Bool). a || (b || false)) none missed

-- the last one in another state
pub set_last : {A : Type 0} (xs : List A) (x y : A) → set (xs ++ x ∷ []) (length xs) y ≡ xs ++ y ∷ []
set_last [] x y = refl
set_last {A = A} (z ∷ xs) x y = ap (λ (l : List A). z ∷ l) (set_last xs x y)

pub get_last : {A : Type 0} (xs : List A) (x : A) → slice_get (xs ++ x ∷ []) (length xs) ≡ Some x
get_last [] x = refl
get_last (z ∷ xs) x = get_last xs x

pub set_twice : {A : Type 0} (xs : List A) (i : ℕ) (x y : A) → set (set xs i x) i y ≡ set xs i y
set_twice [] i x y = refl
set_twice (z ∷ xs) zero x y = refl
set_twice {A = A} (z ∷ xs) (suc i) x y = ap (λ (l : List A). z ∷ l) (set_twice xs i x y)

-- ---- calls in another state

pub state_set_there : (ms : List Made) (i : ℕ) (m : Made) (s : Filled) → i < length ms → m ≡ get_or ms i m → set ms i (record m { state = s }) ≡ state_set ms i s
state_set_there [] i m s h is = absurd (omega (arith, h))
state_set_there (x ∷ ms) zero m s h is = ap (λ (y : Made). record y { state = s } ∷ ms) is
state_set_there (x ∷ ms) (suc i) m s h is = ap (λ (l : List Made). x ∷ l) (state_set_there ms i m s (omega (arith, h)) is)

pub state_set_beyond : (ms : List Made) (i : ℕ) (s : Filled) → length ms ≤ i → ms ≡ state_set ms i s
state_set_beyond [] i s h = refl
state_set_beyond (x ∷ ms) zero s h = absurd (omega (arith, h))
state_set_beyond (x ∷ ms) (suc i) s h = ap (λ (l : List Made). x ∷ l) (state_set_beyond ms i s (omega (arith, h)))
