-- The names that lists of names have.
use Rattle.std.proofs.Common.{◌≡◌, ℕ, Bool, true, false, ◌||◌, ◌++◌, [], ◌∷◌, List, refl, subst, IsTrue, inl, inr, ◌⊎◌, arith}
use Rattle.std.specs.Str.{bytes_eq}
use Rattle.std.proofs.Math.Logic.{⊎_elim}
use Rattle.std.proofs.lemmas.List.Folds.{list_any-append}
use Rattle.std.proofs.lemmas.Slice.Eq.{bytes_eq-Decides}
use Rattle.mo_scopes.specs.Findings.{Texts, contains}

-- what is false is not true
pub never : {A : Type 0} → IsTrue false → A
never h = let no : ⊥ = grind arith in absurd no

pub to_true : (b : Bool) → IsTrue b → b ≡ true
to_true b h = grind arith

pub of_true : (b : Bool) → b ≡ true → IsTrue b
of_true b h = grind arith

pub or_left : (a b : Bool) → IsTrue a → IsTrue (a || b)
or_left true b h = h
or_left false b h = grind arith

pub or_right : (a b : Bool) → IsTrue b → IsTrue (a || b)
or_right true b h = grind arith
or_right false b h = h

pub or_cases : (a b : Bool) → IsTrue (a || b) → IsTrue a ⊎ IsTrue b
or_cases true b h = inl h
or_cases false b h = inr h

pub has_left : (xs ys : Texts) (x : List ℕ) → IsTrue (contains xs x) → IsTrue (contains (xs ++ ys) x)
has_left xs ys x h = rw (list_any-append (λ y. bytes_eq x y) xs ys) (or_left _ _ h)

pub has_right : (xs ys : Texts) (x : List ℕ) → IsTrue (contains ys x) → IsTrue (contains (xs ++ ys) x)
has_right xs ys x h = rw (list_any-append (λ y. bytes_eq x y) xs ys) (or_right _ _ h)

pub has_cases : (xs ys : Texts) (x : List ℕ) → IsTrue (contains (xs ++ ys) x) → IsTrue (contains xs x) ⊎ IsTrue (contains ys x)
has_cases xs ys x h = or_cases _ _ (subst IsTrue (list_any-append (λ y. bytes_eq x y) xs ys) h)

pub has_one : (x : List ℕ) → IsTrue (contains (x ∷ []) x)
has_one x = or_left (bytes_eq x x) false (of_true (bytes_eq x x) ((bytes_eq-Decides x x).1 refl))

-- a test that holds names the same
same : (x y : List ℕ) → IsTrue (bytes_eq x y) → x ≡ y
same x y h = (bytes_eq-Decides x y).0 (to_true (bytes_eq x y) h)

-- the one name
pub is_one : (x y : List ℕ) → IsTrue (contains (y ∷ []) x) → x ≡ y
is_one x y h = ⊎_elim (λ q. same x y q) (λ q. never q) (or_cases (bytes_eq x y) false h)
