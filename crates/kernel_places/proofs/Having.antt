-- The names and numbers that lists have.
use Rattle.std.proofs.Common.{◌≡◌, ℕ, zero, suc, ◌<◌, ◌≤◌, Bool, true, false, ◌||◌, List, [], ◌∷◌, ◌++◌, Option, Some, None, ◌⊎◌, inl, inr, length, get_or, refl, sym, ap, ◌∙◌, arith}
use Rattle.std.specs.Str.{bytes_eq}
use Rattle.std.proofs.Math.Logic.{⊎_elim}
use Rattle.std.proofs.lemmas.List.Folds.{list_any-append}
use Rattle.std.proofs.lemmas.Slice.Eq.{bytes_eq-Decides}
use Rattle.typing_rules.specs.AbstractSyntax.{Bytes}
use Rattle.typed_tree.specs.Placing.{Declared, is_among, is_function}
use Rattle.kernel_places.specs.Reaching.{at, nothing}

pub not_both : {A : Type 0} (b : Bool) → b ≡ true → b ≡ false → A
not_both b h k = let no : true ≡ false = sym h ∙ k in cc

pub false_true : {A : Type 0} → false ≡ true → A
false_true h = cc

pub decided : (b : Bool) → (b ≡ true) ⊎ (b ≡ false)
decided true = inl refl
decided false = inr refl

pub or_left : (a b : Bool) → a ≡ true → (a || b) ≡ true
or_left true b h = refl
or_left false b h = false_true h

pub or_right : (a b : Bool) → b ≡ true → (a || b) ≡ true
or_right true b h = refl
or_right false b h = h

pub or_cases : (a b : Bool) → (a || b) ≡ true → (a ≡ true) ⊎ (b ≡ true)
or_cases true b h = inl refl
or_cases false b h = inr h

pub same : (x y : Bytes) → bytes_eq x y ≡ true → x ≡ y
same x y h = (bytes_eq-Decides x y).0 h

pub itself : (x : Bytes) → bytes_eq x x ≡ true
itself x = (bytes_eq-Decides x x).1 refl

-- ---- names

pub has_left : (xs ys : List Bytes) (x : Bytes) → is_among x xs ≡ true → is_among x (xs ++ ys) ≡ true
has_left xs ys x h = list_any-append (λ y. bytes_eq x y) xs ys ∙ or_left (is_among x xs) (is_among x ys) h

pub has_right : (xs ys : List Bytes) (x : Bytes) → is_among x ys ≡ true → is_among x (xs ++ ys) ≡ true
has_right xs ys x h = list_any-append (λ y. bytes_eq x y) xs ys ∙ or_right (is_among x xs) (is_among x ys) h

pub has_cases : (xs ys : List Bytes) (x : Bytes) → is_among x (xs ++ ys) ≡ true → (is_among x xs ≡ true) ⊎ (is_among x ys ≡ true)
has_cases xs ys x h = or_cases (is_among x xs) (is_among x ys) (sym (list_any-append (λ y. bytes_eq x y) xs ys) ∙ h)

pub has_one : (x : Bytes) → is_among x (x ∷ []) ≡ true
has_one x = or_left (bytes_eq x x) false (itself x)

-- the one name
pub is_one : (x y : Bytes) → is_among x (y ∷ []) ≡ true → x ≡ y
is_one x y h = ⊎_elim (λ q. same x y q) (λ q. false_true q) (or_cases (bytes_eq x y) false h)

pub has_at : (xs : List Bytes) (n : ℕ) → n < length xs → is_among (get_or xs n []) xs ≡ true
has_at [] n h = absurd (omega arith)
has_at (x ∷ xs) zero h = or_left (bytes_eq x x) (is_among x xs) (itself x)
has_at (x ∷ xs) (suc n) h = or_right (bytes_eq (get_or xs n []) x) (is_among (get_or xs n []) xs) (has_at xs n (omega arith))

-- ---- declarations

pub function_is : (d : Declared) (f : Bytes) → d.function ≡ Some f → is_function d ≡ true
function_is d f h = rw h refl

pub has_name : (d : Declared) → is_function d ≡ true → (f : Bytes) × (d.function ≡ Some f)
has_name d h = by d.function refl h where
  by : (o : Option Bytes) → d.function ≡ o → is_function d ≡ true → (f : Bytes) × (d.function ≡ Some f)
  by None e k = let z : is_function d ≡ false = rw e refl in not_both (is_function d) k z
  by (Some f) e k = (f, e)

-- the declaration at an index
at_is : (ds : List Declared) (k : ℕ) (d : Declared) → k < length ds → d ≡ get_or ds k d → d ≡ at ds k
at_is [] k d h e = absurd (omega arith)
at_is (x ∷ ds) zero d h e = e
at_is (x ∷ ds) (suc k) d h e = at_is ds k d (omega arith) e

pub defines_is : (ds : List Declared) (k : ℕ) (d : Declared) → k < length ds → d ≡ get_or ds k d → d.defines ≡ (at ds k).defines
defines_is ds k d h e = ap (λ (w : Declared). w.defines) (at_is ds k d h e)

pub at_end : (ds : List Declared) (k : ℕ) → length ds ≤ k → at ds k ≡ nothing
at_end [] k h = refl
at_end (d ∷ ds) zero h = absurd (omega arith)
at_end (d ∷ ds) (suc k) h = at_end ds k (omega arith)

-- what is a function stands in the list
pub is_within : (ds : List Declared) (k : ℕ) → is_function (at ds k) ≡ true → k < length ds
is_within [] k h = false_true h
is_within (d ∷ ds) zero h = omega arith
is_within (d ∷ ds) (suc k) h = let z : k < length ds = is_within ds k h in omega arith
