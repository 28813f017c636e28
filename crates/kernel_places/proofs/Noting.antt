-- The functions in which a name occurs.
use Rattle.std.proofs.Common.{◌≡◌, ℕ, zero, suc, ◌+◌, ◌<◌, ◌≤◌, Bool, true, false, List, [], ◌∷◌, ◌++◌, ◌⊎◌, length, cond, refl, sym, ap, ◌∙◌, subst, Result, Ok, Err, OnOk, append-nil, nat_eq, arith}
use Rattle.std.specs.Str.{bytes_eq}
use Rattle.std.proofs.Math.Logic.{⊎_elim}
use Rattle.std.proofs.Math.Nat.{eq-or-lt_of_le}
use Rattle.std.proofs.lemmas.List.Folds.{list_any-append}
use Rattle.typing_rules.specs.AbstractSyntax.{Bytes}
use Rattle.typed_tree.specs.Placing.{Declared, is_among, is_function}
use Rattle.kernel_places.specs.Reaching.{at}
use Rattle.kernel_places.specs.Using.{is_in, once_each, uses_in, uses_below, Uses}
use Rattle.kernel_places.proofs.Having.{false_true, is_within, itself, or_cases, or_left, or_right, same}

-- ---- numbers in lists

pub in_left : (xs ys : List ℕ) (k : ℕ) → is_in k xs ≡ true → is_in k (xs ++ ys) ≡ true
in_left xs ys k h = list_any-append (λ j. nat_eq j k) xs ys ∙ or_left (is_in k xs) (is_in k ys) h

pub in_right : (xs ys : List ℕ) (k : ℕ) → is_in k ys ≡ true → is_in k (xs ++ ys) ≡ true
in_right xs ys k h = list_any-append (λ j. nat_eq j k) xs ys ∙ or_right (is_in k xs) (is_in k ys) h

pub in_cases : (xs ys : List ℕ) (k : ℕ) → is_in k (xs ++ ys) ≡ true → (is_in k xs ≡ true) ⊎ (is_in k ys ≡ true)
in_cases xs ys k h = or_cases (is_in k xs) (is_in k ys) (sym (list_any-append (λ j. nat_eq j k) xs ys) ∙ h)

pub same_number : (a b : ℕ) → nat_eq a b ≡ true → a ≡ b
same_number a b h = grind arith

pub number_itself : (a : ℕ) → nat_eq a a ≡ true
number_itself a = grind arith

pub in_one : (k : ℕ) → is_in k (k ∷ []) ≡ true
in_one k = or_left (nat_eq k k) false (number_itself k)

pub is_one_number : (j k : ℕ) → is_in k (j ∷ []) ≡ true → k ≡ j
is_one_number j k h = ⊎_elim (λ q. sym (same_number j k q)) (λ q. false_true q) (or_cases (nat_eq j k) false h)

-- ---- where a name occurs

once_has : (n : ℕ) (occurs : List Bytes) (x : Bytes) (k : ℕ) → is_in k (once_each n occurs x) ≡ true → (k ≡ n) × (is_among x occurs ≡ true)
once_has n [] x k h = false_true h
once_has n (o ∷ os) x k h = by (bytes_eq o x) refl (λ q. let w = once_has n os x k q in (w.0, or_right (bytes_eq x o) (is_among x os) w.1)) h where
  by : (b : Bool) → bytes_eq o x ≡ b → (is_in k (once_each n os x) ≡ true → (k ≡ n) × (is_among x (o ∷ os) ≡ true)) → is_in k (cond b (n ∷ []) [] ++ once_each n os x) ≡ true
      → (k ≡ n) × (is_among x (o ∷ os) ≡ true)
  by true e r h =
      ⊎_elim (λ q. (is_one_number n k q, or_left (bytes_eq x o) (is_among x os) (ap (λ z. bytes_eq x z) (same o x e) ∙ itself x))) r (in_cases (n ∷ []) (once_each n os x) k h)
  by false e r h = r h

once_all : (n : ℕ) (occurs : List Bytes) (x : Bytes) → is_among x occurs ≡ true → is_in n (once_each n occurs x) ≡ true
once_all n [] x h = false_true h
once_all n (o ∷ os) x h =
    ⊎_elim
    (λ q. let e : bytes_eq o x ≡ true = ap (λ z. bytes_eq z x) (sym (same x o q)) ∙ itself x in
    ap (λ (b : Bool). is_in n (cond b (n ∷ []) [] ++ once_each n os x)) e ∙ in_left (n ∷ []) (once_each n os x) n (in_one n))
    (λ q. in_right (cond (bytes_eq o x) (n ∷ []) []) (once_each n os x) n (once_all n os x q))
    (or_cases (bytes_eq x o) (is_among x os) h)

in_has : (n : ℕ) (ds : List Declared) (x : Bytes) (k : ℕ) → is_in k (uses_in n (at ds n) x) ≡ true → Uses ds k x
in_has n ds x k h = by (is_function (at ds n)) refl h where
  by : (b : Bool) → is_function (at ds n) ≡ b → is_in k (cond b (once_each n (at ds n).occurs x) []) ≡ true → Uses ds k x
  by true e h =
      let w = once_has n (at ds n).occurs x k h in
      record { function = ap (λ (z : ℕ). is_function (at ds z)) w.0 ∙ e; occurs = ap (λ (z : ℕ). is_among x (at ds z).occurs) w.0 ∙ w.1 }
  by false e h = false_true h

pub uses_has : (n : ℕ) (ds : List Declared) (x : Bytes) (k : ℕ) → is_in k (uses_below n ds x) ≡ true → Uses ds k x
uses_has zero ds x k h = false_true h
uses_has (suc n) ds x k h = ⊎_elim (λ q. uses_has n ds x k q) (λ q. in_has n ds x k q) (in_cases (uses_below n ds x) (uses_in n (at ds n) x) k h)

in_all : (ds : List Declared) (x : Bytes) (k : ℕ) → Uses ds k x → is_in k (uses_in k (at ds k) x) ≡ true
in_all ds x k u = ap (λ (b : Bool). is_in k (cond b (once_each k (at ds k).occurs x) [])) u.function ∙ once_all k (at ds k).occurs x u.occurs

uses_before : (n : ℕ) (ds : List Declared) (x : Bytes) (k : ℕ) → k < n → Uses ds k x → is_in k (uses_below n ds x) ≡ true
uses_before zero ds x k l u = absurd (omega arith)
uses_before (suc n) ds x k l u =
    let h : k ≤ n = omega arith in
    ⊎_elim (λ e. in_right (uses_below n ds x) (uses_in n (at ds n) x) k (subst (λ (z : ℕ). is_in k (uses_in z (at ds z) x) ≡ true) e (in_all ds x k u)))
    (λ lt. in_left (uses_below n ds x) (uses_in n (at ds n) x) k (uses_before n ds x k lt u)) (eq-or-lt_of_le h)

pub uses_all : (ds : List Declared) (x : Bytes) (k : ℕ) → Uses ds k x → is_in k (uses_below (length ds) ds x) ≡ true
uses_all ds x k u = uses_before (length ds) ds x k (is_within ds k u.function) u

-- ---- what stands at a name

chosen : (b : Bool) (old here more : List ℕ) → (b ≡ true → here ≡ old) → cond b (here ++ more) (cond b [] old) ≡ old ++ cond b more []
chosen true old here more e = ap (λ t. t ++ more) (e refl)
chosen false old here more e = sym (append-nil old)

pub same_bytes : (x y : List ℕ) → bytes_eq x y ≡ true → x ≡ y
same_bytes x y h = same x y h

-- where what stood at the key was taken away, and put back with more
pub added : {A E : Type 0} (r : Result A E) (key name x : List ℕ) (old mid new here put more : List ℕ) → key ≡ name → put ≡ here ++ more → (bytes_eq key x ≡ true → here ≡ old)
    → mid ≡ cond (bytes_eq key x) [] old → OnOk r (new ≡ cond (bytes_eq key x) put mid) → OnOk r (new ≡ old ++ cond (bytes_eq name x) more [])
added (Ok a) key name x old mid new here put more k p e m n =
    n ∙ (ap (λ t. cond (bytes_eq key x) t mid) p ∙ (ap (λ t. cond (bytes_eq key x) (here ++ more) t) m
    ∙ (chosen (bytes_eq key x) old here more e ∙ ap (λ z. old ++ cond (bytes_eq z x) more []) k)))
added (Err a) key name x old mid new here put more k p e m n = tt

-- with one more declaration
pub uses_next : (n : ℕ) (ds : List Declared) (x : Bytes) → uses_below (n + 1) ds x ≡ uses_below n ds x ++ uses_in n (at ds n) x
uses_next n ds x = let e : n + 1 ≡ suc n = omega arith in ap (λ (m : ℕ). uses_below m ds x) e
