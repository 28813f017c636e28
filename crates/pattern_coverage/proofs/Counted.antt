-- A literal that is none of these is found exactly where there is one.
use Rattle.std.proofs.Common.{◌≡◌, ◌⊎◌, inl, inr, ℕ, zero, suc, ◌<◌, ◌≤◌, List, [], ◌∷◌, length, Bool, true, false, arith, refl, sym, ap, ◌∙◌, subst}
use Rattle.std.specs.Prelude.{◌||◌, cond}
use Rattle.std.proofs.lemmas.Bool.{or_right}
use Rattle.mo_types.specs.declared.datum.Datum.{Datum}
use Rattle.mo_types.specs.declared.node.Node.{Node}
use Rattle.mo_types.specs.declared.node.TypeId.{TypeId}
use Rattle.mo_types.specs.Sub.{Each}
use Rattle.mo_values.specs.Parts.{is_leaf_of, same_part}
use Rattle.pattern_coverage.specs.Leaves.{is_among, without, leaf_at, is_literal_number, first_free, remains}
use Rattle.pattern_coverage.proofs.Numbered.{not_same, apart, numbered, literal_is, literal_counted, below_literal}
use Rattle.pattern_coverage.proofs.Same.{part_same}
use Rattle.pattern_coverage.proofs.Seen.{is_counted}

none_of : (b c : Bool) → (b || c) ≡ false → (b ≡ false) × (c ≡ false)
none_of true c e = cc
none_of false c e = (refl, e)

-- none of these
abbrev pub IsNone : Datum → List Datum → Type 0
IsNone c ds = Each (λ d. same_part d c ≡ false) ds

pub among_none : (c : Datum) (ds : List Datum) → is_among c ds ≡ false → IsNone c ds
among_none c [] e = tt
among_none c (d ∷ ds) e = let b = none_of (same_part d c) (is_among c ds) e in (b.0, among_none c ds b.1)

pub none_among : (c : Datum) (ds : List Datum) → IsNone c ds → is_among c ds ≡ false
none_among c [] h = refl
none_among c (d ∷ ds) h = ap (λ b. b || is_among c ds) h.0 ∙ none_among c ds h.1

still : (c d : Datum) (ds : List Datum) → is_among d (without c ds) ≡ true → is_among d ds ≡ true
still c d [] e = e
still c d (y ∷ ys) e = by (same_part y c) (same_part y d) e (still c d ys)
  where
    by : (b a : Bool) → is_among d (cond b ys (y ∷ without c ys)) ≡ true → (is_among d (without c ys) ≡ true → is_among d ys ≡ true) → (same_part y d || is_among d ys) ≡ true
    by true a e k = or_right (same_part y d) (is_among d ys) e
    by false a e k = later (same_part y d) e
      where
        later : (b : Bool) → (b || is_among d (without c ys)) ≡ true → (b || is_among d ys) ≡ true
        later true e = refl
        later false e = k e

gone : (c d : Datum) (ds : List Datum) → same_part c d ≡ false → is_among d (without c ds) ≡ false → is_among d ds ≡ false
gone c d [] a e = e
gone c d (y ∷ ys) a e = by (same_part y c) refl e (gone c d ys a)
  where
    by : (b : Bool) → same_part y c ≡ b → is_among d (cond b ys (y ∷ without c ys)) ≡ false → (is_among d (without c ys) ≡ false → is_among d ys ≡ false) → (same_part y d || is_among d ys) ≡ false
    by true q e k = ap (λ b. b || is_among d ys) (subst (λ z. same_part z d ≡ false) (sym (part_same y c q)) a) ∙ e
    by false q e k = let b = none_of (same_part y d) (is_among d (without c ys)) e in ap (λ b. b || is_among d ys) b.0 ∙ k b.1

shorter : (c : Datum) (ds : List Datum) → is_among c ds ≡ true → suc (length (without c ds)) ≡ length ds
shorter c [] e = cc
shorter c (y ∷ ys) e = by (same_part y c) e (shorter c ys)
  where
    by : (b : Bool) → (b || is_among c ys) ≡ true → (is_among c ys ≡ true → suc (length (without c ys)) ≡ length ys) → suc (length (cond b ys (y ∷ without c ys))) ≡ suc (length ys)
    by true e k = refl
    by false e k = ap suc (k e)

-- from number i on, number r is the first that is free
record IsFree (x : Node TypeId) (i r : ℕ) (ds : List Datum) : Type 0 where
  from : i ≤ r
  before : (j : ℕ) → i ≤ j → j < r → is_among (leaf_at x j) ds ≡ true
  free : is_literal_number x r ≡ true → is_among (leaf_at x r) ds ≡ false

apart_parts : (x : Node TypeId) (i j : ℕ) → i < j → is_literal_number x j ≡ true → same_part (leaf_at x i) (leaf_at x j) ≡ false
apart_parts x i j l h = not_same (same_part (leaf_at x i) (leaf_at x j)) (λ e. apart x i j l h (part_same (leaf_at x i) (leaf_at x j) e))

next_before : (x : Node TypeId) (i r j : ℕ) (ds : List Datum) → is_among (leaf_at x i) ds ≡ true → IsFree x (suc i) r (without (leaf_at x i) ds) → i ≤ j → j < r → (i ≡ j) ⊎ (suc i ≤ j) → is_among (leaf_at x j) ds ≡ true
next_before x i r j ds e f a b (inl s) = subst (λ j. is_among (leaf_at x j) ds ≡ true) s e
next_before x i r j ds e f a b (inr s) = still (leaf_at x i) (leaf_at x j) ds (f.before j s b)

same_or_later : (i j : ℕ) → i ≤ j → (i ≡ j) ⊎ (suc i ≤ j)
same_or_later zero zero l = inl refl
same_or_later zero (suc j) l = inr (omega arith)
same_or_later (suc i) zero l = absurd (omega (arith, l))
same_or_later (suc i) (suc j) l = by (same_or_later i j (omega (arith, l)))
  where
    by : (i ≡ j) ⊎ (suc i ≤ j) → (suc i ≡ suc j) ⊎ (suc (suc i) ≤ suc j)
    by (inl e) = inl (ap suc e)
    by (inr h) = inr (omega (arith, h))

next_free : (x : Node TypeId) (i r : ℕ) (ds : List Datum) → is_among (leaf_at x i) ds ≡ true → IsFree x (suc i) r (without (leaf_at x i) ds) → IsFree x i r ds
next_free x i r ds e f =
    let l : suc i ≤ r = f.from in
    record {
      from = omega (arith, l);
      before = λ j a b. next_before x i r j ds e f a b (same_or_later i j a);
      free = λ h. gone (leaf_at x i) (leaf_at x r) ds (apart_parts x i r (omega (arith, l)) h) (f.free h);
    }

here_free : (x : Node TypeId) (i : ℕ) (ds : List Datum) → is_among (leaf_at x i) ds ≡ false → IsFree x i i ds
here_free x i ds e = record { from = omega arith; before = λ j a b. absurd (omega (arith, a, b)); free = λ h. e }

empty_free : (x : Node TypeId) (i : ℕ) (ds : List Datum) → length ds ≤ 0 → is_among (leaf_at x i) ds ≡ false
empty_free x i [] l = refl
empty_free x i (d ∷ ds) l = absurd (omega (arith, l))

first_is_free : (x : Node TypeId) (n i : ℕ) (ds : List Datum) → length ds ≤ n → IsFree x i (first_free x n i ds) ds
first_is_free x zero i ds l = here_free x i ds (empty_free x i ds l)
first_is_free x (suc n) i ds l = by (is_among (leaf_at x i) ds) refl (λ e. let s : suc (length (without (leaf_at x i) ds)) ≡ length ds = shorter (leaf_at x i) ds e in first_is_free x n (suc i) (without (leaf_at x i) ds) (omega (arith, l, s)))
  where
    by : (b : Bool) → is_among (leaf_at x i) ds ≡ b → (is_among (leaf_at x i) ds ≡ true → IsFree x (suc i) (first_free x n (suc i) (without (leaf_at x i) ds)) (without (leaf_at x i) ds))
        → IsFree x i (cond b (first_free x n (suc i) (without (leaf_at x i) ds)) i) ds
    by true e k = next_free x i (first_free x n (suc i) (without (leaf_at x i) ds)) ds e (k e)
    by false e k = here_free x i ds e

abbrev first : Node TypeId → List Datum → ℕ
first x ds = first_free x (length ds) 0 ds

found : (x : Node TypeId) (ds : List Datum) → IsFree x 0 (first x ds) ds
found x ds = first_is_free x (length ds) 0 ds (omega arith)

-- some literal of the type is none of these
pub remaining : (x : Node TypeId) (ds : List Datum) → remains x ds ≡ true → (d : Datum) × (is_leaf_of x d ≡ true) × IsNone d ds
remaining x ds e = (leaf_at x (first x ds), literal_is x (first x ds) e, among_none (leaf_at x (first x ds)) ds ((found x ds).free e))

pub remaining_counted : (x : Node TypeId) (ds : List Datum) → remains x ds ≡ true → is_counted x ≡ true
remaining_counted x ds e = literal_counted x (first x ds) e

less_or : (j r : ℕ) → (j < r) ⊎ (r ≤ j)
less_or j zero = inr (omega arith)
less_or zero (suc r) = inl (omega arith)
less_or (suc j) (suc r) = by (less_or j r)
  where
    by : (j < r) ⊎ (r ≤ j) → (suc j < suc r) ⊎ (suc r ≤ suc j)
    by (inl h) = inl (omega (arith, h))
    by (inr h) = inr (omega (arith, h))

pub remains_by : (x : Node TypeId) (d : Datum) (ds : List Datum) → is_counted x ≡ true → is_leaf_of x d ≡ true → IsNone d ds → remains x ds ≡ true
remains_by x d ds c e h = by (is_literal_number x (first x ds)) refl
  where
    by : (b : Bool) → is_literal_number x (first x ds) ≡ b → is_literal_number x (first x ds) ≡ true
    by true q = q
    by false q =
        let j = numbered x d (first x ds) c q e in
        elim (less_or j.0 (first x ds)) as (λ _. is_literal_number x (first x ds) ≡ true) [
          | inl l ↦ let p : is_among d ds ≡ true = subst (λ d. is_among d ds ≡ true) j.2 ((found x ds).before j.0 (omega arith) l) in let r : is_among d ds ≡ false = none_among d ds h in cc
          | inr l ↦ below_literal x (first x ds) j.0 l j.1
        ]
