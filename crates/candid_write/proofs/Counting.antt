-- How many classes there are.
use Rattle.std.proofs.Common.{◌≡◌, ℕ, zero, suc, ◌+◌, ◌<◌, ◌≤◌, ◌⊎◌, inl, inr, Bool, true, false, cond, List, [], ◌∷◌, ◌++◌, length, nat_eq, slice_index, refl, sym, ap, ◌∙◌, subst, arith, length-append}
use Rattle.std.proofs.lemmas.Bool.{cases_lt}
use Rattle.std.proofs.lemmas.List.{length-map}
use Rattle.std.specs.Global.{Vec}
use Rattle.std.specs.Cmp.{unsigned_Decides}
use Rattle.indexmap.proofs.IndexTableLemmas.Probe.{pigeonhole}
use Rattle.candid_write.specs.Rounds.{lists, has, PutsAt, Counts}
use Rattle.candid_write.proofs.PlaceLemmas.{get_or-append_front, get_or_pushed, place_new, IsPlace}

-- the first number with a class, or how many numbers there are
abbrev first_of : List ℕ → ℕ → ℕ
first_of [] j = 0
first_of (c ∷ cs) j = cond (nat_eq c j) 0 (suc (first_of cs j))

first_is : (cs : List ℕ) (j i : ℕ) → i < length cs → slice_index cs i ≡ j → (first_of cs j < length cs) × (slice_index cs (first_of cs j) ≡ j)
first_is [] j i h e = absurd (omega arith)
first_is (c ∷ cs) j i h e = by (nat_eq c j) refl i h e (first_is cs j)
  where
    by : (b : Bool) → nat_eq c j ≡ b → (i : ℕ) → i < suc (length cs) → slice_index (c ∷ cs) i ≡ j → ((k : ℕ) → k < length cs → slice_index cs k ≡ j → (first_of cs j < length cs) × (slice_index cs (first_of cs j) ≡ j))
        → (cond b 0 (suc (first_of cs j)) < suc (length cs)) × (slice_index (c ∷ cs) (cond b 0 (suc (first_of cs j))) ≡ j)
    by true f i h e k = (omega arith, (unsigned_Decides c j).0 f)
    by false f zero h e k = let t : nat_eq c j ≡ true = (unsigned_Decides c j).1 e in cc
    by false f (suc i) h e k = let r = k i (omega arith) e in (omega (arith, r.0), r.1)

module _ (classes : List ℕ) (count : ℕ) (c : Counts classes count) where
  first_at : (j : ℕ) → j < count → (first_of classes j < length classes) × (slice_index classes (first_of classes j) ≡ j)
  first_at j h = let o = c.onto j h in first_is classes j o.0 o.1 o.2

  -- no more classes than numbers
  pub at_most : count ≤ length classes
  at_most = pigeonhole count (length classes) (first_of classes) (λ j h. (first_at j h).0) (λ i j h k e. sym (first_at i h).1 ∙ ap (slice_index classes) e ∙ (first_at j k).1)

module _ (old new : List ℕ) (k m : ℕ) (c : Counts old k) (d : Counts new m) (long : length new ≡ length old)
    (finer : (a b : ℕ) → a < length old → b < length old → slice_index new a ≡ slice_index new b → slice_index old a ≡ slice_index old b) where
  abbrev class_of : ℕ → ℕ
  class_of j = slice_index new (first_of old j)

  class_into : (j : ℕ) → j < k → class_of j < m
  class_into j h = let f : first_of old j < length old = (first_at old k c j h).0 in d.within (first_of old j) (omega arith)

  class_one : (i j : ℕ) → i < k → j < k → class_of i ≡ class_of j → i ≡ j
  class_one i j h l e = sym (first_at old k c i h).1 ∙ finer (first_of old i) (first_of old j) (first_at old k c i h).0 (first_at old k c j l).0 e ∙ (first_at old k c j l).1

  -- a round does not make fewer
  pub no_fewer : k ≤ m
  no_fewer = pigeonhole k m class_of class_into class_one

  -- a class of the new ones, beside those of the first numbers of the old
  abbrev beside : ℕ → ℕ → ℕ
  beside other j = cond (nat_eq j k) other (class_of j)

  beside_last : (other : ℕ) → beside other k ≡ other
  beside_last other = ap (λ b. cond b other (class_of k)) ((unsigned_Decides k k).1 refl)

  beside_first : (other j : ℕ) → j < k → beside other j ≡ class_of j
  beside_first other j h = by (nat_eq j k) refl
    where
      by : (b : Bool) → nat_eq j k ≡ b → cond b other (class_of j) ≡ class_of j
      by true e = let f : j ≡ k = (unsigned_Decides j k).0 e in absurd (omega arith)
      by false e = refl

  beside_into : (a : ℕ) → a < length old → (j : ℕ) → (j < k) ⊎ (k ≤ j) → j < k + 1 → beside (slice_index new a) j < m
  beside_into a h j (inl l) n = let f = class_into j l in let e = beside_first (slice_index new a) j l in omega (arith, e, f)
  beside_into a h j (inr l) n =
      let e : j ≡ k = omega arith in
      let f : beside (slice_index new a) j ≡ slice_index new a = ap (beside (slice_index new a)) e ∙ beside_last (slice_index new a) in
      let g = d.within a (omega arith) in omega (arith, f, g)

  beside_one : (a : ℕ) → ((j : ℕ) → j < k → class_of j ≡ slice_index new a → ⊥) → (i j : ℕ) → (i < k) ⊎ (k ≤ i) → (j < k) ⊎ (k ≤ j) → i < k + 1 → j < k + 1 → beside (slice_index new a) i ≡ beside (slice_index new a) j → i ≡ j
  beside_one a none i j (inl l) (inl n) p q e = class_one i j l n (sym (beside_first (slice_index new a) i l) ∙ e ∙ beside_first (slice_index new a) j n)
  beside_one a none i j (inl l) (inr n) p q e =
      let f : j ≡ k = omega arith in
      absurd (none i l (sym (beside_first (slice_index new a) i l) ∙ e ∙ ap (beside (slice_index new a)) f ∙ beside_last (slice_index new a)))
  beside_one a none i j (inr l) (inl n) p q e =
      let f : i ≡ k = omega arith in
      absurd (none j n (sym (beside_first (slice_index new a) j n) ∙ sym e ∙ ap (beside (slice_index new a)) f ∙ beside_last (slice_index new a)))
  beside_one a none i j (inr l) (inr n) p q e = omega arith

  -- were a number's new class not that of the first number of its old class, there would be a class more
  one_more : (a : ℕ) → a < length old → ((j : ℕ) → j < k → class_of j ≡ slice_index new a → ⊥) → k + 1 ≤ m
  one_more a h none = pigeonhole (k + 1) m (beside (slice_index new a)) (λ j n. beside_into a h j (cases_lt j k) n) (λ i j p q e. beside_one a none i j (cases_lt i k) (cases_lt j k) p q e)

  other_first : (a : ℕ) → a < length old → nat_eq (class_of (slice_index old a)) (slice_index new a) ≡ false → (j : ℕ) → j < k → class_of j ≡ slice_index new a → ⊥
  other_first a h f j l g =
      let s = first_at old k c j l in
      let o : j ≡ slice_index old a = sym s.1 ∙ finer (first_of old j) a s.0 h g in
      let t : nat_eq (class_of (slice_index old a)) (slice_index new a) ≡ true = (unsigned_Decides (class_of (slice_index old a)) (slice_index new a)).1 (ap class_of (sym o) ∙ g) in
      cc

  -- where there are as many, a number's new class is that of the first number of its old class
  same_first : k ≡ m → (a : ℕ) → a < length old → class_of (slice_index old a) ≡ slice_index new a
  same_first e a h = by (nat_eq (class_of (slice_index old a)) (slice_index new a)) refl
    where
      by : (b : Bool) → nat_eq (class_of (slice_index old a)) (slice_index new a) ≡ b → class_of (slice_index old a) ≡ slice_index new a
      by true f = (unsigned_Decides (class_of (slice_index old a)) (slice_index new a)).0 f
      by false f = let n = one_more a h (other_first a h f) in absurd (omega (arith, n, e))

  -- and so numbers of one old class have one new class
  pub as_many : k ≡ m → (a b : ℕ) → a < length old → b < length old → slice_index old a ≡ slice_index old b → slice_index new a ≡ slice_index new b
  as_many e a b h l f = sym (same_first e a h) ∙ ap class_of f ∙ same_first e b l

-- ---- the classes of a round

-- each place below the count is that of some number
abbrev pub Onto : ℕ → List ℕ → ℕ → Type 0
Onto count next n = (j : ℕ) → j < count → (i : ℕ) × (i < n) × (slice_index next i ≡ j)

onto_kept : (count at : ℕ) (next : List ℕ) (n : ℕ) → length next ≡ n → Onto count next n → Onto count (next ++ at ∷ []) (n + 1)
onto_kept count at next n l o j h = let k = o j h in (k.0, omega (arith, k.1), get_or-append_front next (at ∷ []) k.0 0 (omega (arith, k.1)) ∙ k.2)

pub onto_more : (old new : List (List ℕ)) (s : List ℕ) (next : List ℕ) (n at : ℕ) → length next ≡ n → Onto (length old) next n → PutsAt old s at new → Onto (length new) (next ++ at ∷ []) (n + 1)
onto_more old new s next n at l o p = subst (λ ts. Onto (length ts) (next ++ at ∷ []) (n + 1)) (sym p.lists) (by (has old s) refl)
  where
    last : has old s ≡ false → (j : ℕ) → (j < length old) ⊎ (length old ≤ j) → j < length old + 1 → (i : ℕ) × (i < n + 1) × (slice_index (next ++ at ∷ []) i ≡ j)
    last e j (inl h) k = onto_kept (length old) at next n l o j h
    last e j (inr h) k =
        let f : j ≡ length old = omega arith in
        (n, omega arith, ap (λ z. slice_index (next ++ at ∷ []) z) (sym l) ∙ get_or_pushed next at 0 ∙ p.place ∙ (place_new old s e).1 ∙ sym f)

    by : (b : Bool) → has old s ≡ b → Onto (length (cond b old (old ++ s ∷ []))) (next ++ at ∷ []) (n + 1)
    by true e = onto_kept (length old) at next n l o
    by false e = λ j h. let k : length (old ++ s ∷ []) ≡ length old + 1 = length-append old (s ∷ []) in last e j (cases_lt j (length old)) (omega arith)

-- the places of a round are its classes
pub counted : (f : ℕ → List ℕ) (keys : List (Vec ℕ)) (next : List ℕ) (n count : ℕ) → count ≡ length keys → length next ≡ n → ((i : ℕ) → i < n → IsPlace (lists keys) (f i) (slice_index next i)) → Onto (length (lists keys)) next n → Counts next count
counted f keys next n count e l p o =
    subst (λ m. Counts next m) (length-map keys (λ (v : Vec ℕ). v.items) ∙ sym e)
    (record { within = λ i h. (p i (omega (arith, h, l))).within; onto = λ j h. let k = o j h in (k.0, omega (arith, k.1, l), k.2) })
