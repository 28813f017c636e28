-- Rounds of refinement lead to classes of equal types.
use Rattle.std.proofs.Common.{◌≡◌, ℕ, zero, suc, ◌+◌, ◌-◌, ◌<◌, ◌≤◌, ◌⊎◌, inl, inr, List, length, Some, None, slice_get, slice_index, replicate, refl, sym, ap, ◌∙◌, subst, arith}
use Rattle.std.proofs.lemmas.Bool.{cases_lt}
use Rattle.std.proofs.lemmas.Option.{slice_get_past, slice_get-get_or}
use Rattle.mo_types.specs.declared.wire.Plain.TheVariants as plain
use Rattle.mo_types.specs.declared.wire.Wire.{Wire}
use Rattle.mo_types.specs.declared.wire.Wire.TheVariants.{Simple}
use Rattle.mo_types.specs.Wire.{SameTo}
use Rattle.candid_types.specs.Shapes.{or_empty, shape_at}
use Rattle.candid_types.proofs.Natural.{head_mono}
use Rattle.candid_write.specs.Classes.{class_or, class_at, AreClasses}
use Rattle.candid_write.specs.Signature.{signature}
use Rattle.candid_write.specs.Rounds.{Refines, Counts}
use Rattle.candid_write.proofs.Signatures.{signature_same, same_signature}
use Rattle.candid_write.proofs.Counting.{at_most, no_fewer, as_many}

module _ (shapes : List (Wire ℕ)) where
  -- two numbers have one class exactly where their types are equal to this depth
  pub record AreTo (depth : ℕ) (classes : List ℕ) : Type 0 where
    pub count : length classes ≡ length shapes
    pub same : (a b : ℕ) → class_at classes a ≡ class_at classes b → SameTo (shape_at shapes) (shape_at shapes) depth a b
    pub one : (a b : ℕ) → SameTo (shape_at shapes) (shape_at shapes) depth a b → class_at classes a ≡ class_at classes b

  module _ (first : slice_get shapes 0 ≡ Some (Simple plain.Empty)) where
    -- a number within the table that has the same head and class
    record Stands (classes : List ℕ) (n : ℕ) : Type 0 where
      at : ℕ
      within : at < length shapes
      head : shape_at shapes at ≡ shape_at shapes n
      class : class_at classes n ≡ slice_index classes at

    some : 0 < length shapes
    some = by (length shapes) refl where
      by : (n : ℕ) → length shapes ≡ n → 0 < length shapes
      by zero e = let f : slice_get shapes 0 ≡ None = slice_get_past shapes 0 (omega arith) in cc
      by (suc n) e = omega arith

    stands : (classes : List ℕ) → length classes ≡ length shapes → (n : ℕ) → Stands classes n
    stands classes l n = by (cases_lt n (length shapes)) where
      by : (n < length shapes) ⊎ (length shapes ≤ n) → Stands classes n
      by (inl h) = record { at = n; within = h; head = refl; class = ap (λ o. class_or o (slice_index classes 0)) (slice_get-get_or classes n 0 (omega arith)) }
      by (inr h) = record {
        at = 0;
        within = some;
        head = ap or_empty (first) ∙ sym (ap or_empty (slice_get_past shapes n h));
        class = ap (λ o. class_or o (slice_index classes 0)) (slice_get_past classes n (omega arith));
      }

    refined_same : (depth : ℕ) (old new : List ℕ) → AreTo depth old → Refines shapes old new → (a b : ℕ) → class_at new a ≡ class_at new b → SameTo (shape_at shapes) (shape_at shapes) (suc depth) a b
    unfolding SameTo
    refined_same depth old new t r a b e =
        let s = stands new r.count a in
        let u = stands new r.count b in
        let g : signature old (shape_at shapes a) ≡ signature old (shape_at shapes b) =
        sym (ap (signature old) s.head) ∙ r.same s.at u.at s.within u.within (sym s.class ∙ e ∙ u.class) ∙ ap (signature old) u.head in
        head_mono t.same (shape_at shapes a) (shape_at shapes b) (signature_same old (shape_at shapes a) (shape_at shapes b) g)

    refined_one : (depth : ℕ) (old new : List ℕ) → AreTo depth old → Refines shapes old new → (a b : ℕ) → SameTo (shape_at shapes) (shape_at shapes) (suc depth) a b → class_at new a ≡ class_at new b
    unfolding SameTo
    refined_one depth old new t r a b h =
        let s = stands new r.count a in
        let u = stands new r.count b in
        let g : signature old (shape_at shapes a) ≡ signature old (shape_at shapes b) = same_signature old (shape_at shapes a) (shape_at shapes b) (head_mono t.one (shape_at shapes a) (shape_at shapes b) h) in
        s.class ∙ r.one s.at u.at s.within u.within (ap (signature old) s.head ∙ g ∙ sym (ap (signature old) u.head)) ∙ sym u.class

    pub refined : (depth : ℕ) (old new : List ℕ) → AreTo depth old → Refines shapes old new → AreTo (depth + 1) new
    refined depth old new t r =
        let e : suc depth ≡ depth + 1 = omega arith in
        subst (λ d. AreTo d new) e (record { count = r.count; same = refined_same depth old new t r; one = refined_one depth old new t r })

  zeros : (classes : List ℕ) → length classes ≡ length shapes → ((i : ℕ) → slice_index classes i ≡ 0) → AreTo 0 classes
  unfolding SameTo
  zeros classes l z = record { count = l; same = λ a b e. tt; one = λ a b h. zero_at a ∙ sym (zero_at b) } where
    zero_at : (n : ℕ) → class_at classes n ≡ 0
    zero_at n = by (cases_lt n (length classes)) where
      by : (n < length classes) ⊎ (length classes ≤ n) → class_at classes n ≡ 0
      by (inl h) = ap (λ o. class_or o (slice_index classes 0)) (slice_get-get_or classes n 0 h) ∙ z n
      by (inr h) = ap (λ o. class_or o (slice_index classes 0)) (slice_get_past classes n h) ∙ z 0

  replicate_at : (n i : ℕ) → slice_index (replicate n 0) i ≡ 0
  replicate_at zero i = refl
  replicate_at (suc n) zero = refl
  replicate_at (suc n) (suc i) = replicate_at n i

  replicate_length : (n : ℕ) → length {A = ℕ} (replicate n 0) ≡ n
  replicate_length zero = refl
  replicate_length (suc n) = ap suc (replicate_length n)

  pub starts : (classes : List ℕ) (n : ℕ) → classes ≡ replicate n 0 → n ≡ length shapes → AreTo 0 classes
  starts classes n e l = zeros classes (ap length e ∙ replicate_length n ∙ l) (λ i. ap (λ z. slice_index z i) e ∙ replicate_at n i)

  -- equality to a depth is equality to each lesser one, and to each greater one where one more changes nothing
  less : (n : ℕ) (a b : ℕ) → SameTo (shape_at shapes) (shape_at shapes) (suc n) a b → SameTo (shape_at shapes) (shape_at shapes) n a b
  unfolding SameTo
  less zero a b h = tt
  less (suc n) a b h = head_mono (less n) (shape_at shapes a) (shape_at shapes b) h

  lesser : (k n : ℕ) (a b : ℕ) → SameTo (shape_at shapes) (shape_at shapes) (n + k) a b → SameTo (shape_at shapes) (shape_at shapes) n a b
  lesser zero n a b h = let e : n + 0 ≡ n = omega arith in subst (λ d. SameTo (shape_at shapes) (shape_at shapes) d a b) e h
  lesser (suc k) n a b h = let e : n + suc k ≡ suc (n + k) = omega arith in lesser k n a b (less (n + k) a b (subst (λ d. SameTo (shape_at shapes) (shape_at shapes) d a b) e h))

  module _ (n : ℕ) (still : (a b : ℕ) → SameTo (shape_at shapes) (shape_at shapes) n a b → SameTo (shape_at shapes) (shape_at shapes) (suc n) a b) where
    more : (k : ℕ) (a b : ℕ) → SameTo (shape_at shapes) (shape_at shapes) n a b → SameTo (shape_at shapes) (shape_at shapes) (k + n) a b
    unfolding SameTo
    more zero a b h = let e : n ≡ 0 + n = omega arith in subst (λ d. SameTo (shape_at shapes) (shape_at shapes) d a b) e h
    more (suc k) a b h =
        let e : suc (k + n) ≡ suc k + n = omega arith in
        subst (λ d. SameTo (shape_at shapes) (shape_at shapes) d a b) e (head_mono (more k) (shape_at shapes a) (shape_at shapes b) (still a b h))

    every : (d : ℕ) (a b : ℕ) → SameTo (shape_at shapes) (shape_at shapes) n a b → SameTo (shape_at shapes) (shape_at shapes) d a b
    every d a b h = by (cases_lt d n) where
      by : (d < n) ⊎ (n ≤ d) → SameTo (shape_at shapes) (shape_at shapes) d a b
      by (inl l) = let e : n ≡ d + (n - d) = omega arith in lesser (n - d) d a b (subst (λ m. SameTo (shape_at shapes) (shape_at shapes) m a b) e h)
      by (inr l) = let e : d - n + n ≡ d = omega arith in subst (λ m. SameTo (shape_at shapes) (shape_at shapes) m a b) e (more (d - n) a b h)

  -- where a round makes no class more, the classes are those of equal types
  settled : (depth : ℕ) (old new : List ℕ) → AreTo depth old → AreTo (depth + 1) new → ((a b : ℕ) → class_at old a ≡ class_at old b → class_at new a ≡ class_at new b) → AreClasses shapes new
  settled depth old new t u back = record {
    same = λ a b h. record { to = λ d. every depth still d a b (less depth a b (deeper a b (u.same a b h))) };
    one = λ a b s. u.one a b (s.to (depth + 1));
  } where
    deeper : (a b : ℕ) → SameTo (shape_at shapes) (shape_at shapes) (depth + 1) a b → SameTo (shape_at shapes) (shape_at shapes) (suc depth) a b
    deeper a b h = let f : depth + 1 ≡ suc depth = omega arith in subst (λ d. SameTo (shape_at shapes) (shape_at shapes) d a b) f h

    still : (a b : ℕ) → SameTo (shape_at shapes) (shape_at shapes) depth a b → SameTo (shape_at shapes) (shape_at shapes) (suc depth) a b
    still a b h = deeper a b (u.same a b (back a b (t.one a b h)))

  -- some rounds were made
  pub record Rounds (classes : List ℕ) (count : ℕ) : Type 0 where
    pub depth : ℕ
    pub are : AreTo depth classes
    pub counts : Counts classes count

  module _ (first : slice_get shapes 0 ≡ Some (Simple plain.Empty)) where
    pub begun : (classes : List ℕ) (n : ℕ) → classes ≡ replicate n 0 → n ≡ length shapes → Rounds classes 1
    begun classes n e l =
        let s = some first in
        let t = starts classes n e l in
        let z : (i : ℕ) → slice_index classes i ≡ 0 = λ i. ap (λ c. slice_index c i) e ∙ replicate_at n i in
        record { depth = 0; are = t; counts = record { within = λ i h. let o = z i in omega (arith, o); onto = λ j h. (0, omega (arith, s, t.count), let k : 0 ≡ j = omega arith in z 0 ∙ k) } }

    pub again : (old new : List ℕ) (k m : ℕ) → Rounds old k → Refines shapes old new → Counts new m → Rounds new m
    again old new k m r f c = record { depth = r.depth + 1; are = refined first r.depth old new r.are f; counts = c }

    module _ (old new : List ℕ) (k m : ℕ) (r : Rounds old k) (f : Refines shapes old new) (c : Counts new m) where
      refined_to : AreTo (r.depth + 1) new
      refined_to = refined first r.depth old new r.are f

      at_index : (classes : List ℕ) (a : ℕ) → a < length classes → class_at classes a ≡ slice_index classes a
      at_index classes a h = ap (λ o. class_or o (slice_index classes 0)) (slice_get-get_or classes a 0 h)

      finer : (a b : ℕ) → class_at new a ≡ class_at new b → class_at old a ≡ class_at old b
      finer a b h = r.are.one a b (less r.depth a b (let d : r.depth + 1 ≡ suc r.depth = omega arith in subst (λ d. SameTo (shape_at shapes) (shape_at shapes) d a b) d (refined_to.same a b h)))

      finer_at : (a b : ℕ) → a < length old → b < length old → slice_index new a ≡ slice_index new b → slice_index old a ≡ slice_index old b
      finer_at a b h l e =
          let n = r.are.count in
          let p = refined_to.count in
          sym (at_index old a h) ∙ finer a b (at_index new a (omega (arith, h, n, p)) ∙ e ∙ sym (at_index new b (omega (arith, l, n, p)))) ∙ at_index old b l

      long : length new ≡ length old
      long = refined_to.count ∙ sym r.are.count

      pub rises : k ≤ m
      rises = no_fewer old new k m r.counts c long finer_at

      pub bounded : m ≤ length shapes
      bounded = let h = at_most new m c in let l = refined_to.count in omega (arith, h, l)

      clip : (a : ℕ) → (i : ℕ) × (i < length shapes) × ((classes : List ℕ) → length classes ≡ length shapes → class_at classes a ≡ slice_index classes i)
      clip a = by (cases_lt a (length shapes))
        where
          by : (a < length shapes) ⊎ (length shapes ≤ a) → (i : ℕ) × (i < length shapes) × ((classes : List ℕ) → length classes ≡ length shapes → class_at classes a ≡ slice_index classes i)
          by (inl h) = (a, h, λ classes l. ap (λ o. class_or o (slice_index classes 0)) (slice_get-get_or classes a 0 (omega (arith, h, l))))
          by (inr h) = (0, some first, λ classes l. ap (λ o. class_or o (slice_index classes 0)) (slice_get_past classes a (omega (arith, h, l))))

      coarser : k ≡ m → (a b : ℕ) → class_at old a ≡ class_at old b → class_at new a ≡ class_at new b
      coarser e a b h =
          let n = r.are.count in
          let s = clip a in
          let u = clip b in
          s.2 new refined_to.count ∙ as_many old new k m r.counts c long finer_at e s.0 u.0 (omega (arith, s.1, n)) (omega (arith, u.1, n)) (sym (s.2 old n) ∙ h ∙ u.2 old n) ∙ sym (u.2 new refined_to.count)

      pub settles : k ≡ m → AreClasses shapes new
      settles e = settled r.depth old new r.are refined_to (coarser e)
