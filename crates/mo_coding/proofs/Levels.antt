-- Levels come to an end: what holds by some level holds by as many levels as there are parts.
use Rattle.std.proofs.Common.{◌≡◌, ℕ, zero, suc, ◌+◌, ◌≤◌, ◌⊎◌, inl, inr, Bool, true, false, List, [], ◌∷◌, map, length, refl, ap, subst, arith}
use Rattle.std.specs.Prelude.{nat_lt}
use Rattle.std.specs.List.{list_all}
use Rattle.std.proofs.lemmas.Bool.{ltb-true, ltb-false}
use Rattle.mo_types.specs.Sub.{Each}
use Rattle.mo_types.specs.declared.wire.Entry.{Entry}
use Rattle.mo_types.specs.declared.wire.Plain.TheVariants as plain
use Rattle.mo_types.specs.declared.wire.Wire.{Wire}
use Rattle.mo_types.specs.declared.wire.Wire.TheVariants.{Simple, Opt, Vec, Record, Variant, Func, Service}
use Rattle.mo_types.specs.Header.{parts_of}
use Rattle.mo_types.specs.Spelling.{EmptyHead, EmptyBy}
use Rattle.mo_coding.specs.Heads.{Heads}
use Rattle.mo_coding.specs.Levels.{by_level, all_levels, is_empty_head, is_empty, record_parts, is_ending}
use Rattle.mo_coding.proofs.Members.{Has}
use Rattle.mo_coding.proofs.Counting.{bit, count, at_most, fewer_by_one}
use Rattle.mo_coding.proofs.Heads.{AreFinite}
use Rattle.mo_coding.proofs.Truths.{both_true, true_both, all_true, true_all}

plus : ℕ → ℕ → ℕ
plus zero m = m
plus (suc k) m = suc (plus k m)

plus_is : (k m : ℕ) → plus k m ≡ k + m
unfolding plus
plus_is zero m = omega arith
plus_is (suc k) m = let e = plus_is k m in omega (arith, e)

module _ {X : Type 0} where
  one_more : (p : X → Bool) (x : X) (xs : List X) → count p (x ∷ xs) ≤ suc (count p xs)
  one_more p x xs = by (p x) where
    by : (b : Bool) → bit b + count p xs ≤ suc (count p xs)
    by true = omega arith
    by false = omega arith

  all_pass : (p : X → Bool) (xs : List X) → length xs ≤ count p xs → (x : X) → Has xs x → p x ≡ true
  all_pass p [] l x h = absurd h
  all_pass p (y ∷ ys) l x (inl e) = by (p y) refl where
    by : (b : Bool) → p y ≡ b → p x ≡ true
    by true f = subst (λ z. p z ≡ true) e f
    by false f = let a = ap bit f in let m = at_most p ys in absurd (omega (arith, a, m, l))
  all_pass p (y ∷ ys) l x (inr h) = let o = one_more p y ys in all_pass p ys (omega (arith, o, l)) x h

  module _ (f : ℕ → X → Bool) (xs : List X) (rises : (n : ℕ) (x : X) → f n x ≡ true → f (suc n) x ≡ true)
      (next : (n : ℕ) → ((x : X) → Has xs x → f (suc n) x ≡ true → f n x ≡ true) → (x : X) → f (suc (suc n)) x ≡ true → f (suc n) x ≡ true) where
    -- one level more changes nothing
    abbrev Still : ℕ → Type 0
    Still n = (x : X) → Has xs x → f (suc n) x ≡ true → f n x ≡ true

    same_count : (k : ℕ) → count (f (suc k)) xs ≤ count (f k) xs → Still k
    same_count k l x h e = by (f k x) refl where
      by : (b : Bool) → f k x ≡ b → f k x ≡ true
      by true g = g
      by false g = let m = fewer_by_one (f (suc k)) (f k) (rises k) xs x h e g in absurd (omega (arith, m, l))

    more : (k : ℕ) → Still k ⊎ (k ≤ count (f k) xs) → Still (suc k) ⊎ (suc k ≤ count (f (suc k)) xs)
    more k (inl s) = inl (λ x h e. next k s x e)
    more k (inr c) = by (nat_lt (count (f k) xs) (count (f (suc k)) xs)) refl where
      by : (b : Bool) → nat_lt (count (f k) xs) (count (f (suc k)) xs) ≡ b → Still (suc k) ⊎ (suc k ≤ count (f (suc k)) xs)
      by true e = let l = ltb-true (count (f k) xs) (count (f (suc k)) xs) e in inr (omega (arith, l, c))
      by false e = inl (λ x h g. next k (same_count k (ltb-false (count (f k) xs) (count (f (suc k)) xs) e)) x g)

    state : (k : ℕ) → Still k ⊎ (k ≤ count (f k) xs)
    state zero = inr (omega arith)
    state (suc k) = more k (state k)

    still : Still (length xs)
    still = elim (state (length xs)) [ inl s ↦ s | inr c ↦ λ x h e. all_pass (f (length xs)) xs c x h ]

    ever : (j : ℕ) (x : X) → f (suc (plus j (suc (length xs)))) x ≡ true → f (plus j (suc (length xs))) x ≡ true
    unfolding plus
    ever zero x e = next (length xs) still x e
    ever (suc j) x e = next (plus j (suc (length xs))) (λ y h g. ever j y g) x e

    down : (j : ℕ) (x : X) → f (plus j (suc (length xs))) x ≡ true → f (suc (length xs)) x ≡ true
    unfolding plus
    down zero x e = e
    down (suc j) x e = down j x (ever j x e)

    up : (k n : ℕ) (x : X) → f n x ≡ true → f (plus k n) x ≡ true
    unfolding plus
    up zero n x e = e
    up (suc k) n x e = rises (plus k n) x (up k n x e)

    pub settled : (n : ℕ) (x : X) → f n x ≡ true → f (suc (length xs)) x ≡ true
    settled n x e =
        let a = plus_is (suc (length xs)) n in
        let b = plus_is n (suc (length xs)) in
        let c : plus (suc (length xs)) n ≡ plus n (suc (length xs)) = omega (arith, a, b) in
        down n x (subst (λ m. f m x ≡ true) c (up (suc (length xs)) n x e))

-- ---- tests of parts

module _ {B : Type 0} (test : (B → Bool) → Wire B → Bool) (mono : (p q : B → Bool) (w : Wire B) → ((b : B) → Has (parts_of w) b → p b ≡ true → q b ≡ true) → test p w ≡ true → test q w ≡ true) where
  module _ (g : Heads B) (f : AreFinite g) where
    rising : (n : ℕ) (b : B) → by_level test g.head n b ≡ true → by_level test g.head (suc n) b ≡ true
    rising zero b e = absurd (let h : false ≡ true = e in cc)
    rising (suc n) b e = mono (by_level test g.head n) (by_level test g.head (suc n)) (g.head b) (λ c h. rising n c) e

    pub level_settled : (n : ℕ) (b : B) → by_level test g.head n b ≡ true → by_level test g.head (all_levels g) b ≡ true
    level_settled n b e = settled (by_level test g.head) g.parts rising
        (λ m s x h. mono (by_level test g.head (suc m)) (by_level test g.head m) (g.head x) (λ c i. s c (f.closed x c i)) h) n b e

-- ---- values without bytes

module _ {B : Type 0} where
  fields_mono : (p q : B → Bool) (es : List (Entry B)) → ((b : B) → Has (map (λ e. e.part) es) b → p b ≡ true → q b ≡ true) → list_all (λ e. p e.part) es ≡ true → list_all (λ e. q e.part) es ≡ true
  fields_mono p q [] h e = refl
  fields_mono p q (x ∷ es) h e = let t = both_true (p x.part) (list_all (λ e. p e.part) es) e in true_both (q x.part) (list_all (λ e. q e.part) es) (h x.part (inl refl) t.0) (fields_mono p q es (λ b i. h b (inr i)) t.1)

  empty_mono : (p q : B → Bool) (w : Wire B) → ((b : B) → Has (parts_of w) b → p b ≡ true → q b ≡ true) → is_empty_head p w ≡ true → is_empty_head q w ≡ true
  empty_mono p q (Record es) h e = fields_mono p q es h e
  empty_mono p q (Simple s) h e = e
  empty_mono p q (Opt b) h e = e
  empty_mono p q (Vec b) h e = e
  empty_mono p q (Variant es) h e = e
  empty_mono p q (Func ps rs ns) h e = e
  empty_mono p q (Service ms) h e = e

  fields_to : (p : B → Bool) (P : B → Type 0) (es : List (Entry B)) → ((b : B) → p b ≡ true → P b) → list_all (λ e. p e.part) es ≡ true → Each (λ e. P e.part) es
  fields_to p P [] h e = tt
  fields_to p P (x ∷ es) h e = let t = both_true (p x.part) (list_all (λ e. p e.part) es) e in (h x.part t.0, fields_to p P es h t.1)

  fields_from : (p : B → Bool) (P : B → Type 0) (es : List (Entry B)) → ((b : B) → P b → p b ≡ true) → Each (λ e. P e.part) es → list_all (λ e. p e.part) es ≡ true
  fields_from p P [] h e = refl
  fields_from p P (x ∷ es) h e = true_both (p x.part) (list_all (λ e. p e.part) es) (h x.part e.0) (fields_from p P es h e.1)

  empty_to : (p : B → Bool) (P : B → Type 0) (w : Wire B) → ((b : B) → p b ≡ true → P b) → is_empty_head p w ≡ true → EmptyHead P w
  empty_to p P (Record es) h e = fields_to p P es h e
  empty_to p P (Simple plain.Null) h e = tt
  empty_to p P (Simple plain.Reserved) h e = tt
  empty_to p P w h e = absurd (let f : false ≡ true = e in cc)

  empty_from : (p : B → Bool) (P : B → Type 0) (w : Wire B) → ((b : B) → P b → p b ≡ true) → EmptyHead P w → is_empty_head p w ≡ true
  empty_from p P (Record es) h e = fields_from p P es h e
  empty_from p P (Simple plain.Null) h e = refl
  empty_from p P (Simple plain.Reserved) h e = refl
  empty_from p P w h e = absurd e

  level_to : (head : B → Wire B) (n : ℕ) (b : B) → by_level is_empty_head head n b ≡ true → EmptyBy head n b
  unfolding EmptyBy
  level_to head zero b e = absurd (let f : false ≡ true = e in cc)
  level_to head (suc n) b e = empty_to (by_level is_empty_head head n) (EmptyBy head n) (head b) (level_to head n) e

  level_from : (head : B → Wire B) (n : ℕ) (b : B) → EmptyBy head n b → by_level is_empty_head head n b ≡ true
  unfolding EmptyBy
  level_from head zero b h = absurd h
  level_from head (suc n) b h = empty_from (by_level is_empty_head head n) (EmptyBy head n) (head b) (level_from head n) h

  pub empty_is : (g : Heads B) (b : B) → is_empty g b ≡ true → EmptyBy g.head (all_levels g) b
  empty_is g b e = level_to g.head (all_levels g) b e

  pub is_empty_of : (g : Heads B) → AreFinite g → (levels : ℕ) (b : B) → EmptyBy g.head levels b → is_empty g b ≡ true
  is_empty_of g f levels b h = level_settled is_empty_head empty_mono g f levels b (level_from g.head levels b h)

  -- ---- records of records

  record_part : (w : Wire B) (b : B) → Has (record_parts w) b → Has (parts_of w) b
  record_part (Record es) b h = h
  record_part w b h = absurd h

  ending_mono : (p q : B → Bool) (w : Wire B) → ((b : B) → Has (parts_of w) b → p b ≡ true → q b ≡ true) → is_ending p w ≡ true → is_ending q w ≡ true
  ending_mono p q w h e = true_all q (record_parts w) (λ b i. h b (record_part w b i) (all_true p (record_parts w) e b i))

  pub ending_settled : (g : Heads B) → AreFinite g → (n : ℕ) (b : B) → by_level is_ending g.head n b ≡ true → by_level is_ending g.head (all_levels g) b ≡ true
  ending_settled g f n b e = level_settled is_ending ending_mono g f n b e
