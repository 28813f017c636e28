-- Equality of Candid types is an equivalence, and equal types have equal parts.
use Rattle.std.proofs.Common.{ℕ, zero, suc, List, [], ◌∷◌, refl, sym, ◌∙◌}
use Rattle.mo_types.specs.declared.wire.Entry.{Entry}
use Rattle.mo_types.specs.declared.wire.Method.{Method}
use Rattle.mo_types.specs.declared.wire.Wire.{Wire}
use Rattle.mo_types.specs.declared.wire.Wire.TheVariants.{Simple, Opt, Vec, Record, Variant, Func, Service}
use Rattle.mo_types.specs.Wire.{SameParts, SameEntries, SameMethods, SameHead, SameTo, SameWire}

module _ {A : Type 0} (P : A → A → Type 0) (f : (a : A) → P a a) where
  parts_refl : (xs : List A) → SameParts P xs xs
  parts_refl [] = tt
  parts_refl (x ∷ xs) = (f x, parts_refl xs)

  entries_refl : (xs : List (Entry A)) → SameEntries P xs xs
  entries_refl [] = tt
  entries_refl (x ∷ xs) = (refl, f x.part, entries_refl xs)

  methods_refl : (xs : List (Method A)) → SameMethods P xs xs
  methods_refl [] = tt
  methods_refl (x ∷ xs) = (refl, f x.part, methods_refl xs)

  head_refl : (w : Wire A) → SameHead P w w
  head_refl (Simple p) = refl
  head_refl (Opt a) = f a
  head_refl (Vec a) = f a
  head_refl (Record es) = entries_refl es
  head_refl (Variant es) = entries_refl es
  head_refl (Func ps rs n) = (parts_refl ps, parts_refl rs, refl)
  head_refl (Service ms) = methods_refl ms

module _ {A B : Type 0} {P : A → B → Type 0} {Q : B → A → Type 0} (f : (a : A) (b : B) → P a b → Q b a) where
  parts_sym : (xs : List A) (ys : List B) → SameParts P xs ys → SameParts Q ys xs
  parts_sym [] [] h = tt
  parts_sym (x ∷ xs) (y ∷ ys) h = (f x y h.0, parts_sym xs ys h.1)
  parts_sym [] (y ∷ ys) h = absurd h
  parts_sym (x ∷ xs) [] h = absurd h

  entries_sym : (xs : List (Entry A)) (ys : List (Entry B)) → SameEntries P xs ys → SameEntries Q ys xs
  entries_sym [] [] h = tt
  entries_sym (x ∷ xs) (y ∷ ys) h = (sym h.0, f x.part y.part h.1, entries_sym xs ys h.2)
  entries_sym [] (y ∷ ys) h = absurd h
  entries_sym (x ∷ xs) [] h = absurd h

  methods_sym : (xs : List (Method A)) (ys : List (Method B)) → SameMethods P xs ys → SameMethods Q ys xs
  methods_sym [] [] h = tt
  methods_sym (x ∷ xs) (y ∷ ys) h = (sym h.0, f x.part y.part h.1, methods_sym xs ys h.2)
  methods_sym [] (y ∷ ys) h = absurd h
  methods_sym (x ∷ xs) [] h = absurd h

  head_sym : (w : Wire A) (v : Wire B) → SameHead P w v → SameHead Q v w
  head_sym (Simple p) (Simple q) h = sym h
  head_sym (Opt a) (Opt b) h = f a b h
  head_sym (Vec a) (Vec b) h = f a b h
  head_sym (Record xs) (Record ys) h = entries_sym xs ys h
  head_sym (Variant xs) (Variant ys) h = entries_sym xs ys h
  head_sym (Func ps rs n) (Func qs ss m) h = (parts_sym ps qs h.0, parts_sym rs ss h.1, sym h.2)
  head_sym (Service xs) (Service ys) h = methods_sym xs ys h
  head_sym w v h = absurd h

module _ {A B C : Type 0} {P : A → B → Type 0} {Q : B → C → Type 0} {R : A → C → Type 0} (f : (a : A) (b : B) (c : C) → P a b → Q b c → R a c) where
  parts_trans : (xs : List A) (ys : List B) (zs : List C) → SameParts P xs ys → SameParts Q ys zs → SameParts R xs zs
  parts_trans [] [] [] h k = tt
  parts_trans (x ∷ xs) (y ∷ ys) (z ∷ zs) h k = (f x y z h.0 k.0, parts_trans xs ys zs h.1 k.1)
  parts_trans [] [] (z ∷ zs) h k = absurd k
  parts_trans [] (y ∷ ys) zs h k = absurd h
  parts_trans (x ∷ xs) [] zs h k = absurd h
  parts_trans (x ∷ xs) (y ∷ ys) [] h k = absurd k

  entries_trans : (xs : List (Entry A)) (ys : List (Entry B)) (zs : List (Entry C)) → SameEntries P xs ys → SameEntries Q ys zs → SameEntries R xs zs
  entries_trans [] [] [] h k = tt
  entries_trans (x ∷ xs) (y ∷ ys) (z ∷ zs) h k = (h.0 ∙ k.0, f x.part y.part z.part h.1 k.1, entries_trans xs ys zs h.2 k.2)
  entries_trans [] [] (z ∷ zs) h k = absurd k
  entries_trans [] (y ∷ ys) zs h k = absurd h
  entries_trans (x ∷ xs) [] zs h k = absurd h
  entries_trans (x ∷ xs) (y ∷ ys) [] h k = absurd k

  methods_trans : (xs : List (Method A)) (ys : List (Method B)) (zs : List (Method C)) → SameMethods P xs ys → SameMethods Q ys zs → SameMethods R xs zs
  methods_trans [] [] [] h k = tt
  methods_trans (x ∷ xs) (y ∷ ys) (z ∷ zs) h k = (h.0 ∙ k.0, f x.part y.part z.part h.1 k.1, methods_trans xs ys zs h.2 k.2)
  methods_trans [] [] (z ∷ zs) h k = absurd k
  methods_trans [] (y ∷ ys) zs h k = absurd h
  methods_trans (x ∷ xs) [] zs h k = absurd h
  methods_trans (x ∷ xs) (y ∷ ys) [] h k = absurd k

  pub head_trans : (u : Wire A) (v : Wire B) (w : Wire C) → SameHead P u v → SameHead Q v w → SameHead R u w
  head_trans (Simple p) (Simple q) (Simple r) h k = h ∙ k
  head_trans (Opt a) (Opt b) (Opt c) h k = f a b c h k
  head_trans (Vec a) (Vec b) (Vec c) h k = f a b c h k
  head_trans (Record xs) (Record ys) (Record zs) h k = entries_trans xs ys zs h k
  head_trans (Variant xs) (Variant ys) (Variant zs) h k = entries_trans xs ys zs h k
  head_trans (Func ps rs n) (Func qs ss m) (Func us vs o) h k = (parts_trans ps qs us h.0 k.0, parts_trans rs ss vs h.1 k.1, h.2 ∙ k.2)
  head_trans (Service xs) (Service ys) (Service zs) h k = methods_trans xs ys zs h k
  head_trans (Simple p) (Simple q) w h k = absurd k
  head_trans (Opt a) (Opt b) w h k = absurd k
  head_trans (Vec a) (Vec b) w h k = absurd k
  head_trans (Record xs) (Record ys) w h k = absurd k
  head_trans (Variant xs) (Variant ys) w h k = absurd k
  head_trans (Func ps rs n) (Func qs ss m) w h k = absurd k
  head_trans (Service xs) (Service ys) w h k = absurd k
  head_trans u v w h k = absurd h

to_refl : {A : Type 0} (head : A → Wire A) (n : ℕ) (a : A) → SameTo head head n a a
unfolding SameTo
to_refl head zero a = tt
to_refl head (suc n) a = head_refl (SameTo head head n) (to_refl head n) (head a)

to_sym : {A B : Type 0} (h : A → Wire A) (k : B → Wire B) (n : ℕ) (a : A) (b : B) → SameTo h k n a b → SameTo k h n b a
unfolding SameTo
to_sym h k zero a b s = tt
to_sym h k (suc n) a b s = head_sym (to_sym h k n) (h a) (k b) s

pub to_trans : {A B C : Type 0} (h : A → Wire A) (k : B → Wire B) (l : C → Wire C) (n : ℕ) (a : A) (b : B) (c : C) → SameTo h k n a b → SameTo k l n b c → SameTo h l n a c
unfolding SameTo
to_trans h k l zero a b c s t = tt
to_trans h k l (suc n) a b c s t = head_trans (to_trans h k l n) (h a) (k b) (l c) s t

pub same_refl : {A : Type 0} (head : A → Wire A) (a : A) → SameWire head head a a
same_refl head a = record { to = λ n. to_refl head n a }

pub same_sym : {A B : Type 0} (h : A → Wire A) (k : B → Wire B) (a : A) (b : B) → SameWire h k a b → SameWire k h b a
same_sym h k a b s = record { to = λ n. to_sym h k n a b (s.to n) }

pub same_trans : {A B C : Type 0} (h : A → Wire A) (k : B → Wire B) (l : C → Wire C) (a : A) (b : B) (c : C) → SameWire h k a b → SameWire k l b c → SameWire h l a c
same_trans h k l a b c s t = record { to = λ n. to_trans h k l n a b c (s.to n) (t.to n) }

-- ---- parts of equal types

module _ {A B : Type 0} (R : ℕ → A → B → Type 0) where
  abbrev All : A → B → Type 0
  All a b = (n : ℕ) → R n a b

  parts_all : (xs : List A) (ys : List B) → ((n : ℕ) → SameParts (R n) xs ys) → SameParts All xs ys
  parts_all [] [] h = tt
  parts_all (x ∷ xs) (y ∷ ys) h = (λ n. (h n).0, parts_all xs ys (λ n. (h n).1))
  parts_all [] (y ∷ ys) h = absurd (h 0)
  parts_all (x ∷ xs) [] h = absurd (h 0)

  entries_all : (xs : List (Entry A)) (ys : List (Entry B)) → ((n : ℕ) → SameEntries (R n) xs ys) → SameEntries All xs ys
  entries_all [] [] h = tt
  entries_all (x ∷ xs) (y ∷ ys) h = ((h 0).0, λ n. (h n).1, entries_all xs ys (λ n. (h n).2))
  entries_all [] (y ∷ ys) h = absurd (h 0)
  entries_all (x ∷ xs) [] h = absurd (h 0)

  methods_all : (xs : List (Method A)) (ys : List (Method B)) → ((n : ℕ) → SameMethods (R n) xs ys) → SameMethods All xs ys
  methods_all [] [] h = tt
  methods_all (x ∷ xs) (y ∷ ys) h = ((h 0).0, λ n. (h n).1, methods_all xs ys (λ n. (h n).2))
  methods_all [] (y ∷ ys) h = absurd (h 0)
  methods_all (x ∷ xs) [] h = absurd (h 0)

  head_all : (w : Wire A) (v : Wire B) → ((n : ℕ) → SameHead (R n) w v) → SameHead All w v
  head_all (Simple p) (Simple q) h = h 0
  head_all (Opt a) (Opt b) h = h
  head_all (Vec a) (Vec b) h = h
  head_all (Record xs) (Record ys) h = entries_all xs ys h
  head_all (Variant xs) (Variant ys) h = entries_all xs ys h
  head_all (Func ps rs n) (Func qs ss m) h = (parts_all ps qs (λ n. (h n).0), parts_all rs ss (λ n. (h n).1), (h 0).2)
  head_all (Service xs) (Service ys) h = methods_all xs ys h
  head_all w v h = absurd (h 0)

to_next : {A B : Type 0} (h : A → Wire A) (k : B → Wire B) (n : ℕ) (a : A) (b : B) → SameTo h k (suc n) a b → SameHead (SameTo h k n) (h a) (k b)
unfolding SameTo
to_next h k n a b s = s

-- equal types have heads with equal parts
pub same_heads : {A B : Type 0} (h : A → Wire A) (k : B → Wire B) (a : A) (b : B) → SameWire h k a b → SameHead (λ x y. (n : ℕ) → SameTo h k n x y) (h a) (k b)
same_heads h k a b s = head_all (SameTo h k) (h a) (k b) (λ n. to_next h k n a b (s.to (suc n)))
