-- Equality of types goes along functions that keep heads.
use Rattle.std.proofs.Common.{◌≡◌, ℕ, zero, suc, List, [], ◌∷◌, map, sym, subst}
use Rattle.mo_types.specs.declared.wire.Entry.{Entry}
use Rattle.mo_types.specs.declared.wire.Method.{Method}
use Rattle.mo_types.specs.declared.wire.Wire.{Wire}
use Rattle.mo_types.specs.declared.wire.Wire.TheVariants.{Simple, Opt, Vec, Record, Variant, Func, Service}
use Rattle.mo_types.specs.Wire.{map_entry, map_method, map_wire, SameParts, SameEntries, SameMethods, SameHead, SameTo, SameWire}

module _ {A B : Type 0} {P Q : A → B → Type 0} (f : (a : A) (b : B) → P a b → Q a b) where
  parts_mono : (as_ : List A) (bs : List B) → SameParts P as_ bs → SameParts Q as_ bs
  parts_mono [] [] h = tt
  parts_mono (a ∷ as_) (b ∷ bs) h = (f a b h.0, parts_mono as_ bs h.1)
  parts_mono [] (b ∷ bs) h = absurd h
  parts_mono (a ∷ as_) [] h = absurd h

  entries_mono : (as_ : List (Entry A)) (bs : List (Entry B)) → SameEntries P as_ bs → SameEntries Q as_ bs
  entries_mono [] [] h = tt
  entries_mono (a ∷ as_) (b ∷ bs) h = (h.0, f a.part b.part h.1, entries_mono as_ bs h.2)
  entries_mono [] (b ∷ bs) h = absurd h
  entries_mono (a ∷ as_) [] h = absurd h

  methods_mono : (as_ : List (Method A)) (bs : List (Method B)) → SameMethods P as_ bs → SameMethods Q as_ bs
  methods_mono [] [] h = tt
  methods_mono (a ∷ as_) (b ∷ bs) h = (h.0, f a.part b.part h.1, methods_mono as_ bs h.2)
  methods_mono [] (b ∷ bs) h = absurd h
  methods_mono (a ∷ as_) [] h = absurd h

  -- what more pairs of parts satisfy, more pairs of heads do
  pub head_mono : (w : Wire A) (v : Wire B) → SameHead P w v → SameHead Q w v
  head_mono (Simple p) (Simple q) h = h
  head_mono (Opt a) (Opt b) h = f a b h
  head_mono (Vec a) (Vec b) h = f a b h
  head_mono (Record as_) (Record bs) h = entries_mono as_ bs h
  head_mono (Variant as_) (Variant bs) h = entries_mono as_ bs h
  head_mono (Func ps rs n) (Func qs ss m) h = (parts_mono ps qs h.0, parts_mono rs ss h.1, h.2)
  head_mono (Service as_) (Service bs) h = methods_mono as_ bs h
  head_mono w v h = absurd h

module _ {A B C D : Type 0} (f : A → C) (g : B → D) (R : C → D → Type 0) where
  abbrev Pulled : A → B → Type 0
  Pulled a b = R (f a) (g b)

  parts_to : (as_ : List A) (bs : List B) → SameParts R (map f as_) (map g bs) → SameParts Pulled as_ bs
  parts_to [] [] h = tt
  parts_to (a ∷ as_) (b ∷ bs) h = (h.0, parts_to as_ bs h.1)
  parts_to [] (b ∷ bs) h = absurd h
  parts_to (a ∷ as_) [] h = absurd h

  parts_from : (as_ : List A) (bs : List B) → SameParts Pulled as_ bs → SameParts R (map f as_) (map g bs)
  parts_from [] [] h = tt
  parts_from (a ∷ as_) (b ∷ bs) h = (h.0, parts_from as_ bs h.1)
  parts_from [] (b ∷ bs) h = absurd h
  parts_from (a ∷ as_) [] h = absurd h

  entries_to : (as_ : List (Entry A)) (bs : List (Entry B)) → SameEntries R (map (map_entry f) as_) (map (map_entry g) bs) → SameEntries Pulled as_ bs
  entries_to [] [] h = tt
  entries_to (a ∷ as_) (b ∷ bs) h = (h.0, h.1, entries_to as_ bs h.2)
  entries_to [] (b ∷ bs) h = absurd h
  entries_to (a ∷ as_) [] h = absurd h

  entries_from : (as_ : List (Entry A)) (bs : List (Entry B)) → SameEntries Pulled as_ bs → SameEntries R (map (map_entry f) as_) (map (map_entry g) bs)
  entries_from [] [] h = tt
  entries_from (a ∷ as_) (b ∷ bs) h = (h.0, h.1, entries_from as_ bs h.2)
  entries_from [] (b ∷ bs) h = absurd h
  entries_from (a ∷ as_) [] h = absurd h

  methods_to : (as_ : List (Method A)) (bs : List (Method B)) → SameMethods R (map (map_method f) as_) (map (map_method g) bs) → SameMethods Pulled as_ bs
  methods_to [] [] h = tt
  methods_to (a ∷ as_) (b ∷ bs) h = (h.0, h.1, methods_to as_ bs h.2)
  methods_to [] (b ∷ bs) h = absurd h
  methods_to (a ∷ as_) [] h = absurd h

  methods_from : (as_ : List (Method A)) (bs : List (Method B)) → SameMethods Pulled as_ bs → SameMethods R (map (map_method f) as_) (map (map_method g) bs)
  methods_from [] [] h = tt
  methods_from (a ∷ as_) (b ∷ bs) h = (h.0, h.1, methods_from as_ bs h.2)
  methods_from [] (b ∷ bs) h = absurd h
  methods_from (a ∷ as_) [] h = absurd h

  pub head_to : (w : Wire A) (v : Wire B) → SameHead R (map_wire f w) (map_wire g v) → SameHead Pulled w v
  head_to (Simple p) (Simple q) h = h
  head_to (Opt a) (Opt b) h = h
  head_to (Vec a) (Vec b) h = h
  head_to (Record as_) (Record bs) h = entries_to as_ bs h
  head_to (Variant as_) (Variant bs) h = entries_to as_ bs h
  head_to (Func ps rs n) (Func qs ss m) h = (parts_to ps qs h.0, parts_to rs ss h.1, h.2)
  head_to (Service as_) (Service bs) h = methods_to as_ bs h
  head_to w v h = absurd h

  pub head_from : (w : Wire A) (v : Wire B) → SameHead Pulled w v → SameHead R (map_wire f w) (map_wire g v)
  head_from (Simple p) (Simple q) h = h
  head_from (Opt a) (Opt b) h = h
  head_from (Vec a) (Vec b) h = h
  head_from (Record as_) (Record bs) h = entries_from as_ bs h
  head_from (Variant as_) (Variant bs) h = entries_from as_ bs h
  head_from (Func ps rs n) (Func qs ss m) h = (parts_from ps qs h.0, parts_from rs ss h.1, h.2)
  head_from (Service as_) (Service bs) h = methods_from as_ bs h
  head_from w v h = absurd h

module _ {A B C D : Type 0} (f : A → C) (g : B → D) (h : A → Wire A) (k : B → Wire B) (m : C → Wire C) (n : D → Wire D) (keeps : (a : A) → m (f a) ≡ map_wire f (h a)) (holds : (b : B) → n (g b) ≡ map_wire g (k b)) where
  pub same_to : (depth : ℕ) (a : A) (b : B) → SameTo m n depth (f a) (g b) → SameTo h k depth a b
  unfolding SameTo
  same_to zero a b s = tt
  same_to (suc depth) a b s = head_mono (same_to depth) (h a) (k b) (head_to f g (SameTo m n depth) (h a) (k b) (subst (λ w. SameHead (SameTo m n depth) w (map_wire g (k b))) (keeps a) (subst (λ w. SameHead (SameTo m n depth) (m (f a)) w) (holds b) s)))

  pub same_from : (depth : ℕ) (a : A) (b : B) → SameTo h k depth a b → SameTo m n depth (f a) (g b)
  unfolding SameTo
  same_from zero a b s = tt
  same_from (suc depth) a b s =
      subst (λ w. SameHead (SameTo m n depth) (m (f a)) w) (sym (holds b)) (subst (λ w. SameHead (SameTo m n depth) w (map_wire g (k b))) (sym (keeps a)) (head_from f g (SameTo m n depth) (h a) (k b) (head_mono (same_from depth) (h a) (k b) s)))

  -- equality of the images is equality
  pub same_wire_to : (a : A) (b : B) → SameWire m n (f a) (g b) → SameWire h k a b
  same_wire_to a b s = record { to = λ depth. same_to depth a b (s.to depth) }

  pub same_wire_from : (a : A) (b : B) → SameWire h k a b → SameWire m n (f a) (g b)
  same_wire_from a b s = record { to = λ depth. same_from depth a b (s.to depth) }
