-- Equal types have heads of one form with equal parts; but None and the type parameters, which no message holds, may be equal.
use Rattle.std.proofs.Common.{◌≡◌, inl, inr, ◌⊎◌, ℕ, List, [], ◌∷◌, sym, ap, ◌∙◌, subst}
use Rattle.mo_num.specs.declared.kind.Kind.{Kind}
use Rattle.mo_num.specs.declared.kind.Kind.TheVariants as kind
use Rattle.mo_types.specs.declared.node.Node.{Node}
use Rattle.mo_types.specs.declared.node.Node.TheVariants as node
use Rattle.mo_types.specs.declared.node.Field.{Field}
use Rattle.mo_types.specs.Sub.{IsSubtype, Pairwise, NumberBelow, FieldsBelow, TagsBelow}
use Rattle.mo_types.specs.Wire.{SameParts}
use Rattle.subtype_laws.specs.Equal.{AreTold, AreEqual}
use Rattle.subtype_laws.specs.Inversion.{OtherAbove, IsAbove, IsBelow}
use Rattle.subtype_laws.proofs.Inversion.{to_above, to_below}
use Rattle.subtype_laws.proofs.Matching.{Matched, distinct_own, told_own, fields_match, tags_match}

-- None or a type parameter
abbrev pub Hidden : {A : Type 0} → Node A → Type 0
Hidden {A} y = (y ≡ node.Bottom) ⊎ ((v : ℕ) × (b : A) × (y ≡ node.Variable v b))

module _ {A : Type 0} (S : A → A → Type 0) where
  abbrev pub Both : A → A → Type 0
  Both a b = S a b × S b a

  abbrev pub Alike : Node A → Node A → Type 0
  Alike (node.Number k) y = y ≡ node.Number k
  Alike node.Bool y = y ≡ node.Bool
  Alike node.Char y = y ≡ node.Char
  Alike node.Text y = y ≡ node.Text
  Alike node.Blob y = y ≡ node.Blob
  Alike node.Principal y = y ≡ node.Principal
  Alike node.Error y = y ≡ node.Error
  Alike node.Null y = y ≡ node.Null
  Alike node.Any y = y ≡ node.Any
  Alike node.Bottom y = Hidden y
  Alike (node.Opt a) y = (b : A) × (y ≡ node.Opt b) × Both a b
  Alike (node.Array a) y = (b : A) × (y ≡ node.Array b) × Both a b
  Alike (node.MutArray a) y = (b : A) × (y ≡ node.MutArray b)
  Alike (node.Tuple ts) y = (us : List A) × (y ≡ node.Tuple us) × SameParts Both ts us
  Alike (node.Object fs) y = (gs : List (Field A)) × (y ≡ node.Object gs) × AreTold (node.Object gs) × Matched S fs gs
  Alike (node.Actor fs) y = (gs : List (Field A)) × (y ≡ node.Actor gs) × AreTold (node.Actor gs) × Matched S fs gs
  Alike (node.Variant fs) y = (gs : List (Field A)) × (y ≡ node.Variant gs) × AreTold (node.Variant gs) × Matched S fs gs
  Alike (node.Func s ps rs) y = (qs : List A) × (ss : List A) × (y ≡ node.Func s qs ss) × SameParts Both ps qs × SameParts Both rs ss
  Alike (node.Async a) y = (b : A) × (y ≡ node.Async b)
  Alike (node.Variable v b) y = Hidden y

  pairs_both : (ts us : List A) → Pairwise S ts us → Pairwise S us ts → SameParts Both ts us
  pairs_both [] [] p q = tt
  pairs_both [] (u ∷ us) p q = absurd p
  pairs_both (t ∷ ts) [] p q = absurd p
  pairs_both (t ∷ ts) (u ∷ us) p q = ((p.0, q.0), pairs_both ts us p.1 q.1)

  one_kind : (k j i : Kind) → NumberBelow k j → NumberBelow j i → ◌≡◌ {A = Node A} (node.Number k) (node.Number i) → j ≡ k
  one_kind k j i (inl e) q f = sym e
  one_kind k j i (inr p) (inl e) f = let g : k ≡ i = cc in e ∙ sym g
  one_kind k j i (inr p) (inr q) f = let g : kind.Int ≡ kind.Nat = sym p.1 ∙ q.0 in cc

  -- t has the head x, and u the head y
  module _ (t u : A) where
    any_alike : (x y : Node A) → y ≡ node.Any → IsAbove S t y x → Alike x y
    any_alike x y e h = by (subst (λ y. IsAbove S t y x) e h) where
      by : IsAbove S t node.Any x → Alike x y
      by (inl f) = subst (λ x. Alike x y) (sym f) e
      by (inr f) = absurd f

    variable_hidden : (v : ℕ) (b : A) (y : Node A) → IsBelow S t (node.Variable v b) y → Hidden y
    variable_hidden v b y (inl e) = inl e
    variable_hidden v b y (inr (inl (w, c, e, s))) = inr (w, c, e)
    variable_hidden v b y (inr (inr (c, e))) = inr (v, c, e)

    bottom_hidden : (y : Node A) → IsBelow S t node.Bottom y → Hidden y
    bottom_hidden y (inl e) = inl e
    bottom_hidden y (inr (inl (w, c, e, s))) = inr (w, c, e)
    bottom_hidden y (inr (inr h)) = absurd h

    heads : (x y : Node A) → AreTold x → AreTold y → OtherAbove S u x y → IsAbove S t y x → IsBelow S t x y → Alike x y
    heads (node.Number k) y d f (j, e, n) h l = by (subst (λ y. IsAbove S t y (node.Number k)) e h) where
      by : IsAbove S t (node.Number j) (node.Number k) → y ≡ node.Number k
      by (inl g) = cc
      by (inr (i, g, m)) = e ∙ ap (λ k. node.Number k) (one_kind k j i n m g)
    heads node.Bool y d f e h l = e
    heads node.Char y d f e h l = e
    heads node.Text y d f e h l = e
    heads node.Blob y d f e h l = e
    heads node.Principal y d f e h l = e
    heads node.Error y d f e h l = e
    heads node.Null y d f (inl e) h l = e
    heads node.Null y d f (inr (b, e)) h l = by (subst (λ y. IsAbove S t y node.Null) e h) where
      by : IsAbove S t (node.Opt b) node.Null → y ≡ node.Null
      by (inl g) = cc
      by (inr (c, g, m)) = cc
    heads node.Any y d f e h l = absurd e
    heads node.Bottom y d f e h l = bottom_hidden y l
    heads (node.Variable v b) y d f e h l = variable_hidden v b y l
    heads (node.Opt a) y d f (b, e, r) h l = by (subst (λ y. IsAbove S t y (node.Opt a)) e h) where
      by : IsAbove S t (node.Opt b) (node.Opt a) → Alike (node.Opt a) y
      by (inl g) = cc
      by (inr (c, g, s)) = let i : c ≡ a = cc in (b, e, (r, subst (λ c. S b c) i s))
    heads (node.Array a) y d f (b, e, r) h l = by (subst (λ y. IsAbove S t y (node.Array a)) e h) where
      by : IsAbove S t (node.Array b) (node.Array a) → Alike (node.Array a) y
      by (inl g) = cc
      by (inr (c, g, s)) = let i : c ≡ a = cc in (b, e, (r, subst (λ c. S b c) i s))
    heads (node.MutArray a) y d f (b, e, r, s) h l = (b, e)
    heads (node.Async a) y d f (b, e, r) h l = (b, e)
    heads (node.Tuple ts) y d f (us, e, r) h l = by (subst (λ y. IsAbove S t y (node.Tuple ts)) e h) where
      by : IsAbove S t (node.Tuple us) (node.Tuple ts) → Alike (node.Tuple ts) y
      by (inl g) = cc
      by (inr (c, g, s)) = let i : c ≡ ts = cc in (us, e, pairs_both ts us r (subst (λ c. Pairwise S us c) i s))
    heads (node.Object fs) y d f (gs, e, r) h l = by (subst (λ y. IsAbove S t y (node.Object fs)) e h) (subst AreTold e f) where
      by : IsAbove S t (node.Object gs) (node.Object fs) → AreTold (node.Object gs) → Alike (node.Object fs) y
      by (inl g) told = cc
      by (inr (c, g, s)) told = let i : c ≡ fs = cc in (gs, e, told, fields_match S fs gs (told_own fs d) (told_own gs told) r (subst (λ c. FieldsBelow S gs c) i s))
    heads (node.Actor fs) y d f (gs, e, r) h l = by (subst (λ y. IsAbove S t y (node.Actor fs)) e h) (subst AreTold e f) where
      by : IsAbove S t (node.Actor gs) (node.Actor fs) → AreTold (node.Actor gs) → Alike (node.Actor fs) y
      by (inl g) told = cc
      by (inr (c, g, s)) told = let i : c ≡ fs = cc in (gs, e, told, fields_match S fs gs (distinct_own fs d) (distinct_own gs told) r (subst (λ c. FieldsBelow S gs c) i s))
    heads (node.Variant fs) y d f (gs, e, r) h l = by (subst (λ y. IsAbove S t y (node.Variant fs)) e h) (subst AreTold e f) where
      by : IsAbove S t (node.Variant gs) (node.Variant fs) → AreTold (node.Variant gs) → Alike (node.Variant fs) y
      by (inl g) told = cc
      by (inr (c, g, s)) told = let i : c ≡ fs = cc in (gs, e, told, tags_match S fs gs (told_own fs d) (told_own gs told) r (subst (λ c. TagsBelow S gs c) i s))
    heads (node.Func k ps rs) y d f (qs, ss, e, p, r) h l = by (subst (λ y. IsAbove S t y (node.Func k ps rs)) e h) where
      by : IsAbove S t (node.Func k qs ss) (node.Func k ps rs) → Alike (node.Func k ps rs) y
      by (inl g) = cc
      by (inr (c, w, g, q, s)) = let i : c ≡ ps = cc in let j : w ≡ rs = cc in (qs, ss, e, pairs_both ps qs (subst (λ c. Pairwise S c qs) i q) p, pairs_both rs ss r (subst (λ w. Pairwise S ss w) j s))

    alike : (x y : Node A) → AreTold x → AreTold y → IsAbove S u x y → IsAbove S t y x → IsBelow S t x y → Alike x y
    alike x y d f (inl e) h l = any_alike x y e h
    alike x y d f (inr o) h l = heads x y d f o h l

module _ {A : Type 0} (head : A → Node A) where
  pub heads_alike : (t u : A) → AreTold (head t) → AreTold (head u) → AreEqual head t u → Alike (IsSubtype head) (head t) (head u)
  heads_alike t u d f e = alike (IsSubtype head) t u (head t) (head u) d f (to_above head t u e.0) (to_above head u t e.1) (to_below head u t e.1)
