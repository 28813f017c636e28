-- Types of two graphs that correspond are subtypes to a depth in the one exactly where they are in the other.
use Rattle.std.proofs.Common.{◌≡◌, inl, inr, ℕ, zero, suc, List, [], ◌∷◌, Bool, true, false, Some, refl, sym, ap, subst, nat_eq, if◌then◌else◌}
use Rattle.std.specs.Cmp.Lexicographic.{pointwise}
use Rattle.mo_types.specs.declared.node.Node.{Node}
use Rattle.mo_types.specs.declared.node.Node.TheVariants as node
use Rattle.mo_types.specs.declared.node.Field.{Field}
use Rattle.mo_types.specs.Sub.{AtSome, Pairwise, find, Sub, NodeBelow, FieldsBelow, TagsBelow, Fitting}
use Rattle.mo_types.specs.Wire.{SameParts}
use Rattle.subtype_laws.specs.Inversion.{OtherAbove, IsAbove}
use Rattle.subtype_laws.specs.Renamed.{SameFields, Corresponds, Named, AreRenamed}
use Rattle.subtype_laws.proofs.Inversion.{node_above, above_node}

-- ---- the other way round

module _ {A B : Type 0} (R : A → B → Type 0) where
  abbrev pub Turned : B → A → Type 0
  Turned b a = R a b

  parts_turned : (ts : List A) (us : List B) → SameParts R ts us → SameParts Turned us ts
  parts_turned [] [] h = tt
  parts_turned [] (u ∷ us) h = absurd h
  parts_turned (t ∷ ts) [] h = absurd h
  parts_turned (t ∷ ts) (u ∷ us) h = (h.0, parts_turned ts us h.1)

  fields_turned : (fs : List (Field A)) (gs : List (Field B)) → SameFields R fs gs → SameFields Turned gs fs
  fields_turned [] [] h = tt
  fields_turned [] (g ∷ gs) h = absurd h
  fields_turned (f ∷ fs) [] h = absurd h
  fields_turned (f ∷ fs) (g ∷ gs) h = (sym h.0, sym h.1, h.2, fields_turned fs gs h.3)

  pub turned : (x : Node A) (y : Node B) → Corresponds R x y → Corresponds Turned y x
  turned (node.Number k) y e = subst (λ y. Corresponds Turned y (node.Number k)) (sym e) refl
  turned node.Bool y e = subst (λ y. Corresponds Turned y node.Bool) (sym e) refl
  turned node.Char y e = subst (λ y. Corresponds Turned y node.Char) (sym e) refl
  turned node.Text y e = subst (λ y. Corresponds Turned y node.Text) (sym e) refl
  turned node.Blob y e = subst (λ y. Corresponds Turned y node.Blob) (sym e) refl
  turned node.Principal y e = subst (λ y. Corresponds Turned y node.Principal) (sym e) refl
  turned node.Error y e = subst (λ y. Corresponds Turned y node.Error) (sym e) refl
  turned node.Null y e = subst (λ y. Corresponds Turned y node.Null) (sym e) refl
  turned node.Any y e = subst (λ y. Corresponds Turned y node.Any) (sym e) refl
  turned node.Bottom y e = subst (λ y. Corresponds Turned y node.Bottom) (sym e) refl
  turned (node.Opt a) y (b, e, r) = subst (λ y. Corresponds Turned y (node.Opt a)) (sym e) (a, refl, r)
  turned (node.Array a) y (b, e, r) = subst (λ y. Corresponds Turned y (node.Array a)) (sym e) (a, refl, r)
  turned (node.MutArray a) y (b, e, r) = subst (λ y. Corresponds Turned y (node.MutArray a)) (sym e) (a, refl, r)
  turned (node.Async a) y (b, e, r) = subst (λ y. Corresponds Turned y (node.Async a)) (sym e) (a, refl, r)
  turned (node.Tuple ts) y (us, e, r) = subst (λ y. Corresponds Turned y (node.Tuple ts)) (sym e) (ts, refl, parts_turned ts us r)
  turned (node.Object fs) y (gs, e, r) = subst (λ y. Corresponds Turned y (node.Object fs)) (sym e) (fs, refl, fields_turned fs gs r)
  turned (node.Actor fs) y (gs, e, r) = subst (λ y. Corresponds Turned y (node.Actor fs)) (sym e) (fs, refl, fields_turned fs gs r)
  turned (node.Variant fs) y (gs, e, r) = subst (λ y. Corresponds Turned y (node.Variant fs)) (sym e) (fs, refl, fields_turned fs gs r)
  turned (node.Func s ps rs) y (qs, ss, e, p, q) = subst (λ y. Corresponds Turned y (node.Func s ps rs)) (sym e) (ps, rs, refl, parts_turned ps qs p, parts_turned rs ss q)
  turned (node.Variable v a) y (b, e, r) = subst (λ y. Corresponds Turned y (node.Variable v a)) (sym e) (a, refl, r)

-- ---- one rule

module _ {A B : Type 0} (R : A → B → Type 0) (S : A → A → Type 0) (T : B → B → Type 0) (go : (a c : A) (b d : B) → R a b → R c d → S a c → T b d) where
  pairs_go : (ts us : List A) (vs ws : List B) → SameParts R ts vs → SameParts R us ws → Pairwise S ts us → Pairwise T vs ws
  pairs_go [] [] [] [] p q h = tt
  pairs_go (t ∷ ts) (u ∷ us) (v ∷ vs) (w ∷ ws) p q h = (go t u v w p.0 q.0 h.0, pairs_go ts us vs ws p.1 q.1 h.1)
  pairs_go [] [] [] (w ∷ ws) p q h = absurd q
  pairs_go [] [] (v ∷ vs) ws p q h = absurd p
  pairs_go [] (u ∷ us) vs ws p q h = absurd h
  pairs_go (t ∷ ts) [] vs ws p q h = absurd h
  pairs_go (t ∷ ts) (u ∷ us) [] ws p q h = absurd p
  pairs_go (t ∷ ts) (u ∷ us) (v ∷ vs) [] p q h = absurd q

  abbrev SameField : Field A → Field B → Type 0
  SameField f g = (f.label ≡ g.label) × (f.mutable ≡ g.mutable) × R f.part g.part

  -- what is found under a label on one side corresponds to what is found on the other
  found_go : (l : List ℕ) (fs : List (Field A)) (gs : List (Field B)) (P : Field A → Type 0) (Q : Field B → Type 0) → ((f : Field A) (g : Field B) → SameField f g → P f → Q g) → SameFields R fs gs → AtSome (find l fs) P → AtSome (find l gs) Q
  found_go l [] gs P Q k s h = absurd h
  found_go l (f ∷ fs) [] P Q k s h = absurd s
  found_go l (f ∷ fs) (g ∷ gs) P Q k s h = by (pointwise nat_eq f.label l) (pointwise nat_eq g.label l) (ap (λ m. pointwise nat_eq m l) s.0) h (λ h. found_go l fs gs P Q k s.3 h) where
    by : (b c : Bool) → b ≡ c → AtSome (if b then Some f else find l fs) P → (AtSome (find l fs) P → AtSome (find l gs) Q) → AtSome (if c then Some g else find l gs) Q
    by true true e h i = k f g (s.0, s.1, s.2) h
    by false false e h i = i h
    by true false e h i = cc
    by false true e h i = cc

  fitting_go : (a c : Field A) (b d : Field B) (m n o p : Bool) → m ≡ o → n ≡ p → R a.part b.part → R c.part d.part → Fitting S a c m n → Fitting T b d o p
  fitting_go a c b d true true true true e f r s h = (go a.part c.part b.part d.part r s h.0, go c.part a.part d.part b.part s r h.1)
  fitting_go a c b d false false false false e f r s h = go a.part c.part b.part d.part r s h
  fitting_go a c b d true false o p e f r s h = absurd h
  fitting_go a c b d false true o p e f r s h = absurd h
  fitting_go a c b d true true false p e f r s h = cc
  fitting_go a c b d true true true false e f r s h = cc
  fitting_go a c b d false false true p e f r s h = cc
  fitting_go a c b d false false false true e f r s h = cc

  fields_go : (fs gs : List (Field A)) (ks ls : List (Field B)) → SameFields R fs ks → SameFields R gs ls → FieldsBelow S fs gs → FieldsBelow T ks ls
  fields_go fs [] ks [] p q h = tt
  fields_go fs [] ks (l ∷ ls) p q h = absurd q
  fields_go fs (g ∷ gs) ks [] p q h = absurd q
  fields_go fs (g ∷ gs) ks (l ∷ ls) p q h = (
    subst (λ m. AtSome (find m ks) (λ k. Fitting T k l k.mutable l.mutable)) q.0
        (found_go g.label fs ks (λ f. Fitting S f g f.mutable g.mutable) (λ k. Fitting T k l k.mutable l.mutable) (λ f k s. fitting_go f g k l f.mutable g.mutable k.mutable l.mutable s.1 q.1 s.2 q.2) p h.0),
    fields_go fs gs ks ls p q.3 h.1,
  )

  tags_go : (fs gs : List (Field A)) (ks ls : List (Field B)) → SameFields R fs ks → SameFields R gs ls → TagsBelow S fs gs → TagsBelow T ks ls
  tags_go [] gs [] ls p q h = tt
  tags_go [] gs (k ∷ ks) ls p q h = absurd p
  tags_go (f ∷ fs) gs [] ls p q h = absurd p
  tags_go (f ∷ fs) gs (k ∷ ks) ls p q h = (
    subst (λ m. AtSome (find m ls) (λ l. T k.part l.part)) p.0
        (found_go f.label gs ls (λ g. S f.part g.part) (λ l. T k.part l.part) (λ g l s. go f.part g.part k.part l.part p.2 s.2) q h.0),
    tags_go fs gs ks ls p.3 q h.1,
  )

  -- the types above have the heads y and w
  other_go : (c : A) (d : B) (x y : Node A) (w : Node B) → R c d → Corresponds R y w → OtherAbove S c x y → (z : Node B) → Corresponds R x z → OtherAbove T d z w
  other_go c d (node.Number k) y w r q (j, e, h) z p =
      let i : w ≡ node.Number j = subst (λ y. Corresponds R y w) e q in
      subst (λ z. OtherAbove T d z w) (sym p) (j, i, h)
  other_go c d node.Bool y w r q e z p = subst (λ z. OtherAbove T d z w) (sym p) (subst (λ y. Corresponds R y w) e q)
  other_go c d node.Char y w r q e z p = subst (λ z. OtherAbove T d z w) (sym p) (subst (λ y. Corresponds R y w) e q)
  other_go c d node.Text y w r q e z p = subst (λ z. OtherAbove T d z w) (sym p) (subst (λ y. Corresponds R y w) e q)
  other_go c d node.Blob y w r q e z p = subst (λ z. OtherAbove T d z w) (sym p) (subst (λ y. Corresponds R y w) e q)
  other_go c d node.Principal y w r q e z p = subst (λ z. OtherAbove T d z w) (sym p) (subst (λ y. Corresponds R y w) e q)
  other_go c d node.Error y w r q e z p = subst (λ z. OtherAbove T d z w) (sym p) (subst (λ y. Corresponds R y w) e q)
  other_go c d node.Null y w r q (inl e) z p = subst (λ z. OtherAbove T d z w) (sym p) (inl (subst (λ y. Corresponds R y w) e q))
  other_go c d node.Null y w r q (inr (b, e)) z p =
      let i : Corresponds R (node.Opt b) w = subst (λ y. Corresponds R y w) e q in
      subst (λ z. OtherAbove T d z w) (sym p) (inr (i.0, i.1))
  other_go c d node.Any y w r q h z p = absurd h
  other_go c d node.Bottom y w r q h z p = subst (λ z. OtherAbove T d z w) (sym p) tt
  other_go c d (node.Opt a) y w r q (b, e, h) z p =
      let i : Corresponds R (node.Opt b) w = subst (λ y. Corresponds R y w) e q in
      subst (λ z. OtherAbove T d z w) (sym p.1) (i.0, i.1, go a b p.0 i.0 p.2 i.2 h)
  other_go c d (node.Array a) y w r q (b, e, h) z p =
      let i : Corresponds R (node.Array b) w = subst (λ y. Corresponds R y w) e q in
      subst (λ z. OtherAbove T d z w) (sym p.1) (i.0, i.1, go a b p.0 i.0 p.2 i.2 h)
  other_go c d (node.Async a) y w r q (b, e, h) z p =
      let i : Corresponds R (node.Async b) w = subst (λ y. Corresponds R y w) e q in
      subst (λ z. OtherAbove T d z w) (sym p.1) (i.0, i.1, go a b p.0 i.0 p.2 i.2 h)
  other_go c d (node.MutArray a) y w r q (b, e, h, l) z p =
      let i : Corresponds R (node.MutArray b) w = subst (λ y. Corresponds R y w) e q in
      subst (λ z. OtherAbove T d z w) (sym p.1) (i.0, i.1, go a b p.0 i.0 p.2 i.2 h, go b a i.0 p.0 i.2 p.2 l)
  other_go c d (node.Tuple ts) y w r q (us, e, h) z p =
      let i : Corresponds R (node.Tuple us) w = subst (λ y. Corresponds R y w) e q in
      subst (λ z. OtherAbove T d z w) (sym p.1) (i.0, i.1, pairs_go ts us p.0 i.0 p.2 i.2 h)
  other_go c d (node.Object fs) y w r q (gs, e, h) z p =
      let i : Corresponds R (node.Object gs) w = subst (λ y. Corresponds R y w) e q in
      subst (λ z. OtherAbove T d z w) (sym p.1) (i.0, i.1, fields_go fs gs p.0 i.0 p.2 i.2 h)
  other_go c d (node.Actor fs) y w r q (gs, e, h) z p =
      let i : Corresponds R (node.Actor gs) w = subst (λ y. Corresponds R y w) e q in
      subst (λ z. OtherAbove T d z w) (sym p.1) (i.0, i.1, fields_go fs gs p.0 i.0 p.2 i.2 h)
  other_go c d (node.Variant fs) y w r q (gs, e, h) z p =
      let i : Corresponds R (node.Variant gs) w = subst (λ y. Corresponds R y w) e q in
      subst (λ z. OtherAbove T d z w) (sym p.1) (i.0, i.1, tags_go fs gs p.0 i.0 p.2 i.2 h)
  other_go c d (node.Func s ps rs) y w r q (qs, ss, e, h, l) z p =
      let i : Corresponds R (node.Func s qs ss) w = subst (λ y. Corresponds R y w) e q in
      subst (λ z. OtherAbove T d z w) (sym p.2) (i.0, i.1, i.2, pairs_go qs ps i.0 p.0 i.3 p.3 h, pairs_go rs ss p.1 i.1 p.4 i.4 l)
  other_go c d (node.Variable v a) y w r q (inl (b, e)) z p =
      let i : Corresponds R (node.Variable v b) w = subst (λ y. Corresponds R y w) e q in
      subst (λ z. OtherAbove T d z w) (sym p.1) (inl (i.0, i.1))
  other_go c d (node.Variable v a) y w r q (inr s) z p = subst (λ z. OtherAbove T d z w) (sym p.1) (inr (go a c p.0 d p.2 r s))

  above_go : (c : A) (d : B) (x y : Node A) (z w : Node B) → R c d → Corresponds R x z → Corresponds R y w → IsAbove S c x y → IsAbove T d z w
  above_go c d x y z w r p q (inl e) = inl (subst (λ y. Corresponds R y w) e q)
  above_go c d x y z w r p q (inr h) = inr (other_go c d x y w r q h z p)

  pub node_go : (c : A) (d : B) (x y : Node A) (z w : Node B) → R c d → Corresponds R x z → Corresponds R y w → NodeBelow S c x y → NodeBelow T d z w
  node_go c d x y z w r p q h = above_node T d z w (above_go c d x y z w r p q (node_above S c x y h))

-- ---- all depths

module _ {A B : Type 0} (R : A → B → Type 0) (head : A → Node A) (other : B → Node B) (same : (a : A) (b : B) → R a b → Corresponds R (head a) (other b)) where
  pub sub_go : (n : ℕ) (a c : A) (b d : B) → R a b → R c d → Sub head n a c → Sub other n b d
  unfolding Sub
  sub_go zero a c b d r s h = tt
  sub_go (suc n) a c b d r s h = node_go R (Sub head n) (Sub other n) (sub_go n) c d (head a) (head c) (other b) (other d) s (same a b r) (same c d s) h

module _ {A B I : Type 0} (head : A → Node A) (other : B → Node B) (old : I → A) (new : I → B) (renamed : AreRenamed old new head other) where
  abbrev Are : A → B → Type 0
  Are = Named old new

  same : (a : A) (b : B) → Are a b → Corresponds Are (head a) (other b)
  same a b (i, e, f) = subst (λ a. Corresponds Are (head a) (other b)) e (subst (λ b. Corresponds Are (head (old i)) (other b)) f (renamed i))

  pub there : (n : ℕ) (i j : I) → Sub head n (old i) (old j) → Sub other n (new i) (new j)
  there n i j h = sub_go Are head other same n (old i) (old j) (new i) (new j) (i, refl, refl) (j, refl, refl) h

  pub back : (n : ℕ) (i j : I) → Sub other n (new i) (new j) → Sub head n (old i) (old j)
  back n i j h =
      sub_go (Turned Are) other head (λ b a r. turned Are (head a) (other b) (same a b r)) n (new i) (new j) (old i) (old j) (i, refl, refl) (j, refl, refl) h
