-- Equal types in which messages tell labels apart have equal parts of that kind.
use Rattle.std.proofs.Common.{inl, inr, List, [], ◌∷◌, ◌++◌, refl, subst}
use Rattle.mo_types.specs.declared.node.Node.{Node}
use Rattle.mo_types.specs.declared.node.Node.TheVariants as node
use Rattle.mo_types.specs.declared.node.Field.{Field}
use Rattle.mo_types.specs.Sub.{Each, IsSubtype}
use Rattle.mo_types.specs.Values.{types_of}
use Rattle.mo_types.specs.Wire.{SameParts}
use Rattle.subtype_laws.specs.Equal.{AreEqual, IsTold}
use Rattle.subtype_laws.specs.Reached.{Among, parts, Itself, Part}
use Rattle.subtype_laws.proofs.EqualHeads.{Both, Alike, heads_alike}
use Rattle.subtype_laws.proofs.Matching.{Match, Matched}
use Rattle.subtype_laws.proofs.Reflexive.{among_left, among_right}
use Rattle.subtype_laws.proofs.Sorting.{ForSome}

module _ {A : Type 0} (R : A → A → Type 0) (P : A → Type 0) where
  -- related, and both so
  abbrev pub Kept : A → A → Type 0
  Kept a b = R a b × P a × P b

  abbrev AllAmong : List A → Type 0
  AllAmong ts = (a : A) → Among a ts → P a

  both_kept : (a b : A) → Both R a b → P a → P b → Both Kept a b
  both_kept a b r p q = ((r.0, p, q), (r.1, q, p))

  parts_kept : (ts us : List A) → AllAmong ts → AllAmong us → SameParts (Both R) ts us → SameParts (Both Kept) ts us
  parts_kept [] [] p q h = tt
  parts_kept [] (u ∷ us) p q h = absurd h
  parts_kept (t ∷ ts) [] p q h = absurd h
  parts_kept (t ∷ ts) (u ∷ us) p q h = (both_kept t u h.0 (p t (inl refl)) (q u (inl refl)), parts_kept ts us (λ a m. p a (inr m)) (λ a m. q a (inr m)) h.1)

  match_kept : (f g : Field A) → P f.part → P g.part → Match R f g → Match Kept f g
  match_kept f g p q m = (m.0, (m.1, p, q), (m.2, q, p))

  some_right : (f : Field A) (gs : List (Field A)) → P f.part → AllAmong (types_of gs) → ForSome (λ g. Match R f g) gs → ForSome (λ g. Match Kept f g) gs
  some_right f [] p q h = h
  some_right f (g ∷ gs) p q (inl m) = inl (match_kept f g p (q g.part (inl refl)) m)
  some_right f (g ∷ gs) p q (inr h) = inr (some_right f gs p (λ a m. q a (inr m)) h)

  some_left : (g : Field A) (fs : List (Field A)) → P g.part → AllAmong (types_of fs) → ForSome (λ f. Match R f g) fs → ForSome (λ f. Match Kept f g) fs
  some_left g [] p q h = h
  some_left g (f ∷ fs) p q (inl m) = inl (match_kept f g (q f.part (inl refl)) p m)
  some_left g (f ∷ fs) p q (inr h) = inr (some_left g fs p (λ a m. q a (inr m)) h)

  each_right : (fs gs : List (Field A)) → AllAmong (types_of fs) → AllAmong (types_of gs) → Each (λ f. ForSome (λ g. Match R f g) gs) fs → Each (λ f. ForSome (λ g. Match Kept f g) gs) fs
  each_right [] gs p q h = tt
  each_right (f ∷ fs) gs p q h = (some_right f gs (p f.part (inl refl)) q h.0, each_right fs gs (λ a m. p a (inr m)) q h.1)

  each_left : (fs gs : List (Field A)) → AllAmong (types_of fs) → AllAmong (types_of gs) → Each (λ g. ForSome (λ f. Match R f g) fs) gs → Each (λ g. ForSome (λ f. Match Kept f g) fs) gs
  each_left fs [] p q h = tt
  each_left fs (g ∷ gs) p q h = (some_left g fs (q g.part (inl refl)) p h.0, each_left fs gs p (λ a m. q a (inr m)) h.1)

  matched_kept : (fs gs : List (Field A)) → AllAmong (types_of fs) → AllAmong (types_of gs) → Matched R fs gs → Matched Kept fs gs
  matched_kept fs gs p q m = (each_right fs gs p q m.0, each_left fs gs p q m.1)

  abbrev AllParts : Node A → Type 0
  AllParts x = AllAmong (parts x)

  alike_kept : (x y : Node A) → AllParts x → AllParts y → Alike R x y → Alike Kept x y
  alike_kept (node.Number k) y p q e = e
  alike_kept node.Bool y p q e = e
  alike_kept node.Char y p q e = e
  alike_kept node.Text y p q e = e
  alike_kept node.Blob y p q e = e
  alike_kept node.Principal y p q e = e
  alike_kept node.Error y p q e = e
  alike_kept node.Null y p q e = e
  alike_kept node.Any y p q e = e
  alike_kept node.Bottom y p q e = e
  alike_kept (node.Opt a) y p q (b, e, r) = (b, e, both_kept a b r (p a (inl refl)) (subst AllParts e q b (inl refl)))
  alike_kept (node.Array a) y p q (b, e, r) = (b, e, both_kept a b r (p a (inl refl)) (subst AllParts e q b (inl refl)))
  alike_kept (node.MutArray a) y p q h = h
  alike_kept (node.Async a) y p q h = h
  alike_kept (node.Variable v b) y p q h = h
  alike_kept (node.Tuple ts) y p q (us, e, s) = (us, e, parts_kept ts us p (subst AllParts e q) s)
  alike_kept (node.Object fs) y p q (gs, e, f, m) = (gs, e, f, matched_kept fs gs p (subst AllParts e q) m)
  alike_kept (node.Actor fs) y p q (gs, e, f, m) = (gs, e, f, matched_kept fs gs p (subst AllParts e q) m)
  alike_kept (node.Variant fs) y p q (gs, e, f, m) = (gs, e, f, matched_kept fs gs p (subst AllParts e q) m)
  alike_kept (node.Func k ps rs) y p q (qs, ss, e, g, h) =
      let w : AllAmong (qs ++ ss) = subst AllParts e q in
      (qs, ss, e, parts_kept ps qs (λ a m. p a (among_left a ps rs m)) (λ a m. w a (among_left a qs ss m)) g, parts_kept rs ss (λ a m. p a (among_right a ps rs m)) (λ a m. w a (among_right a qs ss m)) h)

module _ {A : Type 0} (head : A → Node A) where
  -- below, and both told
  abbrev pub Told : A → A → Type 0
  Told a b = Kept (IsSubtype head) (IsTold head) a b

  pub told_alike : (t u : A) → Both Told t u → Alike Told (head t) (head u)
  told_alike t u e =
      alike_kept (IsSubtype head) (IsTold head) (head t) (head u) (λ a m v r. e.0.1 v (Part m r)) (λ a m v r. e.0.2 v (Part m r))
      (heads_alike head t u (e.0.1 t Itself) (e.0.2 u Itself) (e.0.0, e.1.0))

  pub both_told : (ts us : List A) → SameParts (AreEqual head) ts us → Each (IsTold head) ts → Each (IsTold head) us → SameParts (Both Told) ts us
  both_told [] [] s p q = tt
  both_told [] (u ∷ us) s p q = absurd s
  both_told (t ∷ ts) [] s p q = absurd s
  both_told (t ∷ ts) (u ∷ us) s p q = (both_kept (IsSubtype head) (IsTold head) t u s.0 p.0 q.0, both_told ts us s.1 p.1 q.1)
