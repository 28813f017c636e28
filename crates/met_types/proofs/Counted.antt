-- How many types there are, and how many parts they have.
use Rattle.std.proofs.Common.{◌≡◌, ◌≢◌, inl, inr, ℕ, zero, suc, ◌+◌, ◌≤◌, List, [], ◌∷◌, length, map, Some, slice_get, slice_set, refl, sym, ap, ◌∙◌, subst, arith}
use Rattle.mo_types.specs.declared.node.Node.{Node}
use Rattle.mo_types.specs.declared.node.TypeId.{TypeId}
use Rattle.mo_types.specs.Graph.{Slot, Open, Defined, node_of, node_entries, total}
use Rattle.mo_types.specs.Layout.{entries}
use Rattle.mo_types.specs.Sub.{Each}
use Rattle.subtype_laws.specs.Reached.{Among}
use Rattle.typed_tree.specs.OperationTypes as o
use Rattle.type_terms.specs.declared.form.Form.{Form}
use Rattle.type_terms.specs.declared.form.TermId.{TermId}
use Rattle.typing_rules.specs.Terms.{Term}
use Rattle.typing_rules.specs.Definitions.{Definitions}
use Rattle.typing_rules.specs.Heads.{head}
use Rattle.typing_rules.specs.Counts.{sizes}
use Rattle.typing_rules.specs.Graphs.{or_none, term_of}
use Rattle.type_definitions.specs.Meanings.{term}
use Rattle.type_definitions.specs.Tables.{Within, Later}
use Rattle.type_definitions.proofs.Different.{terms_apart}
use Rattle.met_types.specs.Reached.{numbered}
use Rattle.met_types.specs.Closing.{Different, terms_in}

pub set_total : (ss : List Slot) (i : ℕ) (n : Node TypeId) → slice_get ss i ≡ Some Open → total (slice_set ss i (Defined n)) ≡ total ss + entries n
set_total [] i n h = cc
set_total (s ∷ ss) zero n h = let g : Some s ≡ Some Open = h in let f : s ≡ Open = cc in let e : node_entries (node_of s) ≡ 0 = ap (λ z. node_entries (node_of z)) f in omega arith
set_total (s ∷ ss) (suc i) n h = let e : total (slice_set ss i (Defined n)) ≡ total ss + entries n = set_total ss i n h in omega arith

module _ (defs : Definitions) where
  -- slots have no more parts than the heads of these terms
  pub total_below : (ss : List Slot) (us : List Term) → length us ≡ length ss
      → ((i : ℕ) (s : Slot) (u : Term) → slice_get ss i ≡ Some s → slice_get us i ≡ Some u → node_entries (node_of s) ≤ entries (head defs u)) → total ss ≤ sizes defs us
  total_below [] [] e h = omega arith
  total_below [] (u ∷ us) e h = absurd (omega arith)
  total_below (s ∷ ss) [] e h = absurd (omega arith)
  total_below (s ∷ ss) (u ∷ us) e h =
      let a : node_entries (node_of s) ≤ entries (head defs u) = h 0 s u refl refl in
      let b : total ss ≤ sizes defs us = total_below ss us (omega arith) (λ i. h (suc i)) in
      omega arith

  -- and no fewer
  pub total_above : (ss : List Slot) (us : List Term) → length us ≡ length ss
      → ((i : ℕ) (s : Slot) (u : Term) → slice_get ss i ≡ Some s → slice_get us i ≡ Some u → entries (head defs u) ≤ node_entries (node_of s)) → sizes defs us ≤ total ss
  total_above [] [] e h = omega arith
  total_above [] (u ∷ us) e h = absurd (omega arith)
  total_above (s ∷ ss) [] e h = absurd (omega arith)
  total_above (s ∷ ss) (u ∷ us) e h =
      let a : entries (head defs u) ≤ node_entries (node_of s) = h 0 s u refl refl in
      let b : sizes defs us ≤ total ss = total_above ss us (omega arith) (λ i. h (suc i)) in
      omega arith

-- ---- lists by their places

module _ {A B : Type 0} (f : A → B) where
  pub map_there : (xs : List A) (i : ℕ) (x : A) → slice_get xs i ≡ Some x → slice_get (map f xs) i ≡ Some (f x)
  map_there [] i x h = cc
  map_there (y ∷ xs) zero x h = let g : Some y ≡ Some x = h in let k : y ≡ x = cc in ap (λ z. Some (f z)) k
  map_there (y ∷ xs) (suc i) x h = map_there xs i x h

  pub map_from : (xs : List A) (i : ℕ) (u : B) → slice_get (map f xs) i ≡ Some u → (x : A) × (slice_get xs i ≡ Some x) × (f x ≡ u)
  map_from [] i u h = cc
  map_from (y ∷ xs) zero u h = let g : Some (f y) ≡ Some u = h in let k : f y ≡ u = cc in (y, refl, k)
  map_from (y ∷ xs) (suc i) u h = map_from xs i u h

  pub map_many : (xs : List A) → length (map f xs) ≡ length xs
  map_many [] = refl
  map_many (x ∷ xs) = ap suc (map_many xs)

module _ {A : Type 0} where
  pub among_place : (u : A) (us : List A) → Among u us → (i : ℕ) × (slice_get us i ≡ Some u)
  among_place u [] h = absurd h
  among_place u (v ∷ us) (inl e) = (0, ap (λ (z : A). Some z) e)
  among_place u (v ∷ us) (inr h) = let r = among_place u us h in (suc r.0, r.1)

  pub place_among : (u : A) (us : List A) (i : ℕ) → slice_get us i ≡ Some u → Among u us
  place_among u [] i h = cc
  place_among u (v ∷ us) zero h = let g : Some v ≡ Some u = h in let k : v ≡ u = cc in inl k
  place_among u (v ∷ us) (suc i) h = inr (place_among u us i h)

  pub each_place : (P : A → Type 0) (us : List A) → ((i : ℕ) (u : A) → slice_get us i ≡ Some u → P u) → Each P us
  each_place P [] h = tt
  each_place P (u ∷ us) h = (h 0 u refl, each_place P us (λ i. h (suc i)))

  pub each_at : (P : A → Type 0) (us : List A) (i : ℕ) (u : A) → Each P us → slice_get us i ≡ Some u → P u
  each_at P [] i u h e = cc
  each_at P (v ∷ us) zero u h e = let g : Some v ≡ Some u = e in let k : v ≡ u = cc in subst P k h.0
  each_at P (v ∷ us) (suc i) u h e = each_at P us i u h.1 e

-- the term of a type of the graph
pub graph_term : (later : List Form) (reached : List TermId) (id : TypeId) (t : TermId) → slice_get reached id.index ≡ Some t → term_of (terms_in later reached) id ≡ term later t
graph_term later reached id t h = ap or_none (map_there (term later) reached id.index t h)

-- ---- different terms

module _ (forms later : List Form) (h : Later forms later) where
  same_term : (t u : TermId) → t.index ≡ u.index → t ≡ u
  same_term t u e = ap numbered e

  pub terms_differ : (xs : List TermId) → Different xs → ((i : ℕ) (t : TermId) → slice_get xs i ≡ Some t → Within later t) → o.Distinct (terms_in later xs)
  terms_differ [] d w = tt
  terms_differ (x ∷ xs) d w = (
    each_place (λ u. term later x ≢ u) (terms_in later xs) (λ i u e k. clash i (map_from (term later) xs i u e) k),
    terms_differ xs (λ i j t e g. (let k : suc i ≡ suc j = d (suc i) (suc j) t e g in omega arith)) (λ i. w (suc i)),
  )
    where
      clash : {u : Term} (i : ℕ) → (y : TermId) × (slice_get xs i ≡ Some y) × (term later y ≡ u) → term later x ≡ u → ⊥
      clash i r e =
          let k : x.index ≡ r.0.index = terms_apart later h.founded h.distinct x r.0 (w 0 x refl) (w (suc i) r.0 r.1) (e ∙ sym r.2) in
          let z : 0 ≡ suc i = d 0 (suc i) x refl (r.1 ∙ ap (λ (y : TermId). Some y) (sym (same_term x r.0 k))) in
          absurd (omega arith)
