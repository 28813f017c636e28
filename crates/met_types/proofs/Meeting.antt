-- A type is met.
use Rattle.std.proofs.Common.{Bool, true, false, ◌≡◌, ◌⊎◌, inl, inr, ℕ, zero, suc, ◌+◌, ◌<◌, ◌≤◌, List, [], ◌∷◌, ◌++◌, length, map, Option, Some, None, slice_get, refl, sym, ap, ◌∙◌, subst, arith, length-append}
use Rattle.mo_types.specs.declared.node.Node.TheVariants as node
use Rattle.mo_types.specs.declared.node.TypeId.{TypeId}
use Rattle.mo_types.specs.Graph.{Slot, Open, Defined, node_of, node_entries, node_of_slot, node_or_bottom, head_at, total}
use Rattle.mo_types.specs.Layout.{entries}
use Rattle.mo_types.specs.Sub.{Each, Sub, IsSubtype}
use Rattle.mo_subtype.specs.Renamed.{on_node}
use Rattle.mo_subtype.proofs.Natural.{sub_there, sub_back}
use Rattle.subtype_laws.specs.Reached.{Among}
use Rattle.subtype_laws.proofs.Reflexive.{among_left}
use Rattle.typed_tree.specs.Instances.{types_in}
use Rattle.type_terms.specs.declared.form.Form.{Form}
use Rattle.type_terms.specs.declared.form.TermId.{TermId}
use Rattle.typing_rules.specs.Terms.{Term}
use Rattle.typing_rules.specs.Terms as t
use Rattle.typing_rules.specs.Definitions.{Definitions}
use Rattle.typing_rules.specs.Heads.{head}
use Rattle.typing_rules.specs.Counts.{Reached, Met, Part, FewTypes, sizes}
use Rattle.typing_rules.specs.Graphs.{or_none, term_of}
use Rattle.typing_rules.proofs.Counting.{few}
use Rattle.type_definitions.specs.Meanings.{term}
use Rattle.type_definitions.specs.Tables.{Within, Later}
use Rattle.type_definitions.specs.Definitions.{Listed, rules_in}
use Rattle.type_definitions.proofs.Meanings.{within_on}
use Rattle.met_types.specs.Reached.{IsMissing}
use Rattle.met_types.specs.Closing.{terms_in, Ready, Formed, Covers, Extends, NoRoom}
use Rattle.met_types.specs.Overflowing.{Overflows}
use Rattle.met_types.specs.States.{IsSo}
use Rattle.met_types.proofs.Indexing.{get_either, in_range, there}
use Rattle.met_types.proofs.Extending.{lt_or}
use Rattle.met_types.proofs.NodeParts.{parts_seen, entries_seen, nodes_alike}
use Rattle.met_types.proofs.Counted.{total_above, map_there, map_from, map_many, among_place, place_among, each_place, each_at, graph_term, terms_differ}

some_same : {A : Type 0} (x y : A) → Some x ≡ Some y → x ≡ y
some_same x y h = cc

each_to : {A : Type 0} (P Q : A → Type 0) → ((x : A) → P x → Q x) → (xs : List A) → Each P xs → Each Q xs
each_to P Q k [] h = tt
each_to P Q k (x ∷ xs) h = (k x h.0, each_to P Q k xs h.1)

wide : (defs : Definitions) (xs ys : List Term) (u : Term) → Reached defs xs u → Reached defs (xs ++ ys) u
wide defs xs ys u (Met t m) = Met t (among_left t xs ys m)
wide defs xs ys u (Part t v r m) = Part t v (wide defs xs ys t r) m

last_among : (us : List Term) (u : Term) → Among u (us ++ u ∷ [])
last_among [] u = inl refl
last_among (v ∷ us) u = inr (last_among us u)

among_either : (us : List Term) (v u : Term) → Among u (us ++ v ∷ []) → Among u us ⊎ (v ≡ u)
among_either [] v u (inl e) = inr e
among_either [] v u (inr e) = absurd e
among_either (w ∷ us) v u (inl e) = inl (inl e)
among_either (w ∷ us) v u (inr h) = next (among_either us v u h) where
  next : Among u us ⊎ (v ≡ u) → Among u (w ∷ us) ⊎ (v ≡ u)
  next (inl k) = inl (inr k)
  next (inr k) = inr k

-- ---- one type is added

module _ (l : Listed) (f : List Form) (slots more : List Slot) (old new : List TermId) (id : TermId) (formed : Formed l f slots old (length old)) (w : Within f id) (x : Extends (id ∷ []) old new slots more) where
  abbrev Added : ℕ → TermId → Type 0
  Added i u = (slice_get old i ≡ Some u) ⊎ ((id ≡ u) × (slice_get more i ≡ Some Open))

  which : (i : ℕ) (u : TermId) → slice_get new i ≡ Some u → Added i u
  which i u h = by (lt_or i (length old)) where
    one : Among u (id ∷ []) → id ≡ u
    one (inl e) = e
    one (inr e) = absurd e

    by : (i < length old) ⊎ (length old ≤ i) → Added i u
    by (inl k) = let v = there old i k in inl (v.1 ∙ ap (λ (z : TermId). Some z) (some_same v.0 u (sym (x.keeps i v.0 v.1) ∙ h)))
    by (inr k) = let q = x.added i u k h in inr (one q.0, q.1)

  pub formed_one : Formed l f more new (length old)
  formed_one = record {
    many = x.many;
    different = x.different;
    fits = x.fits;
    within = λ i u h. within i u (which i u h);
    ready = λ i b. ready i (formed.ready i b);
    waiting = λ i b k. (let v = there new i k in (x.added i v.0 b v.1).1);
  }
    where
      within : (i : ℕ) (u : TermId) → Added i u → Within f u
      within i u (inl h) = formed.within i u h
      within i u (inr h) = subst (Within f) h.0 w

      ready : (i : ℕ) → Ready l f slots old i → Ready l f more new i
      ready i r = record {
        own = r.own;
        node = r.node;
        there = x.keeps i r.own r.there;
        slot = x.slots_keep i (Defined r.node) r.slot;
        parts = each_to (λ p. p.index < length old) (λ p. p.index < length new) (λ p q. (let k : length old ≤ length new = x.longer in omega arith)) (types_in r.node) r.parts;
        is = λ later h.
            r.is later h
            ∙ nodes_alike (term_of (terms_in later old)) (term_of (terms_in later new)) r.node
            (each_to (λ p. p.index < length old) (λ p. term_of (terms_in later old) p ≡ term_of (terms_in later new) p)
            (λ p b. (let v = there old p.index b in graph_term later old p v.0 v.1 ∙ sym (graph_term later new p v.0 (x.keeps p.index v.0 v.1)))) (types_in r.node) r.parts);
      }

  module _ (met : List Term) (u : Term) (c : Covers l met f old) (is : (later : List Form) → Later f later → term later id ≡ u) where
    from_one : (later : List Form) → Later f later → (i : ℕ) (v : TermId) → Added i v → Reached (rules_in later l) (met ++ u ∷ []) (term later v)
    from_one later h i v (inl k) = wide (rules_in later l) met (u ∷ []) (term later v) (c.from later h i v k)
    from_one later h i v (inr k) =
        subst (λ (z : Term). Reached (rules_in later l) (met ++ u ∷ []) z) (sym (is later h) ∙ ap (term later) k.0) (Met u (last_among met u))

    pub covers_one : (at : (i : ℕ) × (slice_get new i ≡ Some id)) → Covers l (met ++ u ∷ []) f new
    covers_one at = record {
      from = λ later h i v k. from_one later h i v (which i v k);
      all = λ later h v a. all later h v (among_either met u v a);
    }
      where
        all : (later : List Form) → Later f later → (v : Term) → Among v met ⊎ (u ≡ v) → Among v (terms_in later new)
        all later h v (inl a) =
            let r = among_place v (terms_in later old) (c.all later h v a) in
            let q = map_from (term later) old r.0 v r.1 in
            place_among v (terms_in later new) r.0 (map_there (term later) new r.0 q.0 (x.keeps r.0 q.0 q.1) ∙ ap (λ (z : Term). Some z) q.2)
        all later h v (inr e) = place_among v (terms_in later new) at.0 (map_there (term later) new at.0 id at.1 ∙ ap (λ (z : Term). Some z) (is later h ∙ e))

-- there is no room for it
pub one_overflows : (l : Listed) (f : List Form) (slots : List Slot) (old : List TermId) (id : TermId) (done : ℕ) → Formed l f slots old done → Within f id → NoRoom (id ∷ []) old
    → (met : List Term) (u : Term) → Covers l met f old → ((later : List Form) → Later f later → term later id ≡ u) → Overflows l (met ++ u ∷ []) f
one_overflows l f slots old id done formed w r met u c is later h few2 =
    let zs : List TermId = old ++ id ∷ [] in
    let many : length zs ≡ length old + 1 = length-append old (id ∷ []) in
    let bound = few2 (terms_in later zs)
    (terms_differ f later h zs (λ i j v p q. apart i j v (get_either old id v i p) (get_either old id v j q)) (λ i v q. inside i v (get_either old id v i q)))
    (each_place (Reached (rules_in later l) (met ++ u ∷ [])) (terms_in later zs) (λ i v q. (let k = map_from (term later) zs i v q in subst (Reached (rules_in later l) (met ++ u ∷ [])) k.2 (reach i k.0 (get_either old id k.0 i k.1))))) in
    let size : length (terms_in later zs) ≡ length zs = map_many (term later) zs in
    let small : length (terms_in later zs) ≤ 4096 = bound.0 in
    let full : 4096 < length old + 1 = r.full in
    omega arith
  where
    only : r.part ≡ id
    only = one r.among where
      one : Among r.part (id ∷ []) → r.part ≡ id
      one (inl e) = sym e
      one (inr e) = absurd e

    missing : IsMissing old id
    missing = subst (IsMissing old) only r.missing

    apart : (i j : ℕ) (v : TermId) → (slice_get old i ≡ Some v) ⊎ ((i ≡ length old) × (id ≡ v)) → (slice_get old j ≡ Some v) ⊎ ((j ≡ length old) × (id ≡ v)) → i ≡ j
    apart i j v (inl p) (inl q) = formed.different i j v p q
    apart i j v (inl p) (inr q) = absurd (missing i (p ∙ ap (λ (z : TermId). Some z) (sym q.1)))
    apart i j v (inr p) (inl q) = absurd (missing j (q ∙ ap (λ (z : TermId). Some z) (sym p.1)))
    apart i j v (inr p) (inr q) = p.0 ∙ sym q.0

    inside : (i : ℕ) (v : TermId) → (slice_get old i ≡ Some v) ⊎ ((i ≡ length old) × (id ≡ v)) → Within later v
    inside i v (inl p) = within_on f later v h.grows (formed.within i v p)
    inside i v (inr p) = within_on f later v h.grows (subst (Within f) p.1 w)

    reach : (i : ℕ) (v : TermId) → (slice_get old i ≡ Some v) ⊎ ((i ≡ length old) × (id ≡ v)) → Reached (rules_in later l) (met ++ u ∷ []) (term later v)
    reach i v (inl p) = wide (rules_in later l) met (u ∷ []) (term later v) (c.from later h i v p)
    reach i v (inr p) = subst (λ (z : Term). Reached (rules_in later l) (met ++ u ∷ []) z) (sym (is later h) ∙ ap (term later) p.1) (Met u (last_among met u))

-- ---- a graph that is closed

bottom_head : (defs : Definitions) → head defs t.Bottom ≡ node.Bottom
unfolding head
bottom_head defs = refl

module _ (l : Listed) (f : List Form) (slots : List Slot) (reached : List TermId) (formed : Formed l f slots reached (length reached)) (later : List Form) (h : Later f later) where
  abbrev defs : Definitions
  defs = rules_in later l

  abbrev at : TypeId → Term
  at = term_of (terms_in later reached)

  -- the type of each number has the head of its term
  pub heads : (id : TypeId) → head defs (at id) ≡ on_node at (head_at slots id)
  heads id = by (lt_or id.index (length reached)) where
    by : (id.index < length reached) ⊎ (length reached ≤ id.index) → head defs (at id) ≡ on_node at (head_at slots id)
    by (inl k) =
        let r = formed.ready id.index k in
        ap (head defs) (graph_term later reached id r.own r.there) ∙ (r.is later h ∙ sym (ap (λ (s : Option Slot). on_node at (node_or_bottom (node_of_slot s))) r.slot))
    by (inr k) =
        let many : length reached ≡ length slots = formed.many in
        let none : slice_get slots id.index ≡ None = past slots id.index (omega arith) in
        let nil : slice_get (terms_in later reached) id.index ≡ None = past (terms_in later reached) id.index (let m : length (terms_in later reached) ≡ length reached = map_many (term later) reached in omega arith) in
        ap (λ o. head defs (or_none o)) nil ∙ (bottom_head defs ∙ sym (ap (λ (s : Option Slot). on_node at (node_or_bottom (node_of_slot s))) none))
      where
        past : {A : Type 0} (xs : List A) (i : ℕ) → length xs ≤ i → slice_get xs i ≡ None
        past [] i k = refl
        past (y ∷ xs) zero k = absurd (omega arith)
        past (y ∷ xs) (suc i) k = past xs i (omega arith)

  pub closed : (met : List Term) → Covers l met f reached → (u : Term) → Reached defs met u → Among u (terms_in later reached)
  closed met c u (Met v m) = c.all later h u m
  closed met c u (Part v w r m) =
      let k = among_place v (terms_in later reached) (closed met c v r) in
      let q = map_from (term later) reached k.0 v k.1 in
      inside k.0 q (formed.ready k.0 (in_range reached k.0 q.0 q.1)) m
    where
      inside : (i : ℕ) (q : (y : TermId) × (slice_get reached i ≡ Some y) × (term later y ≡ v)) → Ready l f slots reached i → Among u (types_in (head defs v)) → Among u (terms_in later reached)
      inside i q r m =
          let e : head defs v ≡ on_node at r.node = ap (head defs) (sym (ap (term later) (some_same r.own q.0 (sym r.there ∙ q.1)) ∙ q.2)) ∙ r.is later h in
          let g : types_in (head defs v) ≡ map at (types_in r.node) = ap types_in e ∙ parts_seen at r.node in
          let a : Among u (map at (types_in r.node)) = subst (λ us. Among u us) g m in
          let p = among_place u (map at (types_in r.node)) a in
          let z = map_from at (types_in r.node) p.0 u p.1 in
          let b : z.0.index < length reached = each_at (λ p. p.index < length reached) (types_in r.node) p.0 z.0 r.parts z.1 in
          let y = there reached z.0.index b in
          place_among u (terms_in later reached) z.0.index (map_there (term later) reached z.0.index y.0 y.1 ∙ ap (λ (x : Term). Some x) (sym (graph_term later reached z.0 y.0 y.1) ∙ z.2))

  sizes_small : sizes defs (terms_in later reached) ≤ total slots
  sizes_small = total_above defs slots (terms_in later reached) (map_many (term later) reached ∙ formed.many)
      (λ i s u p q. each i s u p (map_from (term later) reached i u q) (formed.ready i (in_range reached i _ (map_from (term later) reached i u q).1)))
    where
      each : (i : ℕ) (s : Slot) (u : Term) → slice_get slots i ≡ Some s → (y : TermId) × (slice_get reached i ≡ Some y) × (term later y ≡ u) → Ready l f slots reached i → entries (head defs u) ≤ node_entries (node_of s)
      each i s u p q r =
          let z : Defined r.node ≡ s = some_same (Defined r.node) s (sym r.slot ∙ p) in
          let e : entries (head defs u) ≡ entries r.node = ap (λ v. entries (head defs v)) (sym (ap (term later) (some_same r.own q.0 (sym r.there ∙ q.1)) ∙ q.2)) ∙ (ap entries (r.is later h) ∙ entries_seen at r.node) in
          let v : node_entries (node_of s) ≡ entries r.node = ap (λ (c : Slot). node_entries (node_of c)) (sym z) in
          omega arith

  pub few_types : (met : List Term) → Covers l met f reached → FewTypes defs met
  few_types met c =
      let a : length (terms_in later reached) ≡ length reached = map_many (term later) reached in
      let b : length reached ≡ length slots = formed.many in
      let d : length slots ≤ 4096 = formed.fits.0 in
      let e : total slots ≤ 65536 = formed.fits.1 in
      let g : sizes defs (terms_in later reached) ≤ total slots = sizes_small in
      few defs met (terms_in later reached) (closed met c) (omega arith) (omega arith)

  -- ---- subtypes

  pub below_yes : (a b : TypeId) (x y : TermId) → slice_get reached a.index ≡ Some x → slice_get reached b.index ≡ Some y → IsSubtype (head_at slots) a b → IsSubtype (head defs) (term later x) (term later y)
  below_yes a b x y p q s = record {
    by = λ n. subst (λ u. Sub (head defs) n u (term later y)) (graph_term later reached a x p)
        (subst (λ u. Sub (head defs) n (at a) u) (graph_term later reached b y q) (sub_there at (head_at slots) (head defs) heads n a b (s.by n)));
  }

  -- an answer about types of the graph is one about their terms
  pub below_answer : (a b : TypeId) (x y : TermId) (is : Bool) → slice_get reached a.index ≡ Some x → slice_get reached b.index ≡ Some y → IsSo is (IsSubtype (head_at slots) a b) → IsSo is (IsSubtype (head defs) (term later x) (term later y))
  below_answer a b x y true p q s = below_yes a b x y p q s
  below_answer a b x y false p q s = λ z. s (record {
    by = λ n. (sub_back at (head_at slots) (head defs) heads n a b
        (subst (λ u. Sub (head defs) n (at a) u) (sym (graph_term later reached b y q)) (subst (λ u. Sub (head defs) n u (term later y)) (sym (graph_term later reached a x p)) (z.by n))));
  })
