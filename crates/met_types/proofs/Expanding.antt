-- A type gets its head.
use Rattle.std.proofs.Common.{◌≡◌, ◌⊎◌, inl, inr, ℕ, suc, ◌+◌, ◌<◌, ◌≤◌, List, [], ◌∷◌, ◌++◌, length, map, Some, slice_get, slice_set, refl, sym, ap, ◌∙◌, subst, arith, length-append}
use Rattle.mo_types.specs.declared.node.Node.{Node}
use Rattle.mo_types.specs.declared.node.TypeId.{TypeId}
use Rattle.mo_types.specs.Graph.{Slot, Open, Defined, node_of, node_entries, total}
use Rattle.mo_types.specs.Layout.{entries}
use Rattle.mo_types.specs.Sub.{Each}
use Rattle.mo_subtype.specs.Renamed.{on_node}
use Rattle.subtype_laws.specs.Reached.{Among}
use Rattle.typed_tree.specs.Instances.{types_in}
use Rattle.type_terms.specs.declared.form.Form.{Form}
use Rattle.type_terms.specs.declared.form.TermId.{TermId}
use Rattle.typing_rules.specs.Terms.{Term}
use Rattle.typing_rules.specs.Heads.{head}
use Rattle.typing_rules.specs.Counts.{Reached, Part, sizes}
use Rattle.typing_rules.specs.Graphs.{term_of}
use Rattle.type_definitions.specs.Meanings.{term}
use Rattle.type_definitions.specs.Tables.{Within, Later}
use Rattle.type_definitions.specs.Definitions.{Listed, rules_in}
use Rattle.type_definitions.specs.Heads.{MakesNode, IsHeadOf}
use Rattle.type_definitions.proofs.Meanings.{later_on, within_on}
use Rattle.met_types.specs.Nodes.{typed_node}
use Rattle.met_types.specs.Closing.{terms_in, Ready, Formed, Covers, Extends, NoRoom, AreNumbers}
use Rattle.met_types.specs.Overflowing.{Overflows, Waits, Given}
use Rattle.met_types.proofs.Indexing.{get_either, in_range, there, set_same, set_other, set_length, equal_or}
use Rattle.met_types.proofs.Extending.{lt_or}
use Rattle.met_types.proofs.NodeParts.{typed, typed_parts, parts_seen, entries_seen, nodes_alike}
use Rattle.met_types.proofs.Counted.{set_total, total_below, map_there, map_from, map_many, among_place, place_among, each_place, each_at, graph_term, terms_differ}

some_same : {A : Type 0} (x y : A) → Some x ≡ Some y → x ≡ y
some_same x y h = cc

each_to : {A : Type 0} (P Q : A → Type 0) → ((x : A) → P x → Q x) → (xs : List A) → Each P xs → Each Q xs
each_to P Q k [] h = tt
each_to P Q k (x ∷ xs) h = (k x h.0, each_to P Q k xs h.1)

-- the terms of the numbers of parts
numbers_are : (later : List Form) (reached ps : List TermId) (ids : List TypeId) → AreNumbers reached ps ids → map (term_of (terms_in later reached)) ids ≡ map (term later) ps
numbers_are later reached [] [] h = refl
numbers_are later reached [] (i ∷ ids) h = absurd h
numbers_are later reached (p ∷ ps) [] h = absurd h
numbers_are later reached (p ∷ ps) (i ∷ ids) h =
    ap (λ u. u ∷ map (term_of (terms_in later reached)) ids) (graph_term later reached i p h.0) ∙ ap (λ us. term later p ∷ us) (numbers_are later reached ps ids h.1)

numbers_many : (reached ps : List TermId) (ids : List TypeId) → AreNumbers reached ps ids → length ids ≡ length ps
numbers_many reached [] [] h = refl
numbers_many reached [] (i ∷ ids) h = absurd h
numbers_many reached (p ∷ ps) [] h = absurd h
numbers_many reached (p ∷ ps) (i ∷ ids) h = ap suc (numbers_many reached ps ids h.1)

numbers_within : (reached ps : List TermId) (ids : List TypeId) → AreNumbers reached ps ids → Each (λ i. i.index < length reached) ids
numbers_within reached [] [] h = tt
numbers_within reached [] (i ∷ ids) h = absurd h
numbers_within reached (p ∷ ps) [] h = absurd h
numbers_within reached (p ∷ ps) (i ∷ ids) h = (in_range reached i.index p h.0, numbers_within reached ps ids h.1)

pub as_many_parts : (reached ps : List TermId) (n : Node TermId) (ids : List TypeId) → ps ≡ types_in n → AreNumbers reached ps ids → length ids ≡ length (types_in n)
as_many_parts reached ps n ids e h = numbers_many reached ps ids h ∙ ap length e

module _ (l : Listed) (f g : List Form) (slots more : List Slot) (old new : List TermId) (place : ℕ) (own : TermId) (n : Node TermId) (ids : List TypeId) (ps : List TermId)
    (formed : Formed l f slots old place) (at : slice_get old place ≡ Some own) (m : MakesNode f (IsHeadOf l own n) n g) (e : ps ≡ types_in n) (x : Extends ps old new slots more) where
  abbrev Added : ℕ → TermId → Type 0
  Added i t = (slice_get old i ≡ Some t) ⊎ (Among t ps × (slice_get more i ≡ Some Open) × (length old ≤ i))

  -- each is an old one or a part
  which : (i : ℕ) (t : TermId) → slice_get new i ≡ Some t → Added i t
  which i t h = by (lt_or i (length old)) where
    by : (i < length old) ⊎ (length old ≤ i) → Added i t
    by (inl k) =
        let v = there old i k in
        inl (v.1 ∙ ap (λ (z : TermId). Some z) (some_same v.0 t (sym (x.keeps i v.0 v.1) ∙ h)))
    by (inr k) = let q = x.added i t k h in inr (q.0, q.1, k)

  part_within : (t : TermId) → Among t ps → Within g t
  part_within t a =
      let r = among_place t ps a in
      each_at (Within g) (types_in n) r.0 t m.within (ap (λ (zs : List TermId). slice_get zs r.0) (sym e) ∙ r.1)

  pub new_within : (i : ℕ) (t : TermId) → slice_get new i ≡ Some t → Within g t
  new_within i t h = by (which i t h) where
    by : Added i t → Within g t
    by (inl k) = within_on f g t m.grows (formed.within i t k)
    by (inr k) = part_within t k.0

  head_is : (later : List Form) → Later g later → head (rules_in later l) (term later own) ≡ on_node (term later) n
  head_is later h = sym (m.is later h)

  module _ (met : List Term) (c : Covers l met f old) where
    part_reached : (later : List Form) → Later g later → (t : TermId) → Among t ps → Reached (rules_in later l) met (term later t)
    part_reached later h t a =
        let r = among_place t ps a in
        let inside : Among (term later t) (types_in (on_node (term later) n)) =
        subst (λ us. Among (term later t) us) (sym (parts_seen (term later) n))
        (place_among (term later t) (map (term later) (types_in n)) r.0 (map_there (term later) (types_in n) r.0 t (ap (λ (zs : List TermId). slice_get zs r.0) (sym e) ∙ r.1))) in
        Part (term later own) (term later t) (c.from later (later_on f g later m.grows h) place own at) (subst (λ y. Among (term later t) (types_in y)) (sym (head_is later h)) inside)

    pub from_all : (later : List Form) → Later g later → (i : ℕ) (t : TermId) → slice_get new i ≡ Some t → Reached (rules_in later l) met (term later t)
    from_all later h i t k = by (which i t k) where
      by : Added i t → Reached (rules_in later l) met (term later t)
      by (inl q) = c.from later (later_on f g later m.grows h) i t q
      by (inr q) = part_reached later h t q.0

    pub covers_new : Covers l met g new
    covers_new = record {
      from = from_all;
      all = λ later h u a.
          let r = among_place u (terms_in later old) (c.all later (later_on f g later m.grows h) u a) in
          let q = map_from (term later) old r.0 u r.1 in
          place_among u (terms_in later new) r.0 (map_there (term later) new r.0 q.0 (x.keeps r.0 q.0 q.1) ∙ ap (λ (z : Term). Some z) q.2);
    }

    reached_each : (later : List Form) → Later g later → (zs : List TermId) → ((i : ℕ) (t : TermId) → slice_get zs i ≡ Some t → Reached (rules_in later l) met (term later t)) → Each (Reached (rules_in later l) met) (terms_in later zs)
    reached_each later h zs k = each_place (Reached (rules_in later l) met) (terms_in later zs)
        (λ i u q. (let r = map_from (term later) zs i u q in subst (Reached (rules_in later l) met) r.2 (k i r.0 r.1)))

    within_later : (later : List Form) → Later g later → (t : TermId) → Within g t → Within later t
    within_later later h t w = within_on g later t h.grows w

    -- there is no room for a part
    pub no_room_overflows : NoRoom ps new → Overflows l met g
    no_room_overflows r later h few =
        let zs : List TermId = new ++ r.part ∷ [] in
        let many : length zs ≡ length new + 1 = length-append new (r.part ∷ []) in
        let all : (i : ℕ) (t : TermId) → slice_get zs i ≡ Some t → (slice_get new i ≡ Some t) ⊎ ((i ≡ length new) × (r.part ≡ t)) = λ i t q. get_either new r.part t i q in
        let few2 = few (terms_in later zs)
        (terms_differ g later h zs (λ i j t p q. apart i j t (all i t p) (all j t q)) (λ i t q. inside i t (all i t q)))
        (reached_each later h zs (λ i t q. reach i t (all i t q))) in
        let size : length (terms_in later zs) ≡ length zs = map_many (term later) zs in
        let small : length (terms_in later zs) ≤ 4096 = few2.0 in
        let full : 4096 < length new + 1 = r.full in
        omega arith
      where
        apart : (i j : ℕ) (t : TermId) → (slice_get new i ≡ Some t) ⊎ ((i ≡ length new) × (r.part ≡ t)) → (slice_get new j ≡ Some t) ⊎ ((j ≡ length new) × (r.part ≡ t)) → i ≡ j
        apart i j t (inl p) (inl q) = x.different i j t p q
        apart i j t (inl p) (inr q) = absurd (r.missing i (p ∙ ap (λ (z : TermId). Some z) (sym q.1)))
        apart i j t (inr p) (inl q) = absurd (r.missing j (q ∙ ap (λ (z : TermId). Some z) (sym p.1)))
        apart i j t (inr p) (inr q) = p.0 ∙ sym q.0

        inside : (i : ℕ) (t : TermId) → (slice_get new i ≡ Some t) ⊎ ((i ≡ length new) × (r.part ≡ t)) → Within later t
        inside i t (inl p) = within_later later h t (new_within i t p)
        inside i t (inr p) = within_later later h t (subst (Within g) p.1 (part_within r.part r.among))

        reach : (i : ℕ) (t : TermId) → (slice_get new i ≡ Some t) ⊎ ((i ≡ length new) × (r.part ≡ t)) → Reached (rules_in later l) met (term later t)
        reach i t (inl p) = from_all later h i t p
        reach i t (inr p) = subst (λ (z : TermId). Reached (rules_in later l) met (term later z)) p.1 (part_reached later h r.part r.among)

  -- ---- with the numbers of the parts

  module _ (numbers : AreNumbers new ps ids) where
    abbrev made : Node TypeId
    made = typed_node n ids

    made_is : (later : List Form) → Later g later → head (rules_in later l) (term later own) ≡ on_node (term_of (terms_in later new)) made
    made_is later h =
        head_is later h ∙ sym (typed (term_of (terms_in later new)) (term later) n ids (numbers_are later new ps ids numbers ∙ ap (map (term later)) e))

    made_parts : types_in made ≡ ids
    made_parts = typed_parts n ids (as_many_parts new ps n ids e numbers)

    own_new : slice_get new place ≡ Some own
    own_new = x.keeps place own at

    pub waits : Waits new more own
    waits i h =
        let k : i ≡ place = x.different i place own h own_new in
        ap (slice_get more) k ∙ x.slots_keep place Open (formed.waiting place (let r : place ≤ place = omega arith in r) (in_range old place own at))

    -- the head of an old type, in the new graph
    old_head : (i : ℕ) (r : Ready l f slots old i) (later : List Form) → Later g later → head (rules_in later l) (term later r.own) ≡ on_node (term_of (terms_in later new)) r.node
    old_head i r later h =
        r.is later (later_on f g later m.grows h)
        ∙ nodes_alike (term_of (terms_in later old)) (term_of (terms_in later new)) r.node
        (each_to (λ p. p.index < length old) (λ p. term_of (terms_in later old) p ≡ term_of (terms_in later new) p)
        (λ p b. (let v = there old p.index b in graph_term later old p v.0 v.1 ∙ sym (graph_term later new p v.0 (x.keeps p.index v.0 v.1)))) (types_in r.node) r.parts)

    module _ (slots2 : List Slot) (given : Given new more own made slots2) where
      at_place : given.place ≡ place
      at_place = x.different given.place place own given.there own_new

      set : slots2 ≡ slice_set more place (Defined made)
      set = given.slots ∙ ap (λ i. slice_set more i (Defined made)) at_place

      open_there : slice_get more place ≡ Some Open
      open_there = waits place own_new

      in_slots : place < length more
      in_slots = in_range more place Open open_there

      other : (i : ℕ) → (place ≡ i → ⊥) → slice_get slots2 i ≡ slice_get more i
      other i k = ap (λ (zs : List Slot). slice_get zs i) set ∙ set_other more place i (Defined made) k

      ready_new : (i : ℕ) → i < suc place → (place ≡ i) ⊎ (place ≡ i → ⊥) → Ready l g slots2 new i
      ready_new i b (inl k) = record {
        own = own;
        node = made;
        there = ap (slice_get new) (sym k) ∙ own_new;
        slot = ap (λ (zs : List Slot). slice_get zs i) set ∙ (ap (slice_get (slice_set more place (Defined made))) (sym k) ∙ set_same more place (Defined made) in_slots);
        parts = subst (λ js. Each (λ p. p.index < length new) js) (sym made_parts) (numbers_within new ps ids numbers);
        is = made_is;
      }
      ready_new i b (inr k) =
          let less : i < place = below k in
          let r = formed.ready i less in
          record {
            own = r.own;
            node = r.node;
            there = x.keeps i r.own r.there;
            slot = other i k ∙ x.slots_keep i (Defined r.node) r.slot;
            parts = each_to (λ p. p.index < length old) (λ p. p.index < length new) (λ p q. (let w : length old ≤ length new = x.longer in omega arith)) (types_in r.node) r.parts;
            is = old_head i r;
          }
        where
          below : (place ≡ i → ⊥) → i < place
          below k = omega arith

      pub formed_new : Formed l g slots2 new (place + 1)
      formed_new = record {
        many = x.many ∙ sym (ap length set ∙ set_length more place (Defined made));
        different = x.different;
        fits = (
          let k : length slots2 ≡ length more = ap length set ∙ set_length more place (Defined made) in let z : length more ≤ 4096 = x.fits.0 in omega arith,
          let k : total slots2 ≡ total more + entries made = ap total set ∙ set_total more place made open_there in let z : total more + entries made ≤ 65536 = given.fits in omega arith,
        );
        within = new_within;
        ready = λ i b. ready_new i (omega arith) (equal_or place i);
        waiting = λ i b k. waiting_new i b k (lt_or i (length old));
      }
        where
          waiting_new : (i : ℕ) → place + 1 ≤ i → i < length new → (i < length old) ⊎ (length old ≤ i) → slice_get slots2 i ≡ Some Open
          waiting_new i b k (inl q) = other i (λ z. absurd (omega arith)) ∙ x.slots_keep i Open (formed.waiting i (omega arith) q)
          waiting_new i b k (inr q) =
              let v = there new i k in
              other i (λ z. absurd (omega arith)) ∙ (x.added i v.0 q v.1).1

    -- the head has too many parts
    pub parts_overflow : (met : List Term) → Covers l met f old → 65536 < total more + entries made → Overflows l met g
    parts_overflow met c full later h few =
        let defs = rules_in later l in
        let us : List Term = terms_in later new in
        let slots2 : List Slot = slice_set more place (Defined made) in
        let few2 = few us (terms_differ g later h new x.different (λ i t q. within_later met c later h t (new_within i t q))) (reached_each met c later h new (from_all met c later h)) in
        let t : total slots2 ≡ total more + entries made = set_total more place made (waits place own_new) in
        let many : length us ≡ length slots2 = map_many (term later) new ∙ (x.many ∙ sym (set_length more place (Defined made))) in
        let below : total slots2 ≤ sizes defs us = total_below defs slots2 us many (λ i s u p q. covered later h i s u p (map_from (term later) new i u q) (equal_or place i)) in
        let small : sizes defs us ≤ 65536 = few2.1 in
        omega arith
      where
        covered : (later : List Form) → Later g later → (i : ℕ) (s : Slot) (u : Term) → slice_get (slice_set more place (Defined made)) i ≡ Some s → (t : TermId) × (slice_get new i ≡ Some t) × (term later t ≡ u)
            → (place ≡ i) ⊎ (place ≡ i → ⊥) → node_entries (node_of s) ≤ entries (head (rules_in later l) u)
        covered later h i s u p q (inl k) =
            let in_more : place < length more = in_range more place Open (waits place own_new) in
            let z : Defined made ≡ s = some_same (Defined made) s (sym (set_same more place (Defined made) in_more) ∙ (ap (slice_get (slice_set more place (Defined made))) k ∙ p)) in
            let y : own ≡ q.0 = some_same own q.0 (sym own_new ∙ (ap (slice_get new) k ∙ q.1)) in
            let w : entries (head (rules_in later l) u) ≡ entries made =
            ap (λ v. entries (head (rules_in later l) v)) (sym (ap (term later) y ∙ q.2)) ∙ (ap entries (made_is later h) ∙ entries_seen (term_of (terms_in later new)) made) in
            let v : node_entries (node_of s) ≡ entries made = ap (λ (b : Slot). node_entries (node_of b)) (sym z) in
            omega arith
        covered later h i s u p q (inr k) = by (lt_or i place) where
          p2 : slice_get more i ≡ Some s
          p2 = sym (set_other more place i (Defined made) k) ∙ p

          by : (i < place) ⊎ (place ≤ i) → node_entries (node_of s) ≤ entries (head (rules_in later l) u)
          by (inl b) =
              let r = formed.ready i b in
              let z : Defined r.node ≡ s = some_same (Defined r.node) s (sym (x.slots_keep i (Defined r.node) r.slot) ∙ p2) in
              let y : r.own ≡ q.0 = some_same r.own q.0 (sym (x.keeps i r.own r.there) ∙ q.1) in
              let w : entries (head (rules_in later l) u) ≡ entries r.node =
              ap (λ v. entries (head (rules_in later l) v)) (sym (ap (term later) y ∙ q.2)) ∙ (ap entries (old_head i r later h) ∙ entries_seen (term_of (terms_in later new)) r.node) in
              let v : node_entries (node_of s) ≡ entries r.node = ap (λ (c : Slot). node_entries (node_of c)) (sym z) in
              omega arith
          by (inr b) =
              let z : slice_get more i ≡ Some Open = waiting_here (which i q.0 q.1) in
              let y : Open ≡ s = some_same Open s (sym z ∙ p2) in
              let v : node_entries (node_of s) ≡ 0 = ap (λ (c : Slot). node_entries (node_of c)) (sym y) in
              omega arith
            where
              waiting_here : Added i q.0 → slice_get more i ≡ Some Open
              waiting_here (inl a) = x.slots_keep i Open (formed.waiting i b (in_range old i q.0 a))
              waiting_here (inr a) = a.1
