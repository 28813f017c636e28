-- The types of a graph by their terms.
use Rattle.std.proofs.Common.{◌≡◌, ◌⊎◌, inl, inr, ℕ, zero, suc, ◌<◌, ◌≤◌, List, [], ◌∷◌, ◌++◌, length, map, Option, Some, None, slice_get, refl, sym, ap, ap₂, ◌∙◌, subst, arith}
use Rattle.mo_types.specs.declared.node.Field.{Field}
use Rattle.mo_types.specs.declared.node.Node.{Node}
use Rattle.mo_types.specs.declared.node.Node.TheVariants as node
use Rattle.mo_types.specs.declared.node.TypeId.{TypeId}
use Rattle.mo_types.specs.Graph.{Slot, node_of, node_of_slot, node_or_bottom, node_at, head_at}
use Rattle.mo_types.specs.Heads.{async_of}
use Rattle.mo_types.specs.Sub.{AtSome, IsSomething, Each, Sub, IsSubtype}
use Rattle.mo_subtype.specs.Renamed.{on_field, on_node}
use Rattle.mo_subtype.proofs.Natural.{sub_back}
use Rattle.subtype_laws.specs.Reached.{Among}
use Rattle.subtype_laws.proofs.Reflexive as reflexivity
use Rattle.subtype_laws.proofs.Transitive as transitivity
use Rattle.typed_tree.specs.Instances.{field_types, types_in, ParameterAmong, Mentions, MentionsOnly}
use Rattle.typed_tree.specs.OperationTypes.{Distinct}
use Rattle.typed_tree.specs.PatternTypes.{IsInScope}
use Rattle.typed_tree.specs.Types.{AllDefined}
use Rattle.typed_tree.specs.Wants.{Below}
use Rattle.typed_tree.proofs.OwnLabels.{labels_own}
use Rattle.typing_rules.specs.Terms.{Term}
use Rattle.typing_rules.specs.Terms as t
use Rattle.typing_rules.specs.Definitions.{Definitions, bound_at, unfolded}
use Rattle.typing_rules.specs.Graphs.{or_none, term_of}
use Rattle.typing_rules.specs.Heads.{shape, head}
use Rattle.met_types.proofs.Counted.{place_among, each_at}
use Rattle.met_types.proofs.Extending.{lt_or}
use Rattle.met_types.proofs.Indexing.{in_range, there}
use Rattle.met_types.proofs.NodeParts.{parts_seen}
use Rattle.desugaring_laws.specs.GraphOf.{IsGraphOf}
use Rattle.desugaring_laws.specs.Known.{IsKnown}

-- ---- heads

module _ {A B : Type 0} (f : A → B) (g : B → A) where
  map_back : (xs : List A) → Each (λ x. g (f x) ≡ x) xs → map g (map f xs) ≡ xs
  map_back [] h = refl
  map_back (x ∷ xs) h = ap₂ (λ y ys. y ∷ ys) h.0 (map_back xs h.1)

  abbrev made : Field A → A → Field A
  made x p = record { label = x.label; mutable = x.mutable; part = p }

  fields_back : (fs : List (Field A)) → Each (λ x. g (f x) ≡ x) (field_types fs) → map (on_field g) (map (on_field f) fs) ≡ fs
  fields_back [] h = refl
  fields_back (x ∷ fs) h = ap₂ (λ p l. made x p ∷ l) h.0 (fields_back fs h.1)

  left : (xs ys : List A) → Each (λ x. g (f x) ≡ x) (xs ++ ys) → Each (λ x. g (f x) ≡ x) xs
  left [] ys h = tt
  left (x ∷ xs) ys h = (h.0, left xs ys h.1)

  right : (xs ys : List A) → Each (λ x. g (f x) ≡ x) (xs ++ ys) → Each (λ x. g (f x) ≡ x) ys
  right [] ys h = h
  right (x ∷ xs) ys h = right xs ys h.1

  back : (n : Node A) → Each (λ x. g (f x) ≡ x) (types_in n) → on_node g (on_node f n) ≡ n
  back (node.Number k) h = refl
  back node.Bool h = refl
  back node.Char h = refl
  back node.Text h = refl
  back node.Blob h = refl
  back node.Principal h = refl
  back node.Error h = refl
  back node.Null h = refl
  back node.Any h = refl
  back node.Bottom h = refl
  back (node.Opt a) h = ap (λ x. node.Opt x) h.0
  back (node.Array a) h = ap (λ x. node.Array x) h.0
  back (node.MutArray a) h = ap (λ x. node.MutArray x) h.0
  back (node.Tuple ts) h = ap (λ xs. node.Tuple xs) (map_back ts h)
  back (node.Object fs) h = ap (λ xs. node.Object xs) (fields_back fs h)
  back (node.Actor fs) h = ap (λ xs. node.Actor xs) (fields_back fs h)
  back (node.Variant fs) h = ap (λ xs. node.Variant xs) (fields_back fs h)
  back (node.Func s ps rs) h = ap₂ (λ xs ys. node.Func s xs ys) (map_back ps (left ps rs h)) (map_back rs (right ps rs h))
  back (node.Async a) h = ap (λ x. node.Async x) h.0
  back (node.Variable v b) h = ap (λ x. node.Variable v x) h.0

parameter_seen : {A B : Type 0} (f : A → B) (vs : List ℕ) (n : Node A) → ParameterAmong vs n → ParameterAmong vs (on_node f n)
parameter_seen f vs (node.Number k) h = tt
parameter_seen f vs node.Bool h = tt
parameter_seen f vs node.Char h = tt
parameter_seen f vs node.Text h = tt
parameter_seen f vs node.Blob h = tt
parameter_seen f vs node.Principal h = tt
parameter_seen f vs node.Error h = tt
parameter_seen f vs node.Null h = tt
parameter_seen f vs node.Any h = tt
parameter_seen f vs node.Bottom h = tt
parameter_seen f vs (node.Opt a) h = tt
parameter_seen f vs (node.Array a) h = tt
parameter_seen f vs (node.MutArray a) h = tt
parameter_seen f vs (node.Tuple ts) h = tt
parameter_seen f vs (node.Object fs) h = tt
parameter_seen f vs (node.Actor fs) h = tt
parameter_seen f vs (node.Variant fs) h = tt
parameter_seen f vs (node.Func s ps rs) h = tt
parameter_seen f vs (node.Async a) h = tt
parameter_seen f vs (node.Variable v b) h = h

-- ---- numbers

same_place : {A : Type 0} (xs : List A) → Distinct xs → (i j : ℕ) (x : A) → slice_get xs i ≡ Some x → slice_get xs j ≡ Some x → i ≡ j
same_place [] d i j x g h = cc
same_place (y ∷ xs) d zero zero x g h = refl
same_place (y ∷ xs) d zero (suc j) x g h = let e : y ≡ x = cc in absurd (each_at (λ z. y ≡ z → ⊥) xs j x d.0 h e)
same_place (y ∷ xs) d (suc i) zero x g h = let e : y ≡ x = cc in absurd (each_at (λ z. y ≡ z → ⊥) xs i x d.0 g e)
same_place (y ∷ xs) d (suc i) (suc j) x g h = ap suc (same_place xs d.1 i j x g h)

past : {A : Type 0} (xs : List A) (i : ℕ) → length xs ≤ i → slice_get xs i ≡ None
past [] i k = refl
past (y ∷ xs) zero k = absurd (omega arith)
past (y ∷ xs) (suc i) k = past xs i (omega arith)

defined_at : (all slots : List Slot) → AllDefined all slots → (i : ℕ) (s : Slot) → slice_get slots i ≡ Some s → AtSome (node_of s) (λ n. Each (λ p. p.index < length all) (types_in n))
defined_at all [] d i s h = cc
defined_at all (r ∷ slots) d zero s h = let e : r ≡ s = cc in subst (λ z. AtSome (node_of z) (λ n. Each (λ p. p.index < length all) (types_in n))) e d.0
defined_at all (r ∷ slots) d (suc i) s h = defined_at all slots d.1 i s h

bottom_head : (defs : Definitions) → head defs t.Bottom ≡ node.Bottom
unfolding head
bottom_head defs = refl

each_of : {A : Type 0} (P Q : A → Type 0) (xs : List A) → Each P xs → ((x : A) → P x → Q x) → Each Q xs
each_of P Q [] h f = tt
each_of P Q (x ∷ xs) h f = (f x h.0, each_of P Q xs h.1 f)

pub each_among : {A : Type 0} (P : A → Type 0) (xs : List A) → ((x : A) → Among x xs → P x) → Each P xs
each_among P [] f = tt
each_among P (x ∷ xs) f = (f x (inl refl), each_among P xs (λ y m. f y (inr m)))

pub among_each : {A : Type 0} (P : A → Type 0) (xs : List A) (x : A) → Each P xs → Among x xs → P x
among_each P [] x h m = absurd m
among_each P (y ∷ xs) x h (inl e) = subst P e h.0
among_each P (y ∷ xs) x h (inr m) = among_each P xs x h.1 m

each_mapped : {A B : Type 0} (f : A → B) (P : B → Type 0) (xs : List A) → Each (λ x. P (f x)) xs → Each P (map f xs)
each_mapped f P [] h = tt
each_mapped f P (x ∷ xs) h = (h.0, each_mapped f P xs h.1)

-- ---- what types mention

module _ {A : Type 0} (head : A → Node A) (vs : List ℕ) where
  there_all : (u : A) (n : ℕ) → Mentions head vs (suc n) u → Each (Mentions head vs n) (types_in (head u))
  unfolding Mentions
  there_all u n h = h.1

  -- what stands in a type mentions no others
  pub part_mentions : (u v : A) → MentionsOnly head vs u → Among v (types_in (head u)) → MentionsOnly head vs v
  part_mentions u v h m = record { by = λ n. among_each (Mentions head vs n) (types_in (head u)) v (there_all u n (h.by (suc n))) m }

module _ (defs : Definitions) (slots : List Slot) (terms : List Term) (number : Term → TypeId) (g : IsGraphOf defs slots terms number) where
  abbrev node_there : (i : ℕ) → Type 0
  node_there i = (n : Node TypeId) × (node_at slots (record { index = i }) ≡ Some n) × Each (λ p. p.index < length terms) (types_in n)

  defined : (i : ℕ) → i < length terms → node_there i
  defined i h =
      let many : length terms ≡ length slots = g.tied.as_many in
      let s = there slots i (omega arith) in
      found s.0 s.1 (node_of s.0) refl (defined_at slots slots g.lawful.defined i s.0 s.1)
    where
      found : (s : Slot) → slice_get slots i ≡ Some s → (o : Option (Node TypeId)) → node_of s ≡ o → AtSome (node_of s) (λ n. Each (λ p. p.index < length slots) (types_in n)) → node_there i
      found s there None e d = absurd (subst (λ o. AtSome o (λ n. Each (λ p. p.index < length slots) (types_in n))) e d)
      found s there (Some n) e d = (
        n,
        ap node_of_slot there ∙ e,
        subst (λ m. Each (λ p. p.index < m) (types_in n)) (sym g.tied.as_many) (subst (λ o. AtSome o (λ n. Each (λ p. p.index < length slots) (types_in n))) e d),
      )

  at_place : (u : Term) → Among u terms → term_of terms (number u) ≡ u
  at_place u m = ap or_none (g.numbered u m)

  -- each type has the number of its term
  back_at : (i : TypeId) → i.index < length terms → number (term_of terms i) ≡ i
  back_at i h =
      let x = there terms i.index h in
      let e : term_of terms i ≡ x.0 = ap or_none x.1 in
      ap number e ∙ ap (λ n. index n) (same_place terms g.tied.different (number x.0).index i.index x.0 (g.numbered x.0 (place_among x.0 terms i.index x.1)) x.1)
    where
      index : ℕ → TypeId
      index n = record { index = n }

  under : (u : Term) → Among u terms → node_there (number u).index
  under u m = defined (number u).index (in_range terms (number u).index u (g.numbered u m))

  head_seen : (u : Term) (m : Among u terms) → head defs u ≡ on_node (term_of terms) (under u m).0
  head_seen u m = ap (head defs) (sym (at_place u m)) ∙ g.tied.heads (number u) (under u m).0 (under u m).1

  -- the head of a type is that of its term
  pub head_number : (u : Term) → Among u terms → head_at slots (number u) ≡ on_node number (head defs u)
  head_number u m =
      let n = under u m in
      ap node_or_bottom n.1 ∙ (sym (back (term_of terms) number n.0 (each_of (λ p. p.index < length terms) (λ p. number (term_of terms p) ≡ p) (types_in n.0) n.2 back_at)) ∙ sym (ap (on_node number) (head_seen u m)))

  term_among : (i : TypeId) → i.index < length terms → Among (term_of terms i) terms
  term_among i h = let x = there terms i.index h in subst (λ u. Among u terms) (sym (ap or_none x.1)) (place_among x.0 terms i.index x.1)

  -- what stands in a type stands in the graph
  pub parts_there : (u v : Term) → Among u terms → Among v (types_in (head defs u)) → Among v terms
  parts_there u v m p =
      let n = under u m in
      let seen : types_in (head defs u) ≡ map (term_of terms) (types_in n.0) = ap types_in (head_seen u m) ∙ parts_seen (term_of terms) n.0 in
      among_each (λ w. Among w terms) (map (term_of terms) (types_in n.0)) v
      (each_mapped (term_of terms) (λ w. Among w terms) (types_in n.0) (each_of (λ p. p.index < length terms) (λ p. Among (term_of terms p) terms) (types_in n.0) n.2 term_among))
      (subst (λ us. Among v us) seen p)

  async_seen : {A B : Type 0} (f : A → B) (n : Node A) → async_of (on_node f n) ≡ None → async_of n ≡ None
  async_seen f (node.Number k) h = refl
  async_seen f node.Bool h = refl
  async_seen f node.Char h = refl
  async_seen f node.Text h = refl
  async_seen f node.Blob h = refl
  async_seen f node.Principal h = refl
  async_seen f node.Error h = refl
  async_seen f node.Null h = refl
  async_seen f node.Any h = refl
  async_seen f node.Bottom h = refl
  async_seen f (node.Opt a) h = refl
  async_seen f (node.Array a) h = refl
  async_seen f (node.MutArray a) h = refl
  async_seen f (node.Tuple ts) h = refl
  async_seen f (node.Object fs) h = refl
  async_seen f (node.Actor fs) h = refl
  async_seen f (node.Variant fs) h = refl
  async_seen f (node.Func s ps rs) h = refl
  async_seen f (node.Async a) h = cc
  async_seen f (node.Variable v b) h = refl

  among_mapped : {A B : Type 0} (f : A → B) (xs : List A) (x : A) → Among x xs → Among (f x) (map f xs)
  among_mapped f [] x m = absurd m
  among_mapped f (y ∷ xs) x (inl e) = inl (ap f e)
  among_mapped f (y ∷ xs) x (inr m) = inr (among_mapped f xs x m)

  -- a future is no part of a type
  pub part_no_future : (u v : Term) → Among u terms → Among v (types_in (head defs u)) → async_of (head defs v) ≡ None
  part_no_future u v m p =
      async_seen number (head defs v)
      (ap async_of (sym (head_number v (parts_there u v m p)))
      ∙ among_each (λ t. async_of (head_at slots t) ≡ None) (types_in (head_at slots (number u))) (number v) (g.lawful.nodes (number u)).1
      (subst (λ ts. Among (number v) ts) (sym (ap types_in (head_number u m) ∙ parts_seen number (head defs u))) (among_mapped number (types_in (head defs u)) v p)))

  -- what stands in a known type is known
  pub part_known : (vs : List ℕ) (u v : Term) → IsKnown defs terms vs u → (y : Node Term) → head defs u ≡ y → Among v (types_in y) → IsKnown defs terms vs v
  part_known vs u v k y e m =
      let n : Among v (types_in (head defs u)) = subst (λ z. Among v (types_in z)) (sym e) m in
      record {
        there = parts_there u v k.there n;
        fine = record { scoped = part_mentions (head defs) vs u v k.fine.scoped n; no_future = part_no_future u v k.there n };
      }

  pub head_there : (u : Term) → Among u terms → (y : Node Term) → head defs u ≡ y → head_at slots (number u) ≡ on_node number y
  head_there u m y e = head_number u m ∙ ap (on_node number) e

  heads : (i : TypeId) → head defs (term_of terms i) ≡ on_node (term_of terms) (head_at slots i)
  heads i = by (lt_or i.index (length terms)) where
    by : (i.index < length terms) ⊎ (length terms ≤ i.index) → head defs (term_of terms i) ≡ on_node (term_of terms) (head_at slots i)
    by (inl k) = let n = defined i.index k in g.tied.heads i n.0 n.1 ∙ sym (ap (λ o. on_node (term_of terms) (node_or_bottom o)) n.1)
    by (inr k) =
        let many : length terms ≡ length slots = g.tied.as_many in
        let nil : slice_get terms i.index ≡ None = past terms i.index k in
        let none : slice_get slots i.index ≡ None = past slots i.index (omega arith) in
        ap (λ o. head defs (or_none o)) nil ∙ (bottom_head defs ∙ sym (ap (λ (s : Option Slot). on_node (term_of terms) (node_or_bottom (node_of_slot s))) none))

  -- ---- subtypes

  pub reflexive : (i : TypeId) → Below (head_at slots) i i
  reflexive i = reflexivity.reflexive (head_at slots) i (λ u r. labels_own slots g.lawful u)

  pub transitive : (i j k : TypeId) → Below (head_at slots) i j → Below (head_at slots) j k → Below (head_at slots) i k
  transitive i j k p q =
      transitivity.transitive (head_at slots) (λ t u b c n e f. subst (λ z. IsSubtype (head_at slots) b z) (g.lawful.bounds t u b c n e f) (reflexive b)) i j k p q

  pub below_number : (u v : Term) → Among u terms → Among v terms → IsSubtype (head defs) u v → Below (head_at slots) (number u) (number v)
  below_number u v m n s = record {
    by = λ k. sub_from k (s.by k);
  }
    where
      sub_from : (k : ℕ) → Sub (head defs) k u v → Sub (head_at slots) k (number u) (number v)
      sub_from k h =
          sub_back (term_of terms) (head_at slots) (head defs) heads k (number u) (number v)
          (subst (λ z. Sub (head defs) k z (term_of terms (number v))) (sym (at_place u m)) (subst (λ z. Sub (head defs) k u z) (sym (at_place v n)) h))

  -- ---- scopes

  mentions : (vs : List ℕ) (n : ℕ) (u : Term) → Among u terms → Mentions (head defs) vs n u → Mentions (head_at slots) vs n (number u)
  unfolding Mentions
  mentions vs zero u m h = tt
  mentions vs (suc n) u m h = (
    subst (ParameterAmong vs) (sym (head_number u m)) (parameter_seen number vs (head defs u) h.0),
    subst (λ x. Each (Mentions (head_at slots) vs n) (types_in x)) (sym (head_number u m))
        (subst (λ us. Each (Mentions (head_at slots) vs n) us) (sym (parts_seen number (head defs u)))
        (each_mapped number (Mentions (head_at slots) vs n) (types_in (head defs u))
        (each_among (λ v. Mentions (head_at slots) vs n (number v)) (types_in (head defs u))
        (λ v p. mentions vs n v (parts_there u v m p) (among_each (Mentions (head defs) vs n) (types_in (head defs u)) v h.1 p))))),
  )

  pub in_scope : (vs : List ℕ) (u : Term) → Among u terms → MentionsOnly (head defs) vs u → IsInScope slots vs (number u)
  in_scope vs u m h = (subst IsSomething (sym (under u m).1) tt, record { by = λ n. mentions vs n u m (h.by n) })

  -- ---- type parameters

  bound_of_shape : (u : Term) (v : ℕ) (b : Term) → shape defs u ≡ node.Variable v b → bound_at defs.parameters v ≡ b
  bound_of_shape (t.Number k) v b e = cc
  bound_of_shape t.Boolean v b e = cc
  bound_of_shape t.Character v b e = cc
  bound_of_shape t.Text v b e = cc
  bound_of_shape t.Blob v b e = cc
  bound_of_shape t.Principal v b e = cc
  bound_of_shape t.Error v b e = cc
  bound_of_shape t.Null v b e = cc
  bound_of_shape t.Any v b e = cc
  bound_of_shape t.Bottom v b e = cc
  bound_of_shape (t.Optional a) v b e = cc
  bound_of_shape (t.Array a) v b e = cc
  bound_of_shape (t.MutableArray a) v b e = cc
  bound_of_shape (t.Tuple parts) v b e = cc
  bound_of_shape (t.Object fields) v b e = cc
  bound_of_shape (t.Actor methods) v b e = cc
  bound_of_shape (t.Variant tags) v b e = cc
  bound_of_shape (t.Function qs r) v b e = cc
  bound_of_shape (t.Shared how qs r) v b e = cc
  bound_of_shape (t.Async a) v b e = cc
  bound_of_shape (t.Parameter w) v b e =
      let f : node.Variable w (bound_at defs.parameters w) ≡ node.Variable v b = e in
      let i : w ≡ v = cc in
      let j : bound_at defs.parameters w ≡ b = cc in
      subst (λ z. bound_at defs.parameters z ≡ b) i j
  bound_of_shape (t.Use at us) v b e = cc

  bound_is : (u : Term) (v : ℕ) (b : Term) → head defs u ≡ node.Variable v b → bound_at defs.parameters v ≡ b
  unfolding head
  bound_is u v b e = bound_of_shape (unfolded defs.types u) v b e

  -- a type of the graph that is a type parameter has the parameter's bound, which stands in the graph
  pub parameter_at : (i b : TypeId) (v : ℕ) → head_at slots i ≡ node.Variable v b → Among (bound_at defs.parameters v) terms × (number (bound_at defs.parameters v) ≡ b)
  parameter_at i b v e = by (lt_or i.index (length terms)) where
    by : (i.index < length terms) ⊎ (length terms ≤ i.index) → Among (bound_at defs.parameters v) terms × (number (bound_at defs.parameters v) ≡ b)
    by (inl k) =
        let n = defined i.index k in
        let h : n.0 ≡ node.Variable v b = sym (ap node_or_bottom n.1) ∙ e in
        let inside : b.index < length terms = (subst (λ y. Each (λ p. p.index < length terms) (types_in y)) h n.2).0 in
        let seen : head defs (term_of terms i) ≡ node.Variable v (term_of terms b) = heads i ∙ ap (on_node (term_of terms)) e in
        let same : bound_at defs.parameters v ≡ term_of terms b = bound_is (term_of terms i) v (term_of terms b) seen in
        (subst (λ z. Among z terms) (sym same) (term_among b inside), ap number same ∙ back_at b inside)
    by (inr k) =
        let many : length terms ≡ length slots = g.tied.as_many in
        let none : slice_get slots i.index ≡ None = past slots i.index (omega arith) in
        let h : node.Bottom ≡ node.Variable v b = sym (ap (λ (s : Option Slot). node_or_bottom (node_of_slot s)) none) ∙ e in
        absurd (let z : node.Bottom ≡ node.Variable v b = h in cc)
