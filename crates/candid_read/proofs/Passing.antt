-- Values without bytes stand everywhere, so they can be passed over.
use Rattle.std.proofs.Common.{◌≡◌, ℕ, zero, suc, ◌+◌, Bool, true, false, cond, List, [], ◌∷◌, ◌++◌, length, map, Ok, Err, refl, sym, ap, ◌∙◌, subst}
use Rattle.mo_types.specs.Sub.{Each}
use Rattle.mo_types.specs.declared.datum.Datum.{Datum}
use Rattle.mo_types.specs.declared.datum.Datum.TheVariants as part
use Rattle.mo_types.specs.declared.node.Node.{Node}
use Rattle.mo_types.specs.declared.node.Node.TheVariants as node
use Rattle.mo_types.specs.declared.node.Field.{Field}
use Rattle.mo_types.specs.declared.node.Sort.TheVariants as sort
use Rattle.mo_types.specs.declared.node.TypeId.{TypeId}
use Rattle.mo_types.specs.declared.wire.Plain.TheVariants as plain
use Rattle.mo_types.specs.declared.wire.Entry.{Entry}
use Rattle.mo_types.specs.declared.wire.Wire.{Wire}
use Rattle.mo_types.specs.declared.wire.Wire.TheVariants.{Simple, Vec, Record}
use Rattle.mo_types.specs.declared.wire.Ref.{Ref}
use Rattle.mo_types.specs.declared.wire.Ref.TheVariants.{Of, Just}
use Rattle.mo_types.specs.Graph.{Slot, head_at}
use Rattle.mo_types.specs.Wire.{numbered, entry_of, map_entry, map_wire, wire, wire_of_node}
use Rattle.mo_types.specs.Values.{by_label}
use Rattle.mo_types.specs.Spelling.{EmptyHead, EmptyBy}
use Rattle.candid_header.specs.declared.fault.Fault.TheVariants.{BadValue}
use Rattle.candid_header.specs.Reading.{Reading}
use Rattle.candid_types.specs.Shapes.{ref_of, shape_at}
use Rattle.candid_types.specs.Inside.{times, parts_of, inside_by, below}
use Rattle.candid_types.proofs.NumberLemmas.{ref_of_past}
use Rattle.candid_read.specs.declared.known.Known.{Known}
use Rattle.candid_read.specs.Parts.{is_marked, part_by, node_part, ref_part, part_at}
use Rattle.candid_read.specs.Empty.{IsPassed, HasPassedItems}
use Rattle.candid_read.specs.Endless as endless
use Rattle.candid_read.specs.Endless.{In, fields_by, fields_of, Encloses, Deeper}
use Rattle.candid_read.specs.Whole.{Passes}
use Rattle.candid_read.specs.Values.{IsKnown, known_part}
use Rattle.candid_read.proofs.Endings.{one_deeper}
use Rattle.candid_read.proofs.Reach.{IsOver, over_one, over_then, over_each, over_copies}

-- ---- the fields of a record are types of the graph

abbrev IsOf : {A : Type 0} → Ref A → Type 0
IsOf (Of t) = Unit {0}
IsOf (Just p) = ⊥

abbrev FieldsAreOf : {A : Type 0} → Wire (Ref A) → Type 0
FieldsAreOf {A} (Record es) = Each (λ (e : Entry (Ref A)). IsOf e.part) es
FieldsAreOf {A} _ = Unit {0}

module _ {A : Type 0} where
  tuple_fields : (n : ℕ) (ts : List A) → Each (λ (e : Entry (Ref A)). IsOf e.part) (numbered n ts)
  tuple_fields n [] = tt
  tuple_fields n (t ∷ ts) = (tt, tuple_fields (n + 1) ts)

  object_fields : (fs : List (Field A)) → Each (λ (e : Entry (Ref A)). IsOf e.part) (map entry_of fs)
  object_fields [] = tt
  object_fields (f ∷ fs) = (tt, object_fields fs)

  node_fields : (head : A → Node A) (n : Node A) → FieldsAreOf (wire_of_node head n)
  node_fields head (node.Tuple ts) = tuple_fields 0 ts
  node_fields head (node.Object fs) = object_fields (by_label fs)
  node_fields head (node.Func sort.Local ps rs) = tt
  node_fields head (node.Func sort.Shared ps rs) = tt
  node_fields head (node.Func sort.Query ps rs) = tt
  node_fields head n = tt

  ref_fields : (head : A → Node A) (r : Ref A) → FieldsAreOf (wire head r)
  ref_fields head (Of t) = node_fields head (head t)
  ref_fields head (Just p) = tt

field_is : (es : List (Entry ℕ)) → Each (λ (e : Entry (Ref TypeId)). IsOf e.part) (map (map_entry ref_of) es) → (u : ℕ) → In (parts_of es) u → IsOf (ref_of u)
field_is [] h u (k, e) = cc
field_is (e ∷ es) h u (zero, i) = let same : e.part ≡ u = cc in subst (λ (x : ℕ). IsOf (ref_of x)) same h.0
field_is (e ∷ es) h u (suc k, i) = field_is es h.1 u (k, i)

shape_fields : (w : Wire ℕ) → FieldsAreOf (map_wire ref_of w) → (u : ℕ) → In (fields_by w) u → IsOf (ref_of u)
shape_fields (Record es) h u i = field_is es h u i
shape_fields w h u i = let e = i.1 in cc

-- ---- the parts of types without bytes

module _ (E : ℕ → Type 0) where
  each_at : (es : List (Entry ℕ)) → Each (λ (e : Entry ℕ). E e.part) es → (u : ℕ) → In (parts_of es) u → E u
  each_at [] h u (k, e) = cc
  each_at (e ∷ es) h u (zero, i) = let same : e.part ≡ u = cc in subst E same h.0
  each_at (e ∷ es) h u (suc k, i) = each_at es h.1 u (k, i)

  empty_fields : (w : Wire ℕ) → EmptyHead E w → (u : ℕ) → In (fields_by w) u → E u
  empty_fields (Record es) h u i = each_at es h u i
  empty_fields w h u i = let e = i.1 in cc

  -- what is inside a part is its fields
  empty_inside : (w : Wire ℕ) (n : ℕ) → EmptyHead E w → inside_by w n ≡ fields_by w
  empty_inside (Simple p) n h = refl
  empty_inside (Record es) n h = refl
  empty_inside w n h = absurd h

  -- a part that has no bytes
  abbrev Free : Reading Datum → List ℕ → Type 0
  Free p bytes = (d : Datum) × (p bytes ≡ Ok (d, bytes))

  module _ (marks : List Bool) (bytes : List ℕ) where
    shape_free : (w : Wire ℕ) → EmptyHead E w → Free (part_by marks w) bytes
    shape_free (Simple plain.Null) h = (part.Null, refl)
    shape_free (Simple plain.Reserved) h = (part.Null, refl)
    shape_free (Record es) h = (part.Record (length es), refl)
    shape_free w h = absurd h

    module _ {A : Type 0} (head : A → Node A) (f : ℕ → Ref A) where
      no_character : (w : Wire ℕ) → EmptyHead E w → Simple plain.Nat32 ≡ map_wire f w → ⊥
      no_character (Simple plain.Null) h e = cc
      no_character (Simple plain.Reserved) h e = cc
      no_character (Record es) h e = cc
      no_character w h e = h

      no_blob : (w : Wire ℕ) → EmptyHead E w → Vec (Just plain.Nat8) ≡ map_wire f w → ⊥
      no_blob (Simple p) h e = cc
      no_blob (Record es) h e = cc
      no_blob w h e = h

      node_free : (n : Node A) (w : Wire ℕ) → EmptyHead E w → wire_of_node head n ≡ map_wire f w → Free (node_part n (part_by marks w)) bytes
      node_free node.Char w h e = absurd (no_character w h e)
      node_free node.Blob w h e = absurd (no_blob w h e)
      node_free node.Any w h e = (part.Record 0, refl)
      node_free n w h e = shape_free w h

    ref_free : (slots : List Slot) (r : Ref TypeId) (w : Wire ℕ) → IsOf r → EmptyHead E w → wire (head_at slots) r ≡ map_wire ref_of w → Free (ref_part slots r (part_by marks w)) bytes
    ref_free slots (Of t) w o h e = node_free (head_at slots) ref_of (head_at slots t) w h e
    ref_free slots (Just p) w o h e = absurd o

-- ---- whole values

module _ (slots : List Slot) (known : Known) (is : IsKnown slots known) where
  abbrev Levels : ℕ → ℕ → Type 0
  Levels n t = EmptyBy (shape_at known.shapes) n t

  round : (E : ℕ → Type 0) → ((u : ℕ) → E u → Encloses known.shapes u u → ⊥) → (t : ℕ) → Encloses known.shapes t t → ((u : ℕ) → In (fields_of known.shapes t) u → E u) → ⊥
  round E none t (endless.Field i) f = none t (f t i) (endless.Field i)
  round E none t (Deeper {u = s} i d) f = none s (f s i) (one_deeper known.shapes s t s d i)

  not_endless : (n t : ℕ) → Levels n t → Encloses known.shapes t t → ⊥
  unfolding EmptyBy
  not_endless zero t h c = h
  not_endless (suc n) t h c = round (Levels n) (λ u l d. not_endless n u l d) t c (λ u i. empty_fields (Levels n) (shape_at known.shapes t) h u i)

  not_marked : (b : Bool) → (b ≡ true → ⊥) → b ≡ false
  not_marked true f = absurd (f refl)
  not_marked false f = refl

  is_over : (n t : ℕ) → Levels n t → IsOf (ref_of t) → IsOver (known_part slots known) (below known.shapes) t
  unfolding EmptyBy part_at below
  is_over zero t h o todo bytes = absurd h
  is_over (suc n) t h o todo bytes =
      let w = shape_at known.shapes t in
      let a = ref_free (Levels n) known.empty.items bytes slots (ref_of t) w o h (is.table.heads t) in
      let open_ : is_marked known.endless.items t ≡ false = not_marked (is_marked known.endless.items t) (λ m. not_endless (suc n) t h (is.endless.sound t m)) in
      let read : known_part slots known t bytes ≡ Ok (a.0, bytes) = ap (λ b. cond b (Err BadValue) (ref_part slots (ref_of t) (part_by known.empty.items w) bytes)) open_ ∙ a.1 in
      let inner : fields_of known.shapes t ++ todo ≡ below known.shapes t a.0 ++ todo = ap (λ (l : List ℕ). l ++ todo) (sym (empty_inside (Levels n) w (times a.0) h)) in
      over_then (known_part slots known) (below known.shapes) (t ∷ todo) (fields_of known.shapes t ++ todo) todo bytes bytes bytes
      (over_one (known_part slots known) (below known.shapes) todo (fields_of known.shapes t ++ todo) bytes bytes t a.0 read inner)
      (over_each (known_part slots known) (below known.shapes) (fields_of known.shapes t) todo bytes (λ u k i. is_over n u (empty_fields (Levels n) w h u (k, i)) (shape_fields w (subst FieldsAreOf (is.table.heads t) (ref_fields (head_at slots) (ref_of t))) u (k, i))))

  pub passed_over : (t : ℕ) → IsPassed known.empty.items t → IsOver (known_part slots known) (below known.shapes) t
  passed_over t h = let l = is.empty.sound t h.1 in is_over l.0 t l.1 (subst IsOf (sym (ref_of_past t h.0)) tt)

  over_items : (w : Wire ℕ) (n : ℕ) → HasPassedItems known.empty.items w → (todo : List ℕ) (bytes : List ℕ) → Passes (known_part slots known) (below known.shapes) (inside_by w n ++ todo) bytes todo bytes
  over_items (Vec t) n h todo bytes = over_copies (known_part slots known) (below known.shapes) n t todo bytes (passed_over t h)
  over_items w n h todo bytes = absurd h

  -- the part of a vector, whose items are passed over
  pub passed_items : (t : ℕ) (p : Datum) (todo : List ℕ) (bytes rest : List ℕ) → known_part slots known t bytes ≡ Ok (p, rest) → HasPassedItems known.empty.items (shape_at known.shapes t)
      → Passes (known_part slots known) (below known.shapes) (t ∷ todo) bytes todo rest
  unfolding below
  passed_items t p todo bytes rest e h =
      over_then (known_part slots known) (below known.shapes) (t ∷ todo) (below known.shapes t p ++ todo) todo bytes rest rest
      (over_one (known_part slots known) (below known.shapes) todo (below known.shapes t p ++ todo) bytes rest t p e refl)
      (over_items (shape_at known.shapes t) (times p) h todo rest)
