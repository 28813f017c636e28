-- Motoko values are read exactly by the numbers of their types.
use Rattle.std.proofs.Common.{◌≡◌, ℕ, zero, suc, Bool, true, false, cond, List, [], ◌∷◌, ◌++◌, length, map, Result, Ok, Err, refl, sym, ap, ◌∙◌, subst}
use Rattle.std.specs.Prelude.{IfOk}
use Rattle.std.proofs.lemmas.List.{length-map}
use Rattle.mo_types.specs.declared.datum.Datum.{Datum}
use Rattle.mo_types.specs.declared.node.TypeId.{TypeId}
use Rattle.mo_types.specs.declared.wire.Wire.{Wire}
use Rattle.mo_types.specs.declared.wire.Wire.TheVariants.{Record}
use Rattle.mo_types.specs.declared.wire.Ref.{Ref}
use Rattle.mo_types.specs.Graph.{Slot, head_at}
use Rattle.mo_types.specs.Wire.{refs, wire}
use Rattle.mo_types.specs.Values.{Values, Nil, Value, arity, flat, tree}
use Rattle.mo_types.specs.Spelling.{padded, FewEmpty}
use Rattle.candid_header.specs.declared.fault.Fault.TheVariants.{BadValue}
use Rattle.candid_header.specs.declared.fault.Fault.{Fault}
use Rattle.exact_reading.specs.declared.stop.Stop.{Stop}
use Rattle.exact_reading.specs.declared.stop.Stop.TheVariants as stop
use Rattle.candid_header.specs.Reading.{Reading}
use Rattle.exact_reading.proofs.Exact.{Exact, not_ok}
use Rattle.candid_types.specs.Shapes.{ref_of, shape_at}
use Rattle.candid_types.specs.Inside.{times, inside_by, below}
use Rattle.candid_forms.specs.Forms.{FormsBy, IsPartAt, Forms}
use Rattle.candid_forms.proofs.ByNumber.{inside_same, numbers_to, numbers_from}
use Rattle.candid_read.specs.declared.known.Known.{Known}
use Rattle.candid_read.specs.Parts.{is_marked, part_by, ref_part, part_at}
use Rattle.candid_read.specs.Endless.{In, fields_by, fields_of, Encloses, Field, Deeper}
use Rattle.candid_read.specs.Whole.{Reaches, Passes, Stops, IfFault, Takes, Finds, Leaves}
use Rattle.candid_read.specs.Values.{Read, IsKnown, known_part, Breaks}
use Rattle.candid_read.proofs.Endings.{one_deeper}
use Rattle.candid_read.proofs.Arities.{ref_arity}
use Rattle.candid_read.proofs.Renamed.{wire_exact}
use Rattle.candid_read.proofs.Motoko.{ref_exact}
use Rattle.candid_read.proofs.Trees.{found_is, only_is}

-- ---- a record that contains itself has no values

fields_inside : (w : Wire ℕ) (n u : ℕ) → In (fields_by w) u → In (inside_by w n) u
fields_inside (Record es) n u i = i
fields_inside w n u i = let e = i.1 in cc

module _ (shapes : List (Wire ℕ)) (P : ℕ → Datum → List ℕ → Type 0) where
  inside_it : (t u : ℕ) (p : Datum) → In (fields_of shapes t) u → In (below shapes t p) u
  unfolding below
  inside_it t u p i = fields_inside (shape_at shapes t) (times p) u i

  no_value : (ts : List ℕ) (v : Values) (bytes : List ℕ) (t : ℕ) → In ts t → Encloses shapes t t → FormsBy P (below shapes) ts v bytes → ⊥
  no_value [] v bytes t i e h = let k = i.1 in cc
  no_value (u ∷ ts) Nil bytes t i e h = h
  no_value (u ∷ ts) (Value p inner others) bytes t (suc k, i) e h = no_value ts others h.second.back t (k, i) e h.second.second
  no_value (u ∷ ts) (Value p inner others) bytes t (zero, i) e h =
      let same : t ≡ u = cc in
      round u (subst (λ x. Encloses shapes x x) same e) (λ s j. inside_it u s p j) (λ s j d. no_value (below shapes u p) inner h.second.front s j d h.second.first)
    where
      round : (u : ℕ) → Encloses shapes u u → ((s : ℕ) → In (fields_of shapes u) s → In (below shapes u p) s) → ((s : ℕ) → In (below shapes u p) s → Encloses shapes s s → ⊥) → ⊥
      round u (Field j) into f = f u (into u j) (Field j)
      round u (Deeper {u = s} j d) into f = f s (into s j) (one_deeper shapes s u s d j)

module _ (slots : List Slot) (known : Known) (is : IsKnown slots known) where
  abbrev At : ℕ → Datum → List ℕ → Type 0
  At t p bytes = IsPartAt padded (FewEmpty (wire (head_at slots))) (head_at slots) (ref_of t) p bytes

  -- the part of a value
  abbrev Here : ℕ → Datum → List ℕ → Type 0
  Here t p bytes = (is_marked known.endless.items t ≡ false) × At t p bytes

  abbrev other : ℕ → Reading Datum
  other t = part_by known.empty.items (shape_at known.shapes t)

  guarded : (b : Bool) (P : Datum → List ℕ → Type 0) (p : Reading Datum) → Exact P p → Exact (λ d bytes. (b ≡ false) × P d bytes) (λ bytes. cond b (Err BadValue) (p bytes))
  guarded true P p e = record { sound = λ bytes r h. absurd (not_ok h); complete = λ x front rest h. let k = h.0 in cc }
  guarded false P p e = record { sound = λ bytes r h. let a = e.sound bytes r h in record { front = a.front; split = a.split; spells = (refl, a.spells) }; complete = λ x front rest h. e.complete x front rest h.1 }

  exact : (t : ℕ) → Exact (Here t) (known_part slots known t)
  unfolding part_at
  exact t = guarded (is_marked known.endless.items t) (At t) (ref_part slots (ref_of t) (other t)) (ref_exact slots (FewEmpty (wire (head_at slots))) (ref_of t) (other t) (wire_exact slots known.shapes is.table known.empty.items is.empty t))

  counted : (t : ℕ) (p : Datum) (bytes : List ℕ) → Here t p bytes → arity p ≡ length (below known.shapes t p)
  counted t p bytes h =
      ref_arity (FewEmpty (wire (head_at slots))) (head_at slots) (ref_of t) p bytes h.1
      ∙ ap length (sym (inside_same padded (FewEmpty (wire (head_at slots))) slots known.shapes is.table t p bytes h.1))
      ∙ length-map (below known.shapes t p) ref_of

  abbrev Found : List ℕ → Values → List ℕ → Type 0
  Found ts v bytes = FormsBy Here (below known.shapes) ts v bytes

  abbrev Formed : List ℕ → Values → List ℕ → Type 0
  Formed ts v bytes = FormsBy At (below known.shapes) ts v bytes

  found_to : (ts : List ℕ) (v : Values) (bytes : List ℕ) → Found ts v bytes → Formed ts v bytes
  found_to [] Nil bytes h = h
  found_to [] (Value p inner others) bytes h = absurd h
  found_to (t ∷ ts) Nil bytes h = absurd h
  found_to (t ∷ ts) (Value p inner others) bytes h = record {
    front = h.front;
    back = h.back;
    whole = h.whole;
    first = h.first.1;
    second = record {
      front = h.second.front;
      back = h.second.back;
      whole = h.second.whole;
      first = found_to (below known.shapes t p) inner h.second.front h.second.first;
      second = found_to ts others h.second.back h.second.second;
    };
  }

  not_marked : (b : Bool) → (b ≡ true → ⊥) → b ≡ false
  not_marked true f = absurd (f refl)
  not_marked false f = refl

  to_found : (ts : List ℕ) (v : Values) (bytes : List ℕ) → Formed ts v bytes → Found ts v bytes
  to_found [] Nil bytes h = h
  to_found [] (Value p inner others) bytes h = absurd h
  to_found (t ∷ ts) Nil bytes h = absurd h
  to_found (t ∷ ts) (Value p inner others) bytes h = record {
    front = h.front;
    back = h.back;
    whole = h.whole;
    first = (not_marked (is_marked known.endless.items t) (λ m. no_value known.shapes At (t ∷ ts) (Value p inner others) bytes t (0, refl) (is.endless.sound t m) h), h.first);
    second = record {
      front = h.second.front;
      back = h.second.back;
      whole = h.second.whole;
      first = to_found (below known.shapes t p) inner h.second.front h.second.first;
      second = to_found ts others h.second.back h.second.second;
    };
  }

  module _ (ids : List TypeId) (ts : List ℕ) (these : map ref_of ts ≡ refs ids) where
    read_of : (v : Values) (bytes : List ℕ) → Found ts v bytes → Read slots ids v bytes
    read_of v bytes h =
        subst (λ (rs : List (Ref TypeId)). Forms padded (FewEmpty (wire (head_at slots))) (head_at slots) rs v bytes) these
        (numbers_to padded (FewEmpty (wire (head_at slots))) slots known.shapes is.table ts v bytes (found_to ts v bytes h))

    of_read : (v : Values) (bytes : List ℕ) → Read slots ids v bytes → Found ts v bytes
    of_read v bytes h =
        to_found ts v bytes
        (numbers_from padded (FewEmpty (wire (head_at slots))) slots known.shapes is.table ts v bytes (subst (λ (rs : List (Ref TypeId)). Forms padded (FewEmpty (wire (head_at slots))) (head_at slots) rs v bytes) (sym these) h))

    took : {X : Type 0} (list : X → List Datum) (more : X → List ℕ) (r : Result X (Stop Fault)) (bytes : List ℕ) → IfOk r (λ x. Takes (Found ts (tree (list x))) bytes (more x)) → IfOk r (λ x. Takes (Read slots ids (tree (list x))) bytes (more x))
    took list more (Ok x) bytes h = record { front = h.front; whole = h.whole; holds = read_of (tree (list x)) h.front h.holds }
    took list more (Err e) bytes h = tt

    pub found_all : {X : Type 0} (list : X → List Datum) (more : X → List ℕ) (r : Result X (Stop Fault)) (bytes : List ℕ)
        → IfOk r (λ x. Reaches (known_part slots known) (below known.shapes) ts (list x) bytes [] (more x)) → IfOk r (λ x. Takes (Read slots ids (tree (list x))) bytes (more x))
    found_all list more r bytes h = took list more r bytes (found_is (known_part slots known) (below known.shapes) Here exact counted list more r ts bytes h)

    pub only_all : {X : Type 0} (list : X → List Datum) (more : X → List ℕ) (r : Result X (Stop Fault)) (bytes : List ℕ)
        → IfOk r (λ x. Reaches (known_part slots known) (below known.shapes) ts (list x) bytes [] (more x)) → IfFault r (λ f. Stops (known_part slots known) (below known.shapes) ts bytes f)
        → (v : Values) (front rest : List ℕ) → Read slots ids v front → bytes ≡ front ++ rest → Finds (λ x. (list x, more x)) r (flat v) rest
    only_all list more r bytes ok bad v front rest h e = only_is (known_part slots known) (below known.shapes) Here exact counted list more r ts bytes ok bad v front rest (of_read v front h) e

    pub breaks : {X : Type 0} (r : Result X (Stop Fault)) (bytes : List ℕ) → IfFault r (λ f. Stops (known_part slots known) (below known.shapes) ts bytes f) → IfFault r (λ f. Breaks slots ids bytes f)
    breaks (Ok x) bytes h = tt
    breaks (Err stop.Memory) bytes h = tt
    breaks (Err (stop.Fault f)) bytes h = record { known = known; is = is; types = ts; declared = these; stops = h }

    abbrev Over : List ℕ → List ℕ → Type 0
    Over bytes rest = Passes (known_part slots known) (below known.shapes) ts bytes [] rest

    pub skipped_all : {X : Type 0} (more : X → List ℕ) (r : Result X (Stop Fault)) (bytes : List ℕ) → IfOk r (λ x. Over bytes (more x)) → IfOk r (λ x. (v : Values) × Takes (Read slots ids v) bytes (more x))
    skipped_all more (Ok x) bytes h = (tree h.parts, found_all {X = List Datum × List ℕ} (λ y. y.0) (λ y. y.1) (Ok (h.parts, more x)) bytes h.reached)
    skipped_all more (Err e) bytes h = tt

    pub leaves_all : {X : Type 0} (more : X → List ℕ) (r : Result X (Stop Fault)) (bytes : List ℕ) → IfOk r (λ x. Over bytes (more x)) → IfFault r (λ f. Stops (known_part slots known) (below known.shapes) ts bytes f)
        → (v : Values) (front rest : List ℕ) → Read slots ids v front → bytes ≡ front ++ rest → Leaves more r rest
    leaves_all more (Ok x) bytes ok bad v front rest h e = ap (λ (y : List Datum × List ℕ). y.1) (only_all {X = List Datum × List ℕ} (λ y. y.0) (λ y. y.1) (Ok (ok.parts, more x)) bytes ok.reached tt v front rest h e)
    leaves_all more (Err stop.Memory) bytes ok bad v front rest h e = tt
    leaves_all more (Err (stop.Fault f)) bytes ok bad v front rest h e = only_all {X = List Datum × List ℕ} (λ y. y.0) (λ y. y.1) (Err (stop.Fault f)) bytes tt bad v front rest h e
