-- What was written is read.
use Rattle.std.proofs.Common.{◌≡◌, ℕ, zero, suc, ◌<◌, ◌≤◌, List, [], ◌∷◌, length, map, Some, None, slice_get, refl, sym, subst, arith, pos}
use Rattle.std.proofs.lemmas.List.{length-map}
use Rattle.mo_types.specs.declared.datum.Datum.{Datum}
use Rattle.mo_types.specs.declared.datum.Datum.TheVariants as part
use Rattle.mo_types.specs.declared.node.Node.{Node}
use Rattle.mo_types.specs.declared.node.Node.TheVariants as node
use Rattle.mo_types.specs.declared.node.Sort.TheVariants as sort
use Rattle.mo_types.specs.declared.wire.Plain.TheVariants as plain
use Rattle.mo_types.specs.declared.wire.Entry.{Entry}
use Rattle.mo_types.specs.declared.wire.Method.{Method}
use Rattle.mo_types.specs.declared.wire.Wire.{Wire}
use Rattle.mo_types.specs.declared.wire.Wire.TheVariants.{Simple, Opt, Vec, Record, Variant, Func, Service}
use Rattle.mo_types.specs.declared.wire.Ref.{Ref}
use Rattle.mo_types.specs.declared.wire.Ref.TheVariants.{Of, Just}
use Rattle.mo_types.specs.declared.wire.TableRef.{TableRef}
use Rattle.mo_types.specs.declared.wire.TableRef.TheVariants.{Plainly, At}
use Rattle.mo_types.specs.Sub.{Each}
use Rattle.mo_types.specs.Wire.{refs, wire, wire_of_node, SameParts, SameEntries, SameMethods, SameHead, SameTo}
use Rattle.mo_types.specs.Form.{form_part}
use Rattle.mo_types.specs.Values.{Values, Nil, Value, IsPartOf, HaveTypes}
use Rattle.mo_types.specs.Spelling.{shortest, padded, FewEmpty, AnyCount}
use Rattle.mo_types.specs.Header.{IsTableRef, table_head, or_empty, IsWithin, RisingIds, RisingNames, IsFunction, IsSound, IsTable, IsSimple, IsAt, RefBy, IsRef, IsHeader, IsCanonical}
use Rattle.mo_types.specs.Code.{Code, SameEach, Reads}
use Rattle.candid_types.proofs.Natural.{head_mono}
use Rattle.candid_forms.specs.Forms.{IsSpelledBy, IsPartAt, inside_ref, Forms}
use Rattle.candid_forms.proofs.Few.{few_bytes}
use Rattle.candid_forms.proofs.Whole.{forms_to, forms_from}
use Rattle.candid_laws.specs.Sound.{Reached, AreSound, IsFew, AreFew}
use Rattle.candid_laws.proofs.Counts.{part_counts}
use Rattle.candid_laws.proofs.Same.{head_trans, to_trans}
use Rattle.candid_laws.proofs.Padded.{short_signed, short_string, Allows, short_part}
use Rattle.candid_laws.proofs.Rising.{IsSoundWire, ref_sound}
use Rattle.candid_laws.proofs.Visiting.{IsPlaced, visited}
use Rattle.candid_laws.proofs.Table.{header_made}

module _ {B : Type 0} (head : B → Wire B) (order : List B) where
  -- what a table's reference stands for
  abbrev IsRefOf : TableRef → B → Type 0
  IsRefOf (Plainly p) b = head b ≡ Simple p
  IsRefOf (At i) b = IsAt head order b i

  ref_by : (b : B) (w : Wire B) (bytes : List ℕ) → head b ≡ w → RefBy head shortest order b w bytes → (c : TableRef) × IsTableRef padded c bytes × IsRefOf c b
  ref_by b (Simple p) bytes e h = (Plainly p, h, e)
  ref_by b (Opt x) bytes e h = (At h.0, short_signed 33 bytes (pos h.0) (omega arith) h.2, h.1)
  ref_by b (Vec x) bytes e h = (At h.0, short_signed 33 bytes (pos h.0) (omega arith) h.2, h.1)
  ref_by b (Record x) bytes e h = (At h.0, short_signed 33 bytes (pos h.0) (omega arith) h.2, h.1)
  ref_by b (Variant x) bytes e h = (At h.0, short_signed 33 bytes (pos h.0) (omega arith) h.2, h.1)
  ref_by b (Func x y z) bytes e h = (At h.0, short_signed 33 bytes (pos h.0) (omega arith) h.2, h.1)
  ref_by b (Service x) bytes e h = (At h.0, short_signed 33 bytes (pos h.0) (omega arith) h.2, h.1)

  ref_made : (b : B) (bytes : List ℕ) → IsRef head shortest order b bytes → (c : TableRef) × IsTableRef padded c bytes × IsRefOf c b
  ref_made b bytes h = ref_by b (head b) bytes refl h

  abbrev Links : List (Wire TableRef) → List B → Type 0
  Links table bs = SameParts (SameHead IsRefOf) table (map head bs)

  entry_at : (table : List (Wire TableRef)) (bs : List B) (i : ℕ) (b : B) → Links table bs → slice_get bs i ≡ Some b → (w : Wire TableRef) × (slice_get table i ≡ Some w) × SameHead IsRefOf w (head b)
  entry_at table [] i b l e = cc
  entry_at [] (c ∷ bs) i b l e = absurd l
  entry_at (w ∷ table) (c ∷ bs) zero b l e = let f : Some c ≡ Some b = e in let g : c ≡ b = cc in (w, refl, subst (λ (x : B). SameHead IsRefOf w (head x)) g l.0)
  entry_at (w ∷ table) (c ∷ bs) (suc i) b l e = entry_at table bs i b l.1 e

  module _ (table : List (Wire TableRef)) (links : Links table order) where
    -- ---- the types of the table are those that it stands for

    ref_same : (n : ℕ) (c : TableRef) (b : B) → IsRefOf c b → SameTo (table_head table) head n c b
    unfolding SameTo
    ref_same zero c b h = tt
    ref_same (suc n) (Plainly p) b h = subst (λ (w : Wire B). SameHead (SameTo (table_head table) head n) (Simple p) w) (sym h) refl
    ref_same (suc n) (At i) b h =
        let x = entry_at table order i h.other links h.there in
        let linked : SameHead (SameTo (table_head table) head n) x.0 (head h.other) = head_mono (λ c a r. ref_same n c a r) x.0 (head h.other) x.2 in
        let there : SameHead (SameTo head head n) (head h.other) (head b) = h.same.to (suc n) in
        subst (λ o. SameHead (SameTo (table_head table) head n) (or_empty o) (head b)) (sym x.1) (head_trans (to_trans (table_head table) head head n) x.0 (head h.other) (head b) linked there)

    -- ---- and it is well formed

    within_table : (ws : List (Wire TableRef)) (i : ℕ) (w : Wire TableRef) → slice_get ws i ≡ Some w → i < length ws
    within_table [] i w e = absurd (let f : None ≡ Some w = e in cc)
    within_table (x ∷ ws) zero w e = omega arith
    within_table (x ∷ ws) (suc i) w e = let h : i < length ws = within_table ws i w e in omega arith

    within : (c : TableRef) (b : B) → IsRefOf c b → IsWithin (length table) c
    within (Plainly p) b h = tt
    within (At i) b h = let x = entry_at table order i h.other links h.there in within_table table i x.0 x.1

    parts_within : (cs : List TableRef) (bs : List B) → SameParts IsRefOf cs bs → Each (IsWithin (length table)) cs
    parts_within [] [] h = tt
    parts_within (c ∷ cs) (b ∷ bs) h = (within c b h.0, parts_within cs bs h.1)
    parts_within [] (b ∷ bs) h = absurd h
    parts_within (c ∷ cs) [] h = absurd h

    entries_within : (cs : List (Entry TableRef)) (bs : List (Entry B)) → SameEntries IsRefOf cs bs → Each (λ e. IsWithin (length table) e.part) cs
    entries_within [] [] h = tt
    entries_within (c ∷ cs) (b ∷ bs) h = (within c.part b.part h.1, entries_within cs bs h.2)
    entries_within [] (b ∷ bs) h = absurd h
    entries_within (c ∷ cs) [] h = absurd h

    rising_ids : (cs : List (Entry TableRef)) (bs : List (Entry B)) → SameEntries IsRefOf cs bs → RisingIds bs → RisingIds cs
    rising_ids [] [] h r = tt
    rising_ids (c ∷ []) (b ∷ []) h r = tt
    rising_ids (c ∷ d ∷ cs) (b ∷ a ∷ bs) h r =
        let e : c.id ≡ b.id = h.0 in
        let f : d.id ≡ a.id = h.2.0 in
        let lt : b.id < a.id = r.0 in
        (omega arith, rising_ids (d ∷ cs) (a ∷ bs) h.2 r.1)
    rising_ids [] (b ∷ bs) h r = absurd h
    rising_ids (c ∷ cs) [] h r = absurd h
    rising_ids (c ∷ []) (b ∷ a ∷ bs) h r = absurd h.2
    rising_ids (c ∷ d ∷ cs) (b ∷ []) h r = absurd h.2

    rising_names : (cs : List (Method TableRef)) (bs : List (Method B)) → SameMethods IsRefOf cs bs → RisingNames bs → RisingNames cs
    rising_names [] [] h r = tt
    rising_names (c ∷ []) (b ∷ []) h r = tt
    rising_names (c ∷ d ∷ cs) (b ∷ a ∷ bs) h r =
        let e : c.name ≡ b.name = h.0 in
        let f : d.name ≡ a.name = h.2.0 in
        let lt = r.0 in
        (cc, rising_names (d ∷ cs) (a ∷ bs) h.2 r.1)
    rising_names [] (b ∷ bs) h r = absurd h
    rising_names (c ∷ cs) [] h r = absurd h
    rising_names (c ∷ []) (b ∷ a ∷ bs) h r = absurd h.2
    rising_names (c ∷ d ∷ cs) (b ∷ []) h r = absurd h.2

    function_same : {X Y : Type 0} (R : X → Y → Type 0) (w : Wire X) (v : Wire Y) → SameHead R w v → IsFunction v → IsFunction w
    function_same R (Func ps rs n) (Func qs ss m) h f = tt
    function_same R w (Func qs ss m) h f = absurd h
    function_same R w v h f = absurd f

    same_once : (a b : B) → SameTo head head 1 a b → SameHead (SameTo head head 0) (head a) (head b)
    unfolding SameTo
    same_once a b h = h

    function_at : (c : TableRef) (b : B) → IsRefOf c b → IsFunction (head b) → IsFunction (table_head table c)
    function_at (Plainly p) b h f = absurd (subst (λ (w : Wire B). IsFunction w) h f)
    function_at (At i) b h f =
        let x = entry_at table order i h.other links h.there in
        let other : IsFunction (head h.other) = function_same (SameTo head head 0) (head h.other) (head b) (same_once h.other b (h.same.to 1)) f in
        subst (λ o. IsFunction (or_empty o)) (sym x.1) (function_same IsRefOf x.0 (head h.other) x.2 other)

    methods_within : (cs : List (Method TableRef)) (bs : List (Method B)) → SameMethods IsRefOf cs bs → Each (λ m. IsFunction (head m.part)) bs → Each (λ m. IsWithin (length table) m.part × IsFunction (table_head table m.part)) cs
    methods_within [] [] h f = tt
    methods_within (c ∷ cs) (b ∷ bs) h f = ((within c.part b.part h.1, function_at c.part b.part h.1 f.0), methods_within cs bs h.2 f.1)
    methods_within [] (b ∷ bs) h f = absurd h
    methods_within (c ∷ cs) [] h f = absurd h

    entry_sound : (w : Wire TableRef) (v : Wire B) → (IsSimple v → ⊥) → IsSoundWire head v → SameHead IsRefOf w v → IsSound table w
    entry_sound (Simple p) (Simple q) i s h = absurd (i tt)
    entry_sound (Opt a) (Opt b) i s h = within a b h
    entry_sound (Vec a) (Vec b) i s h = within a b h
    entry_sound (Record cs) (Record bs) i s h = (rising_ids cs bs h s, entries_within cs bs h)
    entry_sound (Variant cs) (Variant bs) i s h = (rising_ids cs bs h s, entries_within cs bs h)
    entry_sound (Func ps rs n) (Func qs ss m) i s h = (parts_within ps qs h.0, parts_within rs ss h.1)
    entry_sound (Service cs) (Service bs) i s h = (rising_names cs bs h s.0, methods_within cs bs h s.1)
    entry_sound w v i s h = absurd h

    table_sound : (ws : List (Wire TableRef)) (bs : List B) → Links ws bs → Each (λ b. (IsSimple (head b) → ⊥) × IsSoundWire head (head b)) bs → Each (IsSound table) ws
    table_sound [] [] l s = tt
    table_sound (w ∷ ws) (b ∷ bs) l s = (entry_sound w (head b) s.0.0 s.0.1 l.0, table_sound ws bs l.1 s.1)
    table_sound [] (b ∷ bs) l s = absurd l
    table_sound (w ∷ ws) [] l s = absurd l

-- ---- values

module _ {A : Type 0} (head : A → Node A) where
  abbrev Few : ℕ → Ref A → Type 0
  Few = FewEmpty (wire head)

  allowed : (n : Node A) (p : Datum) → IsPartOf n p → IsFew head (wire_of_node head n) p → Allows AnyCount Few (wire_of_node head n) (form_part n p)
  allowed (node.Array a) (part.Many k) t f = λ u. f
  allowed (node.Array a) p t f = absurd t
  allowed node.Blob (part.Blob s) t f = λ u. few_bytes head (length s)
  allowed node.Blob p t f = absurd t
  allowed (node.Func sort.Local ps rs) p t f = tt
  allowed (node.Func sort.Shared ps rs) p t f = tt
  allowed (node.Func sort.Query ps rs) p t f = tt
  allowed n p t f = tt

  node_short : (n : Node A) (p : Datum) (bytes : List ℕ) → IsPartOf n p → IsFew head (wire_of_node head n) p → IsSpelledBy shortest AnyCount head n p bytes → IsSpelledBy padded Few head n p bytes
  node_short node.Blob (part.Blob s) bytes t f h = (h.0, short_string s bytes h.1)
  node_short node.Blob p bytes t f h = absurd t
  node_short n p bytes t f h = short_part AnyCount Few (wire_of_node head n) (form_part n p) bytes (allowed n p t f) h

  part_short : (r : Ref A) (p : Datum) (bytes : List ℕ) → IsFew head (wire head r) p → IsPartAt shortest AnyCount head r p bytes → IsPartAt padded Few head r p bytes
  part_short (Of t) p bytes f h = (h.0, node_short (head t) p bytes h.0 f h.1)
  part_short (Just plain.Null) p bytes f h = h
  part_short (Just s) p bytes f h = absurd h

  forms_short : (rs : List (Ref A)) (v : Values) (bytes : List ℕ) → AreFew head rs v → Forms shortest AnyCount head rs v bytes → Forms padded Few head rs v bytes
  forms_short [] Nil bytes f h = h
  forms_short [] (Value p inner others) bytes f h = absurd h
  forms_short (r ∷ rs) Nil bytes f h = absurd h
  forms_short (r ∷ rs) (Value p inner others) bytes f h =
      let k = h.second in
      record {
        front = h.front;
        back = h.back;
        whole = h.whole;
        first = part_short r p h.front f.0 h.first;
        second = record {
          front = k.front;
          back = k.back;
          whole = k.whole;
          first = forms_short (inside_ref head r p) inner k.front f.1 k.first;
          second = forms_short rs others k.back f.2 k.second;
        };
      }

  -- ---- messages

  placed_sound : (types : List A) (order : List (Ref A)) → AreSound head types → Each (IsPlaced (wire head) (refs types)) order → Each (λ r. (IsSimple (wire head r) → ⊥) × IsSoundWire (wire head) (wire head r)) order
  placed_sound types [] s h = tt
  placed_sound types (r ∷ rs) s h = ((h.0.0, ref_sound head r (λ t e. s.sound t (subst (λ (x : Ref A). Reached (wire head) (refs types) x) e h.0.1))), placed_sound types rs s h.1)

  each_same : (table : List (Wire TableRef)) (order : List (Ref A)) → Links (wire head) order table order → (args : List TableRef) (types : List A) → SameParts (IsRefOf (wire head) order) args (refs types) → SameEach head table args types
  each_same table order l [] [] h = tt
  each_same table order l (c ∷ cs) (t ∷ ts) h = (record { to = λ n. ref_same (wire head) order table l n c (Of t) h.0 }, each_same table order l cs ts h.1)
  each_same table order l [] (t ∷ ts) h = absurd h
  each_same table order l (c ∷ cs) [] h = absurd h

  -- the header, as a reader takes it
  pub record Told (types : List A) (bytes : List ℕ) : Type 0 where
    pub table : List (Wire TableRef)
    pub args : List TableRef
    pub few : length table ≤ 4096
    pub well_formed : IsTable table args
    pub same : SameEach head table args types
    pub header : IsHeader padded (IsTableRef padded) table args bytes

  pub header_told : (types : List A) (bytes : List ℕ) → AreSound head types → IsCanonical (wire head) shortest (refs types) bytes → Told types bytes
  header_told types bytes s c =
      let made = header_made (IsRef (wire head) shortest c.order) (IsTableRef padded) (IsRefOf (wire head) c.order) (ref_made (wire head) c.order) (map (wire head) c.order) (refs types) bytes c.header in
      let counted : length made.0 ≡ length (map (wire head) c.order) = part_counts (SameHead (IsRefOf (wire head) c.order)) made.0 (map (wire head) c.order) made.3 in
      let few : length c.order ≤ 4096 = s.few c.order c.visits in
      let count : length (map (wire head) c.order) ≡ length c.order = length-map c.order (wire head) in
      record {
        table = made.0;
        args = made.1;
        few = omega arith;
        well_formed = record {
          sound = table_sound (wire head) c.order made.0 made.3 made.0 c.order made.3 (placed_sound types c.order s (visited (wire head) (refs types) c.order c.visits));
          within = parts_within (wire head) c.order made.0 made.3 made.1 (refs types) made.4;
        };
        same = each_same made.0 c.order made.3 made.1 types made.4;
        header = made.2;
      }

  pub written_is_read : (types : List A) (v : Values) (bytes : List ℕ) → HaveTypes head types v → AreSound head types → AreFew head (refs types) v → Code head types v bytes → Reads head types bytes v
  written_is_read types v bytes t s f h =
      let told = header_told types h.front s h.first in
      record {
        typed = t;
        table = told.table;
        args = told.args;
        few = told.few;
        well_formed = told.well_formed;
        same = told.same;
        spelled = record {
          front = h.front;
          back = h.back;
          whole = h.whole;
          first = told.header;
          second = (forms_to padded Few head (λ n. few_bytes head n) types v h.back (forms_short (refs types) v h.back f (forms_from shortest AnyCount head types v h.back t h.second))).1;
        };
      }

  -- ---- what was read has few items without bytes

  node_few : (n : Node A) (p : Datum) (bytes : List ℕ) → IsPartOf n p → IsSpelledBy padded Few head n p bytes → IsFew head (wire_of_node head n) p
  node_few (node.Array a) (part.Many k) bytes t h = h.0
  node_few (node.Array a) p bytes t h = absurd t
  node_few node.Blob (part.Blob s) bytes t h = tt
  node_few node.Blob p bytes t h = absurd t
  node_few (node.Func sort.Local ps rs) p bytes t h = tt
  node_few (node.Func sort.Shared ps rs) p bytes t h = tt
  node_few (node.Func sort.Query ps rs) p bytes t h = tt
  node_few n p bytes t h = tt

  part_few : (r : Ref A) (p : Datum) (bytes : List ℕ) → IsPartAt padded Few head r p bytes → IsFew head (wire head r) p
  part_few (Of t) p bytes h = node_few (head t) p bytes h.0 h.1
  part_few (Just s) p bytes h = tt

  forms_few : (rs : List (Ref A)) (v : Values) (bytes : List ℕ) → Forms padded Few head rs v bytes → AreFew head rs v
  forms_few [] v bytes h = tt
  forms_few (r ∷ rs) Nil bytes h = tt
  forms_few (r ∷ rs) (Value p inner others) bytes h =
      let k = h.second in
      (part_few r p h.front h.first, forms_few (inside_ref head r p) inner k.front k.first, forms_few rs others k.back k.second)

  pub read_is_few : (types : List A) (v : Values) (bytes : List ℕ) → Reads head types bytes v → AreFew head (refs types) v
  read_is_few types v bytes h = forms_few (refs types) v h.spelled.back (forms_from padded Few head types v h.spelled.back h.typed h.spelled.second)
