-- The types inside a Motoko part, by number, and Motoko values of types by number.
use Rattle.std.proofs.Common.{◌≡◌, ℕ, zero, suc, List, [], ◌∷◌, map, Option, Some, None, slice_get, refl, sym, ap, ◌∙◌, subst}
use Rattle.std.specs.Option.{option_map}
use Rattle.std.proofs.lemmas.Option.{slice_get-map}
use Rattle.mo_types.specs.declared.datum.Datum.{Datum}
use Rattle.mo_types.specs.declared.datum.Datum.TheVariants as part
use Rattle.mo_types.specs.declared.node.Node.{Node}
use Rattle.mo_types.specs.declared.node.Node.TheVariants as node
use Rattle.mo_types.specs.declared.node.Sort.TheVariants as sort
use Rattle.mo_types.specs.declared.node.TypeId.{TypeId}
use Rattle.mo_types.specs.declared.wire.Entry.{Entry}
use Rattle.mo_types.specs.declared.wire.Wire.{Wire}
use Rattle.mo_types.specs.declared.wire.Wire.TheVariants.{Simple, Opt, Vec, Record, Variant, Func, Service}
use Rattle.mo_types.specs.declared.wire.Ref.{Ref}
use Rattle.mo_types.specs.declared.wire.Ref.TheVariants.{Of, Just}
use Rattle.mo_types.specs.Graph.{Slot, head_at}
use Rattle.mo_types.specs.Wire.{wire, wire_of_node, map_entry, map_wire}
use Rattle.mo_types.specs.Values.{Values, Nil, Value, copies, IsPartOf}
use Rattle.mo_types.specs.Spelling.{Numbers, one_part, wire_inside}
use Rattle.candid_types.specs.Shapes.{ref_of, shape_at, IsTableOf}
use Rattle.candid_types.specs.Inside.{times, inside_by, below}
use Rattle.candid_forms.specs.Forms.{FormsBy, IsPartAt, inside_ref, Forms}

-- a part that may stand at a type with this head
abbrev Fits : {B : Type 0} → Wire B → Datum → Type 0
Fits (Simple s) p = Unit {0}
Fits (Opt b) part.Null = Unit {0}
Fits (Opt b) part.Present = Unit {0}
Fits (Vec b) (part.Many n) = Unit {0}
Fits (Vec b) (part.Blob t) = Unit {0}
Fits (Record es) (part.Record n) = Unit {0}
Fits (Variant es) (part.Tag i) = Unit {0}
Fits (Func ps rs ns) p = Unit {0}
Fits (Service ms) p = Unit {0}
Fits _ _ = ⊥

node_fits : {A : Type 0} (head : A → Node A) (n : Node A) (p : Datum) → IsPartOf n p → Fits (wire_of_node head n) p
node_fits head (node.Number k) p h = tt
node_fits head node.Bool p h = tt
node_fits head node.Char p h = tt
node_fits head node.Text p h = tt
node_fits head node.Blob (part.Blob t) h = tt
node_fits head node.Principal p h = tt
node_fits head node.Null p h = tt
node_fits head node.Any p h = tt
node_fits head (node.Opt a) part.Null h = tt
node_fits head (node.Opt a) part.Present h = tt
node_fits head (node.Array a) (part.Many n) h = tt
node_fits head (node.Tuple ts) (part.Record n) h = tt
node_fits head (node.Object fs) (part.Record n) h = tt
node_fits head (node.Actor fs) p h = tt
node_fits head (node.Variant fs) (part.Tag i) h = tt
node_fits head (node.Func sort.Local ps rs) p h = tt
node_fits head (node.Func sort.Shared ps rs) p h = tt
node_fits head (node.Func sort.Query ps rs) p h = tt
node_fits head n p h = absurd h

module _ {A B : Type 0} (f : A → B) where
  fits_before : (w : Wire A) (p : Datum) → Fits (map_wire f w) p → Fits w p
  fits_before (Simple s) p h = tt
  fits_before (Opt b) part.Null h = tt
  fits_before (Opt b) part.Present h = tt
  fits_before (Opt b) p h = absurd h
  fits_before (Vec b) (part.Many n) h = tt
  fits_before (Vec b) (part.Blob t) h = tt
  fits_before (Vec b) p h = absurd h
  fits_before (Record es) (part.Record n) h = tt
  fits_before (Record es) p h = absurd h
  fits_before (Variant es) (part.Tag i) h = tt
  fits_before (Variant es) p h = absurd h
  fits_before (Func ps rs ns) p h = tt
  fits_before (Service ms) p h = tt

  map_copies : (n : ℕ) (a : A) → map f (copies n a) ≡ copies n (f a)
  map_copies zero a = refl
  map_copies (suc n) a = ap (λ (l : List B). f a ∷ l) (map_copies n a)

  map_parts : (es : List (Entry A)) → map f (map (λ (e : Entry A). e.part) es) ≡ map (λ (e : Entry B). e.part) (map (map_entry f) es)
  map_parts [] = refl
  map_parts (e ∷ es) = ap (λ (l : List B). f e.part ∷ l) (map_parts es)

  map_one : (o : Option (Entry A)) → map f (one_part o) ≡ one_part (option_map (map_entry f) o)
  map_one None = refl
  map_one (Some e) = refl

  -- the types inside a part, renamed
  pub map_inside : (w : Wire A) (p : Datum) → map f (wire_inside w p) ≡ wire_inside (map_wire f w) p
  map_inside (Opt b) part.Present = refl
  map_inside (Vec b) (part.Many n) = map_copies n b
  map_inside (Record es) (part.Record n) = map_parts es
  map_inside (Variant es) (part.Tag i) = map_one (slice_get es i) ∙ ap one_part (sym (slice_get-map (map_entry f) es i))
  map_inside _ _ = refl

inside_times : (w : Wire ℕ) (p : Datum) → Fits w p → inside_by w (times p) ≡ wire_inside w p
inside_times (Simple s) p h = refl
inside_times (Opt b) part.Null h = refl
inside_times (Opt b) part.Present h = refl
inside_times (Opt b) p h = absurd h
inside_times (Vec b) (part.Many n) h = refl
inside_times (Vec b) (part.Blob t) h = refl
inside_times (Vec b) p h = absurd h
inside_times (Record es) (part.Record n) h = refl
inside_times (Record es) p h = absurd h
inside_times (Variant es) (part.Tag i) h = refl
inside_times (Variant es) p h = absurd h
inside_times (Func ps rs ns) p h = refl
inside_times (Service ms) p h = refl

module _ (N : Numbers) (Allowed : ℕ → Ref TypeId → Type 0) (slots : List Slot) (shapes : List (Wire ℕ)) (table : IsTableOf slots shapes) where
  at_fits : (r : Ref TypeId) (p : Datum) (bytes : List ℕ) → IsPartAt N Allowed (head_at slots) r p bytes → Fits (wire (head_at slots) r) p
  at_fits (Of t) p bytes h = node_fits (head_at slots) (head_at slots t) p h.0
  at_fits (Just s) p bytes h = tt

  -- the types inside a part by number are those inside it
  pub inside_same : (t : ℕ) (p : Datum) (bytes : List ℕ) → IsPartAt N Allowed (head_at slots) (ref_of t) p bytes → map ref_of (below shapes t p) ≡ inside_ref (head_at slots) (ref_of t) p
  unfolding below
  inside_same t p bytes h =
      let e = table.heads t in
      let fits = fits_before ref_of (shape_at shapes t) p (subst (λ (w : Wire (Ref TypeId)). Fits w p) e (at_fits (ref_of t) p bytes h)) in
      ap (map ref_of) (inside_times (shape_at shapes t) p fits) ∙ map_inside ref_of (shape_at shapes t) p ∙ ap (λ (w : Wire (Ref TypeId)). wire_inside w p) (sym e)

  -- Motoko values of types by number, with their bytes
  abbrev pub FormsAt : List ℕ → Values → List ℕ → Type 0
  FormsAt ts v bytes = FormsBy (λ t. IsPartAt N Allowed (head_at slots) (ref_of t)) (below shapes) ts v bytes

  pub numbers_to : (ts : List ℕ) (v : Values) (bytes : List ℕ) → FormsAt ts v bytes → Forms N Allowed (head_at slots) (map ref_of ts) v bytes
  numbers_to [] Nil bytes h = h
  numbers_to [] (Value p inner others) bytes h = absurd h
  numbers_to (t ∷ ts) Nil bytes h = absurd h
  numbers_to (t ∷ ts) (Value p inner others) bytes h =
      let k = h.second in
      let i = numbers_to (below shapes t p) inner k.front k.first in
      record {
        front = h.front;
        back = h.back;
        whole = h.whole;
        first = h.first;
        second = record {
          front = k.front;
          back = k.back;
          whole = k.whole;
          first = subst (λ (rs : List (Ref TypeId)). Forms N Allowed (head_at slots) rs inner k.front) (inside_same t p h.front h.first) i;
          second = numbers_to ts others k.back k.second;
        };
      }

  pub numbers_from : (ts : List ℕ) (v : Values) (bytes : List ℕ) → Forms N Allowed (head_at slots) (map ref_of ts) v bytes → FormsAt ts v bytes
  numbers_from [] Nil bytes h = h
  numbers_from [] (Value p inner others) bytes h = absurd h
  numbers_from (t ∷ ts) Nil bytes h = absurd h
  numbers_from (t ∷ ts) (Value p inner others) bytes h =
      let k = h.second in
      let i = subst (λ (rs : List (Ref TypeId)). Forms N Allowed (head_at slots) rs inner k.front) (sym (inside_same t p h.front h.first)) k.first in
      record {
        front = h.front;
        back = h.back;
        whole = h.whole;
        first = h.first;
        second = record {
          front = k.front;
          back = k.back;
          whole = k.whole;
          first = numbers_from (below shapes t p) inner k.front i;
          second = numbers_from ts others k.back k.second;
        };
      }
