-- Parts one after the other are values with what is inside them.
use Rattle.std.proofs.Common.{◌≡◌, ℕ, zero, suc, ◌+◌, ◌<◌, List, [], ◌∷◌, ◌++◌, length, map, Option, Some, None, slice_get, refl, sym, ap, ◌∙◌, subst, arith, append_assoc}
use Rattle.std.specs.Option.{option_map}
use Rattle.std.proofs.lemmas.List.{append-nil, length-map}
use Rattle.std.proofs.lemmas.Option.{slice_get-map}
use Rattle.mo_types.specs.declared.datum.Datum.{Datum}
use Rattle.mo_types.specs.declared.datum.Datum.TheVariants as part
use Rattle.mo_types.specs.declared.node.Field.{Field}
use Rattle.mo_types.specs.declared.node.Node.{Node}
use Rattle.mo_types.specs.declared.node.Node.TheVariants as node
use Rattle.mo_types.specs.declared.node.Sort.TheVariants as sort
use Rattle.mo_types.specs.declared.node.TypeId.{TypeId}
use Rattle.mo_types.specs.declared.wire.Entry.{Entry}
use Rattle.mo_types.specs.declared.wire.Plain.TheVariants as plain
use Rattle.mo_types.specs.declared.wire.Ref.{Ref}
use Rattle.mo_types.specs.declared.wire.Ref.TheVariants.{Of, Just}
use Rattle.mo_types.specs.Values.{Values, Nil, Value, flat, arity, firsts, after, tree, copies, by_label, types_of, one_type, inside, IsPartOf, HaveTypes}
use Rattle.mo_types.specs.Wire.{refs, numbered, entry_of, tag_of, payload_by, wire_of_node}
use Rattle.mo_types.specs.Spelling.{Then, shortest, AnyCount, one_part, wire_inside}
use Rattle.candid_forms.specs.Forms.{FormsBy, IsSpelledBy, IsPartAt, inside_ref, Forms}
use Rattle.candid_encode.specs.Puts.{Fits}
use Rattle.candid_encode.specs.Flat.{WritesBy, Writes, Holds}

-- ---- written parts are spelled values

module _ {T : Type 0} (within : T → Datum → List T) (IsPart : T → Datum → List ℕ → Type 0) where
  -- a spelling of values of two lists of types is one of each
  cut : (us ts : List T) (w : Values) (bytes : List ℕ) → FormsBy IsPart within (us ++ ts) w bytes → Then (FormsBy IsPart within us (firsts (length us) w)) (FormsBy IsPart within ts (after (length us) w)) bytes
  cut [] ts w bytes h = record { front = []; back = bytes; whole = refl; first = refl; second = h }
  cut (u ∷ us) ts Nil bytes h = absurd h
  cut (u ∷ us) ts (Value p inner others) bytes h =
      let i = cut us ts others h.second.back h.second.second in
      let a = h.front in
      let b = h.second.front in
      record {
        front = a ++ (b ++ i.front);
        back = i.back;
        whole = h.whole ∙ ap (λ (x : List ℕ). a ++ x) (h.second.whole ∙ ap (λ (x : List ℕ). b ++ x) i.whole ∙ sym (append_assoc b i.front i.back)) ∙ sym (append_assoc a (b ++ i.front) i.back);
        first = record { front = a; back = b ++ i.front; whole = refl; first = h.first; second = record { front = b; back = i.front; whole = refl; first = h.second.first; second = i.first } };
        second = i.second;
      }

  pub written_forms : ((t : T) (p : Datum) (bytes : List ℕ) → IsPart t p bytes → length (within t p) ≡ arity p) → (ts : List T) (ps : List Datum) (bytes : List ℕ) → WritesBy within IsPart ts ps bytes → FormsBy IsPart within ts (tree ps) bytes
  written_forms many [] [] bytes h = h
  written_forms many (t ∷ ts) [] bytes h = absurd h
  written_forms many [] (p ∷ ps) bytes h = absurd h
  written_forms many (t ∷ ts) (p ∷ ps) bytes h =
      let i = written_forms many (within t p ++ ts) ps h.back h.second in
      let c = cut (within t p) ts (tree ps) h.back i in
      record {
        front = h.front;
        back = h.back;
        whole = h.whole;
        first = h.first;
        second = subst (λ (n : ℕ). Then (FormsBy IsPart within (within t p) (firsts n (tree ps))) (FormsBy IsPart within ts (after n (tree ps))) h.back) (many t p h.front h.first) c;
      }

-- ---- how many values are inside a part

length-copies : {A : Type 0} (n : ℕ) (a : A) → length (copies n a) ≡ n
length-copies zero a = refl
length-copies (suc n) a = ap suc (length-copies n a)

one_part_length : {A : Type 0} (es : List (Entry A)) (i : ℕ) → i < length es → length (one_part (slice_get es i)) ≡ 1
one_part_length [] i h = absurd (omega arith)
one_part_length (e ∷ es) zero h = refl
one_part_length (e ∷ es) (suc i) h = one_part_length es i (omega arith)

module _ (head : TypeId → Node TypeId) where
  node_many : (n : Node TypeId) (p : Datum) (bytes : List ℕ) → IsPartOf n p → IsSpelledBy shortest AnyCount head n p bytes → length (wire_inside (wire_of_node head n) p) ≡ arity p
  node_many (node.Number k) (part.Number z) bytes t h = refl
  node_many node.Bool (part.Flag x) bytes t h = refl
  node_many node.Char (part.Char c) bytes t h = refl
  node_many node.Text (part.Text s) bytes t h = refl
  node_many node.Blob (part.Blob s) bytes t h = refl
  node_many node.Principal (part.Principal s) bytes t h = refl
  node_many node.Null part.Null bytes t h = refl
  node_many node.Any (part.Record m) bytes t h = sym t
  node_many (node.Opt u) part.Null bytes t h = refl
  node_many (node.Opt u) part.Present bytes t h = refl
  node_many (node.Array u) (part.Many m) bytes t h = length-copies m (Of u)
  node_many (node.Tuple ts) (part.Record m) bytes t h = length-map (numbered 0 ts) (λ (e : Entry (Ref TypeId)). e.part) ∙ sym h.0
  node_many (node.Object fs) (part.Record m) bytes t h = length-map (map entry_of (by_label fs)) (λ (e : Entry (Ref TypeId)). e.part) ∙ sym h.0
  node_many (node.Actor fs) (part.Actor s) bytes t h = refl
  node_many (node.Variant fs) (part.Tag i) bytes t h = one_part_length (map (tag_of head) (by_label fs)) i h.0
  node_many (node.Func sort.Local ps rs) (part.Method s m) bytes t h = absurd h
  node_many (node.Func sort.Shared ps rs) (part.Method s m) bytes t h = refl
  node_many (node.Func sort.Query ps rs) (part.Method s m) bytes t h = refl
  node_many n p bytes t h = absurd t

  null_many : (p : Datum) → p ≡ part.Record 0 → length {A = Ref TypeId} [] ≡ arity p
  null_many p e = sym (ap arity e)

  many : (r : Ref TypeId) (p : Datum) (bytes : List ℕ) → IsPartAt shortest AnyCount head r p bytes → length (inside_ref head r p) ≡ arity p
  many (Of t) p bytes h = node_many (head t) p bytes h.0 h.1
  many (Just plain.Null) p bytes h = null_many p h.0
  many (Just q) p bytes h = absurd h

  pub writes_forms : (rs : List (Ref TypeId)) (ps : List Datum) (bytes : List ℕ) → Writes head rs ps bytes → Forms shortest AnyCount head rs (tree ps) bytes
  writes_forms rs ps bytes h = written_forms (inside_ref head) (IsPartAt shortest AnyCount head) many rs ps bytes h

  -- ---- values of types, one part after the other

  -- values of types as Candid has them
  abbrev Typed : List (Ref TypeId) → Values → Type 0
  Typed [] Nil = Unit {0}
  Typed (r ∷ rs) (Value p inner others) = Fits head r p × Typed (inside_ref head r p) inner × Typed rs others
  Typed _ _ = ⊥

  typed_holds : (rs todo : List (Ref TypeId)) (v : Values) (rest : List Datum) → Typed rs v → Holds head todo rest → Holds head (rs ++ todo) (flat v ++ rest)
  typed_holds [] todo Nil rest t h = h
  typed_holds [] todo (Value p inner others) rest t h = absurd t
  typed_holds (r ∷ rs) todo Nil rest t h = absurd t
  typed_holds (r ∷ rs) todo (Value p inner others) rest t h = (
    t.0,
    subst (λ (ps : List Datum). Holds head (inside_ref head r p ++ (rs ++ todo)) ps) (sym (append_assoc (flat inner) (flat others) rest))
        (typed_holds (inside_ref head r p) (rs ++ todo) inner (flat others ++ rest) t.1 (typed_holds rs todo others rest t.2 h)),
  )

  refs_copies : (n : ℕ) (a : TypeId) → refs (copies n a) ≡ copies n (Of a)
  refs_copies zero a = refl
  refs_copies (suc n) a = ap (λ l. Of a ∷ l) (refs_copies n a)

  refs_numbered : (n : ℕ) (ts : List TypeId) → refs ts ≡ map (λ (e : Entry (Ref TypeId)). e.part) (numbered n ts)
  refs_numbered n [] = refl
  refs_numbered n (t ∷ ts) = ap (λ l. Of t ∷ l) (refs_numbered (n + 1) ts)

  refs_fields : (fs : List (Field TypeId)) → refs (types_of fs) ≡ map (λ (e : Entry (Ref TypeId)). e.part) (map entry_of fs)
  refs_fields [] = refl
  refs_fields (f ∷ fs) = ap (λ l. Of f.part ∷ l) (refs_fields fs)

  unit_part : (p : Datum) → IsPartOf {A = TypeId} (node.Tuple []) p → (p ≡ part.Record 0) × (wire_inside {B = Ref TypeId} (wire_of_node head (node.Tuple [])) p ≡ [])
  unit_part (part.Record n) h = (ap (λ k. part.Record k) h, refl)
  unit_part p h = absurd h

  unit_typed : (t : TypeId) (n : Node TypeId) (v : Values) → head t ≡ n → Typed (Of t ∷ []) v → Typed (payload_by head t n ∷ []) v
  unit_typed t (node.Tuple []) (Value p inner others) e h =
      let k = unit_part p (subst (λ m. IsPartOf m p) e h.0) in
      let i : Typed [] inner = subst (λ rs. Typed rs inner) (ap (λ m. wire_inside (wire_of_node head m) p) e ∙ k.1) h.1 in
      (k.0, i, h.2)
  unit_typed t (node.Tuple []) Nil e h = absurd h
  unit_typed t n v e h = h

  tag_typed : (o : Option (Field TypeId)) (v : Values) → Typed (refs (one_type o)) v → Typed (one_part (option_map (tag_of head) o)) v
  tag_typed None v h = h
  tag_typed (Some f) v h = unit_typed f.part (head f.part) v refl h

  inside_typed : (n : Node TypeId) (p : Datum) (v : Values) → IsPartOf n p → Typed (refs (inside n p)) v → Typed (wire_inside (wire_of_node head n) p) v
  inside_typed (node.Number k) (part.Number z) v t h = h
  inside_typed node.Bool (part.Flag x) v t h = h
  inside_typed node.Char (part.Char c) v t h = h
  inside_typed node.Text (part.Text s) v t h = h
  inside_typed node.Blob (part.Blob s) v t h = h
  inside_typed node.Principal (part.Principal s) v t h = h
  inside_typed node.Null part.Null v t h = h
  inside_typed node.Any (part.Record m) v t h = h
  inside_typed (node.Opt u) part.Null v t h = h
  inside_typed (node.Opt u) part.Present v t h = h
  inside_typed (node.Array u) (part.Many m) v t h = subst (λ rs. Typed rs v) (refs_copies m u) h
  inside_typed (node.Tuple ts) (part.Record m) v t h = subst (λ rs. Typed rs v) (refs_numbered 0 ts) h
  inside_typed (node.Object fs) (part.Record m) v t h = subst (λ rs. Typed rs v) (refs_fields (by_label fs)) h
  inside_typed (node.Actor fs) (part.Actor s) v t h = h
  inside_typed (node.Variant fs) (part.Tag i) v t h = subst (λ (o : Option (Entry (Ref TypeId))). Typed (one_part o) v) (sym (slice_get-map (tag_of head) (by_label fs) i)) (tag_typed (slice_get (by_label fs) i) v h)
  inside_typed (node.Func sort.Local ps rs) (part.Method s m) v t h = h
  inside_typed (node.Func sort.Shared ps rs) (part.Method s m) v t h = h
  inside_typed (node.Func sort.Query ps rs) (part.Method s m) v t h = h
  inside_typed n p v t h = absurd t

  have_typed : (ts : List TypeId) (v : Values) → HaveTypes head ts v → Typed (refs ts) v
  have_typed [] Nil h = tt
  have_typed [] (Value p inner others) h = absurd h
  have_typed (t ∷ ts) Nil h = absurd h
  have_typed (t ∷ ts) (Value p inner others) h = (h.0, inside_typed (head t) p inner h.0 (have_typed (inside (head t) p) inner h.1), have_typed ts others h.2)

  pub have_holds : (ts : List TypeId) (v : Values) → HaveTypes head ts v → Holds head (refs ts) (flat v)
  have_holds ts v h = subst (λ rs. Holds head rs (flat v)) (append-nil (refs ts)) (subst (λ ps. Holds head (refs ts ++ []) ps) (append-nil (flat v)) (typed_holds (refs ts) [] v [] (have_typed ts v h) tt))
