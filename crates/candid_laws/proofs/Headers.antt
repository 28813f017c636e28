-- Equal types have the same canonical headers.
use Rattle.std.proofs.Common.{◌≡◌, ℕ, zero, suc, List, [], ◌∷◌, ◌++◌, map, Some, None, slice_get, refl, ap, ◌∙◌, subst}
use Rattle.mo_types.specs.declared.wire.Entry.{Entry}
use Rattle.mo_types.specs.declared.wire.Method.{Method}
use Rattle.mo_types.specs.declared.wire.Wire.{Wire}
use Rattle.mo_types.specs.declared.wire.Wire.TheVariants.{Simple, Opt, Vec, Record, Variant, Func, Service}
use Rattle.mo_types.specs.Wire.{plain_code, SameParts, SameEntries, SameMethods, SameHead, SameTo, SameWire}
use Rattle.mo_types.specs.Spelling.{Numbers, IsString}
use Rattle.mo_types.specs.Header.{IsByte, IsEach, IsList, IsField, IsMethod, IsEntry, IsHeader, IsSimple, parts_of, IsAt, Visits, Done, Skip, Old, New, RefBy, IsRef, IsCanonical}
use Rattle.candid_laws.proofs.Counts.{part_counts, entry_counts, method_counts}
use Rattle.candid_laws.proofs.Same.{same_sym, same_trans, same_heads}

-- ---- headers of parts that go along

module _ {B C : Type 0} (N : Numbers) (P : B → List ℕ → Type 0) (Q : C → List ℕ → Type 0) (R : B → C → Type 0) (along : (b : B) (c : C) (bytes : List ℕ) → R b c → P b bytes → Q c bytes) where
  each_along : (bs : List B) (cs : List C) (bytes : List ℕ) → SameParts R bs cs → IsEach P bs bytes → IsEach Q cs bytes
  each_along [] [] bytes h e = e
  each_along (b ∷ bs) (c ∷ cs) bytes h e = record { front = e.front; back = e.back; whole = e.whole; first = along b c e.front h.0 e.first; second = each_along bs cs e.back h.1 e.second }
  each_along [] (c ∷ cs) bytes h e = absurd h
  each_along (b ∷ bs) [] bytes h e = absurd h

  fields_along : (bs : List (Entry B)) (cs : List (Entry C)) (bytes : List ℕ) → SameEntries R bs cs → IsEach (IsField N P) bs bytes → IsEach (IsField N Q) cs bytes
  fields_along [] [] bytes h e = e
  fields_along (b ∷ bs) (c ∷ cs) bytes h e =
      let f = e.first in
      record { front = e.front; back = e.back; whole = e.whole; first = record { front = f.front; back = f.back; whole = f.whole; first = subst (λ (k : ℕ). N.unsigned 32 f.front k) h.0 f.first; second = along b.part c.part f.back h.1 f.second }; second = fields_along bs cs e.back h.2 e.second }
  fields_along [] (c ∷ cs) bytes h e = absurd h
  fields_along (b ∷ bs) [] bytes h e = absurd h

  methods_along : (bs : List (Method B)) (cs : List (Method C)) (bytes : List ℕ) → SameMethods R bs cs → IsEach (IsMethod N P) bs bytes → IsEach (IsMethod N Q) cs bytes
  methods_along [] [] bytes h e = e
  methods_along (b ∷ bs) (c ∷ cs) bytes h e =
      let f = e.first in
      record { front = e.front; back = e.back; whole = e.whole; first = record { front = f.front; back = f.back; whole = f.whole; first = subst (λ (k : List ℕ). IsString N k f.front) h.0 f.first; second = along b.part c.part f.back h.1 f.second }; second = methods_along bs cs e.back h.2 e.second }
  methods_along [] (c ∷ cs) bytes h e = absurd h
  methods_along (b ∷ bs) [] bytes h e = absurd h

  list_along : (bs : List B) (cs : List C) (bytes : List ℕ) → SameParts R bs cs → IsList N P bs bytes → IsList N Q cs bytes
  list_along bs cs bytes h e = record { front = e.front; back = e.back; whole = e.whole; first = subst (λ (k : ℕ). N.unsigned 32 e.front k) (part_counts R bs cs h) e.first; second = each_along bs cs e.back h e.second }

  field_list : (bs : List (Entry B)) (cs : List (Entry C)) (bytes : List ℕ) → SameEntries R bs cs → IsList N (IsField N P) bs bytes → IsList N (IsField N Q) cs bytes
  field_list bs cs bytes h e = record { front = e.front; back = e.back; whole = e.whole; first = subst (λ (k : ℕ). N.unsigned 32 e.front k) (entry_counts R bs cs h) e.first; second = fields_along bs cs e.back h e.second }

  method_list : (bs : List (Method B)) (cs : List (Method C)) (bytes : List ℕ) → SameMethods R bs cs → IsList N (IsMethod N P) bs bytes → IsList N (IsMethod N Q) cs bytes
  method_list bs cs bytes h e = record { front = e.front; back = e.back; whole = e.whole; first = subst (λ (k : ℕ). N.unsigned 32 e.front k) (method_counts R bs cs h) e.first; second = methods_along bs cs e.back h e.second }

  entry_along : (w : Wire B) (v : Wire C) (bytes : List ℕ) → SameHead R w v → IsEntry N P w bytes → IsEntry N Q v bytes
  entry_along (Simple p) v bytes h e = absurd e
  entry_along (Opt a) (Opt b) bytes h e = record { front = e.front; back = e.back; whole = e.whole; first = e.first; second = along a b e.back h e.second }
  entry_along (Vec a) (Vec b) bytes h e = record { front = e.front; back = e.back; whole = e.whole; first = e.first; second = along a b e.back h e.second }
  entry_along (Record bs) (Record cs) bytes h e = record { front = e.front; back = e.back; whole = e.whole; first = e.first; second = field_list bs cs e.back h e.second }
  entry_along (Variant bs) (Variant cs) bytes h e = record { front = e.front; back = e.back; whole = e.whole; first = e.first; second = field_list bs cs e.back h e.second }
  entry_along (Func ps rs n) (Func qs ss m) bytes h e =
      let k = e.second in
      let l = k.second in
      record {
        front = e.front;
        back = e.back;
        whole = e.whole;
        first = e.first;
        second = record {
          front = k.front;
          back = k.back;
          whole = k.whole;
          first = list_along ps qs k.front h.0 k.first;
          second = record { front = l.front; back = l.back; whole = l.whole; first = list_along rs ss l.front h.1 l.first; second = subst (λ (x : List ℕ). IsList N IsByte x l.back) h.2 l.second };
        };
      }
  entry_along (Service bs) (Service cs) bytes h e = record { front = e.front; back = e.back; whole = e.whole; first = e.first; second = method_list bs cs e.back h e.second }
  entry_along w v bytes h e = absurd h

  entries_along : (ws : List (Wire B)) (vs : List (Wire C)) (bytes : List ℕ) → SameParts (SameHead R) ws vs → IsEach (IsEntry N P) ws bytes → IsEach (IsEntry N Q) vs bytes
  entries_along [] [] bytes h e = e
  entries_along (w ∷ ws) (v ∷ vs) bytes h e = record { front = e.front; back = e.back; whole = e.whole; first = entry_along w v e.front h.0 e.first; second = entries_along ws vs e.back h.1 e.second }
  entries_along [] (v ∷ vs) bytes h e = absurd h
  entries_along (w ∷ ws) [] bytes h e = absurd h

  pub header_along : (table : List (Wire B)) (other : List (Wire C)) (args : List B) (others : List C) (bytes : List ℕ) → SameParts (SameHead R) table other → SameParts R args others → IsHeader N P table args bytes → IsHeader N Q other others bytes
  header_along table other args others bytes h k e =
      let f = e.second in
      let t = f.first in
      record {
        front = e.front;
        back = e.back;
        whole = e.whole;
        first = e.first;
        second = record {
          front = f.front;
          back = f.back;
          whole = f.whole;
          first = record { front = t.front; back = t.back; whole = t.whole; first = subst (λ (n : ℕ). N.unsigned 32 t.front n) (part_counts (SameHead R) table other h) t.first; second = entries_along table other t.back h t.second };
          second = list_along args others f.back k f.second;
        };
      }

-- ---- visits of equal types

module _ {A B : Type 0} (h : A → Wire A) (k : B → Wire B) where
  abbrev pub Alike : A → B → Type 0
  Alike a b = (n : ℕ) → SameTo h k n a b

  alike : (a : A) (b : B) → SameWire h k a b → Alike a b
  alike a b s = s.to

  simple_to : (w : Wire A) (v : Wire B) → SameHead Alike w v → IsSimple w → IsSimple v
  simple_to (Simple p) (Simple q) s i = tt
  simple_to (Opt a) v s i = absurd i
  simple_to (Vec a) v s i = absurd i
  simple_to (Record es) v s i = absurd i
  simple_to (Variant es) v s i = absurd i
  simple_to (Func ps rs n) v s i = absurd i
  simple_to (Service ms) v s i = absurd i
  simple_to (Simple p) v s i = absurd s

  pub simple_from : (w : Wire A) (v : Wire B) → SameHead Alike w v → IsSimple v → IsSimple w
  simple_from (Simple p) (Simple q) s i = tt
  simple_from w (Simple q) s i = absurd s
  simple_from w (Opt a) s i = absurd i
  simple_from w (Vec a) s i = absurd i
  simple_from w (Record es) s i = absurd i
  simple_from w (Variant es) s i = absurd i
  simple_from w (Func ps rs n) s i = absurd i
  simple_from w (Service ms) s i = absurd i

  joined : (as_ cs : List A) (bs ds : List B) → SameParts Alike as_ bs → SameParts Alike cs ds → SameParts Alike (as_ ++ cs) (bs ++ ds)
  joined [] cs [] ds s t = t
  joined (a ∷ as_) cs (b ∷ bs) ds s t = (s.0, joined as_ cs bs ds s.1 t)
  joined [] cs (b ∷ bs) ds s t = absurd s
  joined (a ∷ as_) cs [] ds s t = absurd s

  pub entry_parts : (as_ : List (Entry A)) (bs : List (Entry B)) → SameEntries Alike as_ bs → SameParts Alike (map (λ (e : Entry A). e.part) as_) (map (λ (e : Entry B). e.part) bs)
  entry_parts [] [] s = tt
  entry_parts (a ∷ as_) (b ∷ bs) s = (s.1, entry_parts as_ bs s.2)
  entry_parts [] (b ∷ bs) s = absurd s
  entry_parts (a ∷ as_) [] s = absurd s

  method_parts : (as_ : List (Method A)) (bs : List (Method B)) → SameMethods Alike as_ bs → SameParts Alike (map (λ (e : Method A). e.part) as_) (map (λ (e : Method B). e.part) bs)
  method_parts [] [] s = tt
  method_parts (a ∷ as_) (b ∷ bs) s = (s.1, method_parts as_ bs s.2)
  method_parts [] (b ∷ bs) s = absurd s
  method_parts (a ∷ as_) [] s = absurd s

  head_parts : (w : Wire A) (v : Wire B) → SameHead Alike w v → SameParts Alike (parts_of w) (parts_of v)
  head_parts (Simple p) (Simple q) s = tt
  head_parts (Opt a) (Opt b) s = (s, tt)
  head_parts (Vec a) (Vec b) s = (s, tt)
  head_parts (Record as_) (Record bs) s = entry_parts as_ bs s
  head_parts (Variant as_) (Variant bs) s = entry_parts as_ bs s
  head_parts (Func ps rs n) (Func qs ss m) s = joined ps rs qs ss s.0 s.1
  head_parts (Service as_) (Service bs) s = method_parts as_ bs s
  head_parts w v s = absurd s

  -- the one at the same place
  at_place : (as_ : List A) (bs : List B) (i : ℕ) (a : A) → SameParts Alike as_ bs → slice_get as_ i ≡ Some a → (b : B) × (slice_get bs i ≡ Some b) × Alike a b
  at_place [] bs i a s e = let f : None ≡ Some a = e in cc
  at_place (x ∷ as_) [] i a s e = absurd s
  at_place (x ∷ as_) (b ∷ bs) zero a s e = let f : Some x ≡ Some a = e in let g : x ≡ a = cc in (b, refl, subst (λ (z : A). Alike z b) g s.0)
  at_place (x ∷ as_) (b ∷ bs) (suc i) a s e = at_place as_ bs i a s.1 e

  is_at_along : (order : List A) (other : List B) (a : A) (b : B) (i : ℕ) → SameParts Alike order other → Alike a b → IsAt h order a i → IsAt k other b i
  is_at_along order other a b i s e at =
      let p = at_place order other i at.other s at.there in
      let back : SameWire k h p.0 at.other = same_sym h k at.other p.0 (record { to = p.2 }) in
      let on : SameWire k h p.0 a = same_trans k h h p.0 at.other a back at.same in
      record { other = p.0; there = p.1; same = same_trans k h k p.0 a b on (record { to = e }) }

-- a visit of equal types goes the same way
module _ {A B : Type 0} (h : A → Wire A) (k : B → Wire B) where
  abbrev Same : A → B → Type 0
  Same a b = (n : ℕ) → SameTo h k n a b

  back_parts : (as_ : List A) (bs : List B) → SameParts Same as_ bs → SameParts (λ b a. (n : ℕ) → SameTo k h n b a) bs as_
  back_parts [] [] s = tt
  back_parts (a ∷ as_) (b ∷ bs) s = ((same_sym h k a b (record { to = s.0 })).to, back_parts as_ bs s.1)
  back_parts [] (b ∷ bs) s = absurd s
  back_parts (a ∷ as_) [] s = absurd s

  record Goes (other : List B) (bs : List B) (out : List A) : Type 0 where
    end : List B
    same : SameParts Same out end
    visits : Visits k other bs end

  visits_along : (order as_ out : List A) (other bs : List B) → SameParts Same order other → SameParts Same as_ bs → Visits h order as_ out → Goes other bs out
  visits_along order [] out other [] s t Done = record { end = other; same = s; visits = Done }
  visits_along order [] out other (b ∷ bs) s t v = absurd t
  visits_along order (a ∷ as_) out other [] s t v = absurd t
  visits_along order (a ∷ as_) out other (b ∷ bs) s t (Skip _ i v) =
      let r = visits_along order as_ out other bs s t.1 v in
      record { end = r.end; same = r.same; visits = Skip b (simple_to h k (h a) (k b) (same_heads h k a b (record { to = t.0 })) i) r.visits }
  visits_along order (a ∷ as_) out other (b ∷ bs) s t (Old _ i v) =
      let r = visits_along order as_ out other bs s t.1 v in
      record { end = r.end; same = r.same; visits = Old b (i.0, is_at_along h k order other a b i.0 s t.0 i.1) r.visits }
  visits_along order (a ∷ as_) out other (b ∷ bs) s t (New _ i j v) =
      let heads = same_heads h k a b (record { to = t.0 }) in
      let r = visits_along (order ++ a ∷ []) (parts_of (h a) ++ as_) out (other ++ b ∷ []) (parts_of (k b) ++ bs) (joined h k order (a ∷ []) other (b ∷ []) s (t.0, tt)) (joined h k (parts_of (h a)) as_ (parts_of (k b)) bs (head_parts h k (h a) (k b) heads) t.1) v in
      record {
        end = r.end;
        same = r.same;
        visits = New b (λ y. i (simple_from h k (h a) (k b) heads y))
            (λ y. j (y.0, is_at_along k h other order b a y.0 (back_parts order other s) (same_sym h k a b (record { to = t.0 })).to y.1)) r.visits;
      }

  ref_by_along : (N : Numbers) (order : List A) (other : List B) (a : A) (b : B) (w : Wire A) (v : Wire B) (bytes : List ℕ) → SameParts Same order other → Same a b → SameHead Same w v → RefBy h N order a w bytes → RefBy k N other b v bytes
  ref_by_along N order other a b (Simple p) (Simple q) bytes s t u r = r ∙ ap (λ x. plain_code x ∷ []) u
  ref_by_along N order other a b (Opt x) (Opt y) bytes s t u r = (r.0, is_at_along h k order other a b r.0 s t r.1, r.2)
  ref_by_along N order other a b (Vec x) (Vec y) bytes s t u r = (r.0, is_at_along h k order other a b r.0 s t r.1, r.2)
  ref_by_along N order other a b (Record x) (Record y) bytes s t u r = (r.0, is_at_along h k order other a b r.0 s t r.1, r.2)
  ref_by_along N order other a b (Variant x) (Variant y) bytes s t u r = (r.0, is_at_along h k order other a b r.0 s t r.1, r.2)
  ref_by_along N order other a b (Func x y z) (Func u v w) bytes s t d r = (r.0, is_at_along h k order other a b r.0 s t r.1, r.2)
  ref_by_along N order other a b (Service x) (Service y) bytes s t u r = (r.0, is_at_along h k order other a b r.0 s t r.1, r.2)
  ref_by_along N order other a b w v bytes s t u r = absurd u

  table_along : (order : List A) (other : List B) → SameParts Same order other → SameParts (SameHead Same) (map h order) (map k other)
  table_along [] [] s = tt
  table_along (a ∷ order) (b ∷ other) s = (same_heads h k a b (record { to = s.0 }), table_along order other s.1)
  table_along [] (b ∷ other) s = absurd s
  table_along (a ∷ order) [] s = absurd s

  abbrev pub SameWires : List A → List B → Type 0
  SameWires as_ bs = SameParts (SameWire h k) as_ bs

  pub each_same : (as_ : List A) (bs : List B) → SameWires as_ bs → SameParts Same as_ bs
  each_same [] [] s = tt
  each_same (a ∷ as_) (b ∷ bs) s = (s.0.to, each_same as_ bs s.1)
  each_same [] (b ∷ bs) s = absurd s
  each_same (a ∷ as_) [] s = absurd s

  pub canonical_along : (N : Numbers) (as_ : List A) (bs : List B) (bytes : List ℕ) → SameWires as_ bs → IsCanonical h N as_ bytes → IsCanonical k N bs bytes
  canonical_along N as_ bs bytes s c =
      let t = each_same as_ bs s in
      let v = visits_along [] as_ c.order [] bs tt t c.visits in
      record {
        order = v.end;
        visits = v.visits;
        header = header_along N (IsRef h N c.order) (IsRef k N v.end) Same
            (λ a b l e r. ref_by_along N c.order v.end a b (h a) (k b) l v.same e (same_heads h k a b (record { to = e })) r)
            (map h c.order) (map k v.end) as_ bs bytes (table_along c.order v.end v.same) t c.header;
      }
