-- How writing goes on.
use Rattle.std.proofs.Common.{◌≡◌, ℕ, suc, ◌+◌, ◌<◌, ◌≤◌, List, [], ◌∷◌, ◌++◌, length, map, drop, get_or, refl, sym, ap, ◌∙◌, subst, append_assoc, add-one}
use Rattle.std.proofs.lemmas.List.{append-nil, map-append}
use Rattle.std.proofs.Math.Seq.{drop-cons}
use Rattle.std.proofs.Math.ListN.{drop_of_length-le}
use Rattle.mo_types.specs.declared.datum.Datum.{Datum}
use Rattle.mo_types.specs.declared.node.TypeId.{TypeId}
use Rattle.mo_types.specs.declared.wire.Plain.TheVariants as plain
use Rattle.mo_types.specs.declared.wire.Ref.{Ref}
use Rattle.mo_types.specs.declared.wire.Ref.TheVariants.{Of, Just}
use Rattle.mo_types.specs.declared.wire.Wire.{Wire}
use Rattle.mo_types.specs.Graph.{Slot, head_at}
use Rattle.mo_types.specs.Spelling.{shortest, AnyCount}
use Rattle.candid_types.specs.Shapes.{ref_of, IsTableOf}
use Rattle.candid_types.specs.Inside.{below}
use Rattle.candid_forms.specs.Forms.{IsPartAt, inside_ref}
use Rattle.candid_forms.proofs.ByNumber.{inside_same}
use Rattle.candid_write.specs.Appends.{Appends}
use Rattle.candid_encode.specs.Puts.{Fits}
use Rattle.candid_encode.specs.Flat.{Writes, Holds, Goes}

drop_one : (parts : List Datum) (i : ℕ) (p : Datum) → i < length parts → get_or parts i p ≡ p → drop i parts ≡ p ∷ drop (i + 1) parts
drop_one parts i p l e = rw add-one (drop-cons parts i p l ∙ ap (λ (q : Datum). q ∷ drop (suc i) parts) e)

module _ (slots : List Slot) where
  pub goes_none : (types : List (Ref TypeId)) (parts : List Datum) (old : List ℕ) → Goes (head_at slots) types parts types parts old old
  goes_none types parts old = record { written = []; whole = sym (append-nil old); writes = λ bytes h. h; holds = λ h. h }

  pub goes_more : (shapes : List (Wire ℕ)) → IsTableOf slots shapes → (types : List (Ref TypeId)) (parts rest : List Datum) (old mid new : List ℕ) (t : ℕ) (p : Datum) (todo more : List ℕ)
      → Goes (head_at slots) types parts (map ref_of (t ∷ todo)) (p ∷ rest) old mid → Appends (IsPartAt shortest AnyCount (head_at slots) (ref_of t) p) mid new → more ≡ below shapes t p ++ todo
      → Goes (head_at slots) types parts (map ref_of more) rest old new
  goes_more shapes table types parts rest old mid new t p todo more g a m =
      let same : map ref_of more ≡ inside_ref (head_at slots) (ref_of t) p ++ map ref_of todo = ap (map ref_of) m ∙ map-append ref_of (below shapes t p) todo ∙ ap (λ (l : List (Ref TypeId)). l ++ map ref_of todo) (inside_same shortest AnyCount slots shapes table t p a.bytes a.fits) in
      record {
        written = g.written ++ a.bytes;
        whole = a.whole ∙ ap (λ (l : List ℕ). l ++ a.bytes) g.whole ∙ append_assoc old g.written a.bytes;
        writes = λ bytes h. subst (λ (b : List ℕ). Writes (head_at slots) types parts b) (sym (append_assoc g.written a.bytes bytes))
            (g.writes (a.bytes ++ bytes) (record { front = a.bytes; back = bytes; whole = refl; first = a.fits; second = subst (λ rs. Writes (head_at slots) rs rest bytes) same h }));
        holds = λ h. let k = g.holds h in subst (λ rs. Holds (head_at slots) rs rest) (sym same) k.1;
      }

  -- one turn of the loop
  pub turn : (shapes : List (Wire ℕ)) → IsTableOf slots shapes → (types : List (Ref TypeId)) (parts : List Datum) (i : ℕ) (p : Datum) (old mid new : List ℕ) (t : ℕ) (before todo more : List ℕ)
      → Goes (head_at slots) types parts (map ref_of before) (drop i parts) old mid → i < length parts → before ≡ t ∷ todo → get_or parts i p ≡ p
      → Appends (IsPartAt shortest AnyCount (head_at slots) (ref_of t) p) mid new → more ≡ below shapes t p ++ todo
      → Goes (head_at slots) types parts (map ref_of more) (drop (i + 1) parts) old new
  turn shapes table types parts i p old mid new t before todo more g l b e a m =
      goes_more shapes table types parts (drop (i + 1) parts) old mid new t p todo more
      (subst (λ ps. Goes (head_at slots) types parts (map ref_of (t ∷ todo)) ps old mid) (drop_one parts i p l e) (subst (λ (ts : List ℕ). Goes (head_at slots) types parts (map ref_of ts) (drop i parts) old mid) b g)) a m

  -- where all parts have their types, the next one has its own
  pub next_fits : (types : List (Ref TypeId)) (parts : List Datum) (i : ℕ) (p : Datum) (old mid : List ℕ) (t : ℕ) (before todo : List ℕ) → Goes (head_at slots) types parts (map ref_of before) (drop i parts) old mid → i < length parts → before ≡ t ∷ todo → get_or parts i p ≡ p
      → Holds (head_at slots) types parts → Fits (head_at slots) (ref_of t) p
  next_fits types parts i p old mid t before todo g l b e h =
      let k : Holds (head_at slots) (map ref_of (t ∷ todo)) (drop i parts) = subst (λ (ts : List ℕ). Holds (head_at slots) (map ref_of ts) (drop i parts)) b (g.holds h) in
      let j : Holds (head_at slots) (map ref_of (t ∷ todo)) (p ∷ drop (i + 1) parts) = subst (λ ps. Holds (head_at slots) (map ref_of (t ∷ todo)) ps) (drop_one parts i p l e) k in
      j.0

  part_fits : (r : Ref TypeId) (p : Datum) (bytes : List ℕ) → IsPartAt shortest AnyCount (head_at slots) r p bytes → Fits (head_at slots) r p
  part_fits (Of t) p bytes h = h.0
  part_fits (Just plain.Null) p bytes h = h.0
  part_fits (Just q) p bytes h = absurd h

  writes_hold : (rs : List (Ref TypeId)) (ps : List Datum) (bytes : List ℕ) → Writes (head_at slots) rs ps bytes → Holds (head_at slots) rs ps
  writes_hold [] [] bytes h = tt
  writes_hold [] (p ∷ ps) bytes h = absurd h
  writes_hold (r ∷ rs) [] bytes h = absurd h
  writes_hold (r ∷ rs) (p ∷ ps) bytes h = (part_fits r p h.front h.first, writes_hold (inside_ref (head_at slots) r p ++ rs) ps h.back h.second)

  -- all is written
  pub all_written : (types : List (Ref TypeId)) (parts : List Datum) (i : ℕ) (old new : List ℕ) (before : List ℕ) → Goes (head_at slots) types parts (map ref_of before) (drop i parts) old new → length parts ≤ i → before ≡ [] → Holds (head_at slots) types parts × Appends (Writes (head_at slots) types parts) old new
  all_written types parts i old new before g l b =
      let k : Goes (head_at slots) types parts [] [] old new = subst (λ ps. Goes (head_at slots) types parts [] ps old new) (drop_of_length-le parts l) (subst (λ (ts : List ℕ). Goes (head_at slots) types parts (map ref_of ts) (drop i parts) old new) b g) in
      let w = subst (λ (b : List ℕ). Writes (head_at slots) types parts b) (append-nil k.written) (k.writes [] refl) in
      (writes_hold types parts k.written w, record { bytes = k.written; whole = k.whole; fits = w })
