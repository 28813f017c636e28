-- An outermost part with the values inside it, as a Motoko value and as a Candid value.
use Rattle.std.proofs.Common.{◌≡◌, ℕ, zero, suc, ◌+◌, ◌<◌, List, [], ◌∷◌, ◌++◌, length, map, Option, Some, None, slice_get, refl, sym, ap, ◌∙◌, subst}
use Rattle.std.specs.Prelude.{pos}
use Rattle.std.specs.Option.{option_map}
use Rattle.std.proofs.lemmas.List.{append-nil}
use Rattle.std.proofs.lemmas.Option.{slice_get-map}
use Rattle.mo_types.specs.declared.datum.Datum.{Datum}
use Rattle.mo_types.specs.declared.datum.Datum.TheVariants as part
use Rattle.mo_types.specs.declared.node.Node.{Node}
use Rattle.mo_types.specs.declared.node.Node.TheVariants as node
use Rattle.mo_types.specs.declared.node.Field.{Field}
use Rattle.mo_types.specs.declared.node.Sort.TheVariants as sort
use Rattle.mo_types.specs.declared.wire.Plain.TheVariants as plain
use Rattle.mo_types.specs.declared.wire.Entry.{Entry}
use Rattle.mo_types.specs.declared.wire.Wire.{Wire}
use Rattle.mo_types.specs.declared.wire.Ref.{Ref}
use Rattle.mo_types.specs.declared.wire.Ref.TheVariants.{Of, Just}
use Rattle.mo_types.specs.Sub.{Each}
use Rattle.mo_types.specs.Wire.{refs, numbered, entry_of, tag_of, payload_by, wire, wire_of_node}
use Rattle.mo_types.specs.Form.{form_part, form_inner, is_unit_by, under_tag, form}
use Rattle.mo_types.specs.Values.{Values, Nil, Value, copies, by_label, types_of, one_type, inside, IsPartOf, HaveTypes}
use Rattle.mo_types.specs.Spelling.{Numbers, Then, IsString, IsWirePart, one_part, wire_inside, Spell}
use Rattle.candid_forms.specs.Forms.{IsSpelledBy, IsPartAt, Forms}
use Rattle.candid_forms.proofs.Blobs.{bytes_spelled, spelled_bytes}

-- ---- the types inside a part, as Motoko's and as Candid's

refs_copies : {A : Type 0} (n : ℕ) (a : A) → refs (copies n a) ≡ copies n (Of a)
refs_copies zero a = refl
refs_copies (suc n) a = ap (λ l. Of a ∷ l) (refs_copies n a)

refs_numbered : {A : Type 0} (n : ℕ) (ts : List A) → refs ts ≡ map (λ (e : Entry (Ref A)). e.part) (numbered n ts)
refs_numbered n [] = refl
refs_numbered n (t ∷ ts) = ap (λ l. Of t ∷ l) (refs_numbered (n + 1) ts)

refs_fields : {A : Type 0} (fs : List (Field A)) → refs (types_of fs) ≡ map (λ (e : Entry (Ref A)). e.part) (map entry_of fs)
refs_fields [] = refl
refs_fields (f ∷ fs) = ap (λ l. Of f.part ∷ l) (refs_fields fs)

module _ {A : Type 0} (N : Numbers) (Allowed : ℕ → Ref A → Type 0) (head : A → Node A) where
  abbrev pub Spelled : List (Ref A) → Values → List ℕ → Type 0
  Spelled rs v bytes = Spell N Allowed (wire head) rs v bytes

  abbrev pub Formed : List (Ref A) → Values → List ℕ → Type 0
  Formed rs v bytes = Forms N Allowed head rs v bytes

  -- the Candid value of a part and of what is inside it
  abbrev pub Candid : Node A → Datum → Values → List ℕ → Type 0
  Candid n p inner bytes = Then (IsWirePart N Allowed (wire_of_node head n) (form_part n p)) (Spelled (wire_inside (wire_of_node head n) (form_part n p)) (form_inner head n p (form head (inside n p) inner))) bytes

  -- the Motoko value
  abbrev pub Motoko : Node A → Datum → Values → List ℕ → Type 0
  Motoko n p inner bytes = Then (IsSpelledBy N Allowed head n p) (Formed (wire_inside (wire_of_node head n) p) inner) bytes

  abbrev pub To : Values → List ℕ → Type 0
  To inner b = (ts : List A) → Formed (refs ts) inner b → HaveTypes head ts inner × Spelled (refs ts) (form head ts inner) b

  abbrev pub From : Values → Type 0
  From inner = (ts : List A) (b : List ℕ) → HaveTypes head ts inner → Spelled (refs ts) (form head ts inner) b → Formed (refs ts) inner b

  -- where the values inside are the same on both sides
  kept_to : (w : Wire (Ref A)) (p q : Datum) (ts : List A) (inner : Values) (a b : List ℕ) → To inner b → IsWirePart N Allowed w q a → refs ts ≡ wire_inside w p → refs ts ≡ wire_inside w q → Formed (wire_inside w p) inner b
      → HaveTypes head ts inner × Then (IsWirePart N Allowed w q) (Spelled (wire_inside w q) (form head ts inner)) (a ++ b)
  kept_to w p q ts inner a b ih h e f g =
      let r = ih ts (subst (λ (rs : List (Ref A)). Formed rs inner b) (sym e) g) in
      (r.0, record { front = a; back = b; whole = refl; first = h; second = subst (λ (rs : List (Ref A)). Spelled rs (form head ts inner) b) f r.1 })

  any_to : (m : ℕ) (inner : Values) (a b : List ℕ) → a ≡ [] → Formed [] inner b → HaveTypes head [] inner × Candid node.Any (part.Record m) inner (a ++ b)
  any_to m Nil a b h g = (tt, record { front = a; back = b; whole = refl; first = h; second = g })
  any_to m (Value p inner others) a b h g = absurd g

  blob_to : (free : (n : ℕ) → Allowed n (Just plain.Nat8)) (s : List ℕ) (inner : Values) (a b : List ℕ) → Each (λ c. c < 256) s → IsString N s a → Formed [] inner b → HaveTypes head [] inner × Candid node.Blob (part.Blob s) inner (a ++ b)
  blob_to free s Nil a b h k g = (
    tt,
    record {
      front = k.front;
      back = s;
      whole = ap (λ (x : List ℕ). a ++ x) g ∙ append-nil a ∙ k.whole ∙ ap (λ (x : List ℕ). k.front ++ x) k.second;
      first = (free (length s), k.first);
      second = bytes_spelled N Allowed head s h;
    },
  )
  blob_to free s (Value p inner others) a b h k g = absurd g

  -- ---- under a tag

  abbrev Payload : A → Node A → Values → List ℕ → Type 0
  Payload t m inner b = HaveTypes head (t ∷ []) inner × Spelled (payload_by head t m ∷ []) (is_unit_by head m (Value part.Null Nil Nil) (form head (t ∷ []) inner)) b

  unit_to : (t : A) (inner : Values) (b : List ℕ) → head t ≡ node.Tuple [] → Formed (Just plain.Null ∷ []) inner b → HaveTypes head (t ∷ []) inner × Spelled (Just plain.Null ∷ []) (Value part.Null Nil Nil) b
  unit_to t Nil b e g = absurd g
  unit_to t (Value p (Value q i o) others) b e g = absurd g.second.first
  unit_to t (Value p Nil (Value q i o)) b e g = absurd g.second.second
  unit_to t (Value p Nil Nil) b e g = (
    subst (λ (n : Node A). IsPartOf n p × HaveTypes head (inside n p) Nil × Unit {0}) (sym e) (subst (λ (d : Datum). IsPartOf {A = A} (node.Tuple []) d × HaveTypes head (inside (node.Tuple []) d) Nil × Unit {0}) (sym g.first.0) (refl, tt, tt)),
    record { front = g.front; back = g.back; whole = g.whole; first = g.first.1; second = record { front = g.second.front; back = g.second.back; whole = g.second.whole; first = g.second.first; second = g.second.second } },
  )

  payload_to : (t : A) (m : Node A) (inner : Values) (b : List ℕ) → head t ≡ m → To inner b → Formed (payload_by head t m ∷ []) inner b → Payload t m inner b
  payload_to t (node.Tuple []) inner b e ih g = unit_to t inner b e g
  payload_to t m inner b e ih g = ih (t ∷ []) g

  tagged_to : (o : Option (Field A)) (inner : Values) (b : List ℕ) → To inner b → Formed (one_part (option_map (tag_of head) o)) inner b
      → HaveTypes head (one_type o) inner × Spelled (one_part (option_map (tag_of head) o)) (under_tag head (one_type o) (form head (one_type o) inner)) b
  tagged_to None inner b ih g = ih [] g
  tagged_to (Some f) inner b ih g = payload_to f.part (head f.part) inner b refl ih g

  tag_to : (fs : List (Field A)) (i : ℕ) (inner : Values) (a b : List ℕ) → To inner b → IsWirePart N Allowed (wire_of_node head (node.Variant fs)) (part.Tag i) a → Formed (one_part (slice_get (map (tag_of head) (by_label fs)) i)) inner b
      → HaveTypes head (inside (node.Variant fs) (part.Tag i)) inner × Candid (node.Variant fs) (part.Tag i) inner (a ++ b)
  tag_to fs i inner a b ih h g =
      let o = slice_get (by_label fs) i in
      let e : slice_get (map (tag_of head) (by_label fs)) i ≡ option_map (tag_of head) o = slice_get-map (tag_of head) (by_label fs) i in
      let r = tagged_to o inner b ih (subst (λ (x : Option (Entry (Ref A))). Formed (one_part x) inner b) e g) in
      (r.0, record { front = a; back = b; whole = refl; first = h; second = subst (λ (x : Option (Entry (Ref A))). Spelled (one_part x) (under_tag head (one_type o) (form head (one_type o) inner)) b) (sym e) r.1 })

  pub part_to : (free : (n : ℕ) → Allowed n (Just plain.Nat8)) (n : Node A) (p : Datum) (inner : Values) (a b : List ℕ) → To inner b → IsPartOf n p → IsSpelledBy N Allowed head n p a → Formed (wire_inside (wire_of_node head n) p) inner b
      → HaveTypes head (inside n p) inner × Candid n p inner (a ++ b)
  part_to free (node.Number k) (part.Number z) inner a b ih t h g = kept_to (wire_of_node head (node.Number k)) (part.Number z) (part.Number z) [] inner a b ih h refl refl g
  part_to free node.Bool (part.Flag x) inner a b ih t h g = kept_to (wire_of_node head node.Bool) (part.Flag x) (part.Flag x) [] inner a b ih h refl refl g
  part_to free node.Char (part.Char c) inner a b ih t h g = kept_to (wire_of_node head node.Char) (part.Char c) (part.Number (pos c)) [] inner a b ih h refl refl g
  part_to free node.Text (part.Text s) inner a b ih t h g = kept_to (wire_of_node head node.Text) (part.Text s) (part.Text s) [] inner a b ih h refl refl g
  part_to free node.Blob (part.Blob s) inner a b ih t h g = blob_to free s inner a b h.0 h.1 g
  part_to free node.Principal (part.Principal s) inner a b ih t h g = kept_to (wire_of_node head node.Principal) (part.Principal s) (part.Principal s) [] inner a b ih h refl refl g
  part_to free node.Null part.Null inner a b ih t h g = kept_to (wire_of_node head node.Null) part.Null part.Null [] inner a b ih h refl refl g
  part_to free node.Any (part.Record m) inner a b ih t h g = any_to m inner a b h g
  part_to free (node.Opt u) part.Null inner a b ih t h g = kept_to (wire_of_node head (node.Opt u)) part.Null part.Null [] inner a b ih h refl refl g
  part_to free (node.Opt u) part.Present inner a b ih t h g = kept_to (wire_of_node head (node.Opt u)) part.Present part.Present (u ∷ []) inner a b ih h refl refl g
  part_to free (node.Array u) (part.Many m) inner a b ih t h g = kept_to (wire_of_node head (node.Array u)) (part.Many m) (part.Many m) (copies m u) inner a b ih h (refs_copies m u) (refs_copies m u) g
  part_to free (node.Tuple ts) (part.Record m) inner a b ih t h g = kept_to (wire_of_node head (node.Tuple ts)) (part.Record m) (part.Record m) ts inner a b ih h (refs_numbered 0 ts) (refs_numbered 0 ts) g
  part_to free (node.Object fs) (part.Record m) inner a b ih t h g = kept_to (wire_of_node head (node.Object fs)) (part.Record m) (part.Record m) (types_of (by_label fs)) inner a b ih h (refs_fields (by_label fs)) (refs_fields (by_label fs)) g
  part_to free (node.Actor fs) (part.Actor s) inner a b ih t h g = kept_to (wire_of_node head (node.Actor fs)) (part.Actor s) (part.Actor s) [] inner a b ih h refl refl g
  part_to free (node.Variant fs) (part.Tag i) inner a b ih t h g = tag_to fs i inner a b ih h g
  part_to free (node.Func sort.Local ps rs) (part.Method s m) inner a b ih t h g = absurd h
  part_to free (node.Func sort.Shared ps rs) (part.Method s m) inner a b ih t h g = kept_to (wire_of_node head (node.Func sort.Shared ps rs)) (part.Method s m) (part.Method s m) [] inner a b ih h refl refl g
  part_to free (node.Func sort.Query ps rs) (part.Method s m) inner a b ih t h g = kept_to (wire_of_node head (node.Func sort.Query ps rs)) (part.Method s m) (part.Method s m) [] inner a b ih h refl refl g
  part_to free n p inner a b ih t h g = absurd t

  -- ---- back

  kept_from : (w : Wire (Ref A)) (p q : Datum) (ts : List A) (inner : Values) (bytes : List ℕ) → From inner → HaveTypes head ts inner → refs ts ≡ wire_inside w p → refs ts ≡ wire_inside w q
      → Then (IsWirePart N Allowed w q) (Spelled (wire_inside w q) (form head ts inner)) bytes → Then (IsWirePart N Allowed w q) (Formed (wire_inside w p) inner) bytes
  kept_from w p q ts inner bytes ih t e f h =
      let g = ih ts h.back t (subst (λ (rs : List (Ref A)). Spelled rs (form head ts inner) h.back) (sym f) h.second) in
      record { front = h.front; back = h.back; whole = h.whole; first = h.first; second = subst (λ (rs : List (Ref A)). Formed rs inner h.back) e g }

  any_from : (m : ℕ) (inner : Values) (bytes : List ℕ) → HaveTypes head [] inner → Candid node.Any (part.Record m) inner bytes → Motoko node.Any (part.Record m) inner bytes
  any_from m Nil bytes t h = record { front = h.front; back = h.back; whole = h.whole; first = h.first; second = h.second }
  any_from m (Value p inner others) bytes t h = absurd t

  blob_from : (s : List ℕ) (inner : Values) (bytes : List ℕ) → HaveTypes head [] inner → Candid node.Blob (part.Blob s) inner bytes → Motoko node.Blob (part.Blob s) inner bytes
  blob_from s Nil bytes t h =
      let r = spelled_bytes N Allowed head s h.back h.second in
      record { front = bytes; back = []; whole = sym (append-nil bytes); first = (r.0, record { front = h.front; back = h.back; whole = h.whole; first = h.first.1; second = r.1 }); second = refl }
  blob_from s (Value p inner others) bytes t h = absurd t

  one_unit : (p : Datum) (i : Values) (front back : List ℕ) → IsPartOf {A = A} (node.Tuple []) p → HaveTypes head (inside (node.Tuple []) p) i → front ≡ [] → back ≡ [] → IsPartAt N Allowed head (Just plain.Null) p front × Formed [] i back
  one_unit (part.Record n) Nil front back t u e f = ((ap (λ (k : ℕ). part.Record k) t, e), f)
  one_unit (part.Record n) (Value p inner others) front back t u e f = absurd u
  one_unit p i front back t u e f = absurd t

  unit_from : (t : A) (inner : Values) (bytes : List ℕ) → head t ≡ node.Tuple [] → HaveTypes head (t ∷ []) inner → Spelled (Just plain.Null ∷ []) (Value part.Null Nil Nil) bytes → Formed (Just plain.Null ∷ []) inner bytes
  unit_from t Nil bytes e h s = absurd h
  unit_from t (Value p i (Value q j o)) bytes e h s = absurd h.2
  unit_from t (Value p i Nil) bytes e h s =
      let k = subst (λ (n : Node A). IsPartOf n p × HaveTypes head (inside n p) i × Unit {0}) e h in
      let r = one_unit p i s.front s.second.front k.0 k.1 s.first s.second.first in
      record { front = s.front; back = s.back; whole = s.whole; first = r.0; second = record { front = s.second.front; back = s.second.back; whole = s.second.whole; first = r.1; second = s.second.second } }

  payload_from : (t : A) (m : Node A) (inner : Values) (b : List ℕ) → head t ≡ m → From inner → Payload t m inner b → Formed (payload_by head t m ∷ []) inner b
  payload_from t (node.Tuple []) inner b e ih g = unit_from t inner b e g.0 g.1
  payload_from t m inner b e ih g = ih (t ∷ []) b g.0 g.1

  tagged_from : (o : Option (Field A)) (inner : Values) (b : List ℕ) → From inner → HaveTypes head (one_type o) inner
      → Spelled (one_part (option_map (tag_of head) o)) (under_tag head (one_type o) (form head (one_type o) inner)) b → Formed (one_part (option_map (tag_of head) o)) inner b
  tagged_from None inner b ih t g = ih [] b t g
  tagged_from (Some f) inner b ih t g = payload_from f.part (head f.part) inner b refl ih (t, g)

  tag_from : (fs : List (Field A)) (i : ℕ) (inner : Values) (bytes : List ℕ) → From inner → HaveTypes head (inside (node.Variant fs) (part.Tag i)) inner → Candid (node.Variant fs) (part.Tag i) inner bytes → Motoko (node.Variant fs) (part.Tag i) inner bytes
  tag_from fs i inner bytes ih t h =
      let o = slice_get (by_label fs) i in
      let e : slice_get (map (tag_of head) (by_label fs)) i ≡ option_map (tag_of head) o = slice_get-map (tag_of head) (by_label fs) i in
      let g = tagged_from o inner h.back ih t (subst (λ (x : Option (Entry (Ref A))). Spelled (one_part x) (under_tag head (one_type o) (form head (one_type o) inner)) h.back) e h.second) in
      record { front = h.front; back = h.back; whole = h.whole; first = h.first; second = subst (λ (x : Option (Entry (Ref A))). Formed (one_part x) inner h.back) (sym e) g }

  pub part_from : (n : Node A) (p : Datum) (inner : Values) (bytes : List ℕ) → From inner → IsPartOf n p → HaveTypes head (inside n p) inner → Candid n p inner bytes → Motoko n p inner bytes
  part_from (node.Number k) (part.Number z) inner bytes ih t u h = kept_from (wire_of_node head (node.Number k)) (part.Number z) (part.Number z) [] inner bytes ih u refl refl h
  part_from node.Bool (part.Flag x) inner bytes ih t u h = kept_from (wire_of_node head node.Bool) (part.Flag x) (part.Flag x) [] inner bytes ih u refl refl h
  part_from node.Char (part.Char c) inner bytes ih t u h = kept_from (wire_of_node head node.Char) (part.Char c) (part.Number (pos c)) [] inner bytes ih u refl refl h
  part_from node.Text (part.Text s) inner bytes ih t u h = kept_from (wire_of_node head node.Text) (part.Text s) (part.Text s) [] inner bytes ih u refl refl h
  part_from node.Blob (part.Blob s) inner bytes ih t u h = blob_from s inner bytes u h
  part_from node.Principal (part.Principal s) inner bytes ih t u h = kept_from (wire_of_node head node.Principal) (part.Principal s) (part.Principal s) [] inner bytes ih u refl refl h
  part_from node.Null part.Null inner bytes ih t u h = kept_from (wire_of_node head node.Null) part.Null part.Null [] inner bytes ih u refl refl h
  part_from node.Any (part.Record m) inner bytes ih t u h = any_from m inner bytes u h
  part_from (node.Opt v) part.Null inner bytes ih t u h = kept_from (wire_of_node head (node.Opt v)) part.Null part.Null [] inner bytes ih u refl refl h
  part_from (node.Opt v) part.Present inner bytes ih t u h = kept_from (wire_of_node head (node.Opt v)) part.Present part.Present (v ∷ []) inner bytes ih u refl refl h
  part_from (node.Array v) (part.Many m) inner bytes ih t u h = kept_from (wire_of_node head (node.Array v)) (part.Many m) (part.Many m) (copies m v) inner bytes ih u (refs_copies m v) (refs_copies m v) h
  part_from (node.Tuple ts) (part.Record m) inner bytes ih t u h = kept_from (wire_of_node head (node.Tuple ts)) (part.Record m) (part.Record m) ts inner bytes ih u (refs_numbered 0 ts) (refs_numbered 0 ts) h
  part_from (node.Object fs) (part.Record m) inner bytes ih t u h = kept_from (wire_of_node head (node.Object fs)) (part.Record m) (part.Record m) (types_of (by_label fs)) inner bytes ih u (refs_fields (by_label fs)) (refs_fields (by_label fs)) h
  part_from (node.Actor fs) (part.Actor s) inner bytes ih t u h = kept_from (wire_of_node head (node.Actor fs)) (part.Actor s) (part.Actor s) [] inner bytes ih u refl refl h
  part_from (node.Variant fs) (part.Tag i) inner bytes ih t u h = tag_from fs i inner bytes ih u h
  part_from (node.Func sort.Local ps rs) (part.Method s m) inner bytes ih t u h = absurd h.first
  part_from (node.Func sort.Shared ps rs) (part.Method s m) inner bytes ih t u h = kept_from (wire_of_node head (node.Func sort.Shared ps rs)) (part.Method s m) (part.Method s m) [] inner bytes ih u refl refl h
  part_from (node.Func sort.Query ps rs) (part.Method s m) inner bytes ih t u h = kept_from (wire_of_node head (node.Func sort.Query ps rs)) (part.Method s m) (part.Method s m) [] inner bytes ih u refl refl h
  part_from n p inner bytes ih t u h = absurd t
