-- The outermost part of a Motoko value is read exactly.
use Rattle.std.proofs.Common.{◌≡◌, ℕ, suc, ◌+◌, ◌^◌, ◌≤◌, ◌<◌, Bool, true, false, cond, List, [], ◌∷◌, ◌++◌, length, Ok, inl, inr, refl, sym, ap, ◌∙◌, subst, arith, pos, negsuc}
use Rattle.std.specs.Prelude.{nat_lt, ◌&&◌}
use Rattle.std.proofs.lemmas.Bool.{lt-ltb, le-ltb, ltb-true, ltb-false}
use Rattle.std.proofs.lemmas.Int.{ints}
use Rattle.std.proofs.lemmas.List.{length-map}
use Rattle.mo_num.specs.declared.kind.Kind.{Kind}
use Rattle.mo_num.specs.declared.kind.Kind.TheVariants as kind
use Rattle.mo_num.specs.Kinds.{InRange}
use Rattle.mo_types.specs.Sub.{Each}
use Rattle.mo_types.specs.declared.datum.Datum.{Datum}
use Rattle.mo_types.specs.declared.datum.Datum.TheVariants as part
use Rattle.mo_types.specs.declared.node.Node.{Node}
use Rattle.mo_types.specs.declared.node.Node.TheVariants as node
use Rattle.mo_types.specs.declared.node.Field.{Field}
use Rattle.mo_types.specs.declared.node.Sort.TheVariants as sort
use Rattle.mo_types.specs.declared.node.TypeId.{TypeId}
use Rattle.mo_types.specs.declared.wire.Plain.TheVariants as plain
use Rattle.mo_types.specs.declared.wire.Ref.{Ref}
use Rattle.mo_types.specs.declared.wire.Ref.TheVariants.{Of, Just}
use Rattle.mo_types.specs.Graph.{Slot, head_at}
use Rattle.mo_types.specs.Heads.{is_char, is_blob, is_any}
use Rattle.mo_types.specs.Label.{label_id}
use Rattle.mo_types.specs.Wire.{numbered, entry_of, tag_of, plain_number, wire, wire_of_node}
use Rattle.mo_types.specs.Values.{by_label, insert_field, IsScalar, IsPartOf}
use Rattle.mo_types.specs.Spelling.{padded, IsString, IsWirePart, IsPlainPart}
use Rattle.candid_header.specs.declared.fault.Fault.TheVariants.{BadValue}
use Rattle.candid_header.specs.Reading.{Reading, string_at}
use Rattle.exact_reading.specs.Reading.{kept}
use Rattle.exact_reading.proofs.Exact.{Exact, not_ok, made_sound, made_complete, kept_exact, renamed}
use Rattle.candid_header.proofs.Exact.{okay}
use Rattle.candid_header.proofs.Lists.{string_exact}
use Rattle.candid_forms.specs.Forms.{IsSpelledBy, IsPartAt}
use Rattle.candid_read.specs.Parts.{is_scalar, char_at, are_bytes, blob_at, unit_at, low_at, node_part, ref_part}
use Rattle.candid_read.proofs.Amounts.{Sound, empty_front}
use Rattle.candid_read.proofs.Low.{IsLow, low_exact}

-- ---- characters

scalar_is : (c : ℕ) → is_scalar c ≡ true → IsScalar c
scalar_is c e = by (nat_lt c 55296) refl
  where
    above : (t : Bool) → nat_lt c 57344 ≡ t → cond t false (nat_lt c 1114112) ≡ true → (57344 ≤ c) × (c < 1114112)
    above true f g = cc
    above false f g = (ltb-false c 57344 f, ltb-true c 1114112 g)

    by : (t : Bool) → nat_lt c 55296 ≡ t → IsScalar c
    by true f = inl (ltb-true c 55296 f)
    by false f = inr (above (nat_lt c 57344) refl (sym (ap (λ t. cond t true (cond (nat_lt c 57344) false (nat_lt c 1114112))) f) ∙ e))

is_scalar_of : (c : ℕ) → IsScalar c → is_scalar c ≡ true
is_scalar_of c (inl lt) = ap (λ t. cond t true (cond (nat_lt c 57344) false (nat_lt c 1114112))) (lt-ltb c 55296 lt)
is_scalar_of c (inr h) =
    ap (λ t. cond t true (cond (nat_lt c 57344) false (nat_lt c 1114112))) (le-ltb c 55296 (omega (arith, h.0)))
    ∙ ap (λ t. cond t false (nat_lt c 1114112)) (le-ltb c 57344 h.0)
    ∙ lt-ltb c 1114112 h.1

abbrev IsChar : ℕ → List ℕ → Type 0
IsChar c bytes = IsScalar c × IsLow 4 c bytes

scalar_exact : Exact IsChar (kept BadValue is_scalar (low_at 4))
scalar_exact = kept_exact (IsLow 4) IsChar BadValue is_scalar (low_at 4) (low_exact 4) (λ c front h t. (scalar_is c t, h)) (λ c front h. (h.1, is_scalar_of c h.0))

-- ---- Blobs

both_true : (a b : Bool) → (a && b) ≡ true → (a ≡ true) × (b ≡ true)
both_true true true e = (refl, refl)
both_true true false e = cc
both_true false b e = cc

true_both : (a b : Bool) → a ≡ true → b ≡ true → (a && b) ≡ true
true_both true b e f = f
true_both false b e f = cc

each_byte : (bytes : List ℕ) → are_bytes bytes ≡ true → Each (λ c. c < 256) bytes
each_byte [] h = tt
each_byte (b ∷ bs) h = let t = both_true (nat_lt b 256) (are_bytes bs) h in (ltb-true b 256 t.0, each_byte bs t.1)

byte_each : (bytes : List ℕ) → Each (λ c. c < 256) bytes → are_bytes bytes ≡ true
byte_each [] h = refl
byte_each (b ∷ bs) h = true_both (nat_lt b 256) (are_bytes bs) (lt-ltb b 256 h.0) (byte_each bs h.1)

abbrev IsBlob : List ℕ → List ℕ → Type 0
IsBlob blob bytes = Each (λ c. c < 256) blob × IsString padded blob bytes

bytes_exact : Exact IsBlob (kept BadValue are_bytes (string_at BadValue))
bytes_exact = kept_exact (IsString padded) IsBlob BadValue are_bytes (string_at BadValue) (string_exact BadValue) (λ x front h t. (each_byte x t, h)) (λ x front h. (h.1, byte_each x h.0))

-- ---- what the Candid bytes of a part say of it

number_part : (A : Type 0) (k : Kind) (p : Datum) (bytes : List ℕ) → IsPlainPart padded (plain_number k) p bytes → IsPartOf {A = A} (node.Number k) p
number_part A kind.Nat (part.Number (pos n)) bytes h = (omega (arith, ints, h.0), omega (arith, ints, h.0))
number_part A kind.Nat (part.Number (negsuc n)) bytes h = absurd h
number_part A kind.Nat p bytes h = absurd h
number_part A kind.Int (part.Number z) bytes h = h.0
number_part A kind.Int p bytes h = absurd h
number_part A kind.Nat8 (part.Number z) bytes h = h.0
number_part A kind.Nat8 p bytes h = absurd h
number_part A kind.Nat16 (part.Number z) bytes h = h.0
number_part A kind.Nat16 p bytes h = absurd h
number_part A kind.Nat32 (part.Number z) bytes h = h.0
number_part A kind.Nat32 p bytes h = absurd h
number_part A kind.Nat64 (part.Number z) bytes h = h.0
number_part A kind.Nat64 p bytes h = absurd h
number_part A kind.Int8 (part.Number z) bytes h = h.0
number_part A kind.Int8 p bytes h = absurd h
number_part A kind.Int16 (part.Number z) bytes h = h.0
number_part A kind.Int16 p bytes h = absurd h
number_part A kind.Int32 (part.Number z) bytes h = h.0
number_part A kind.Int32 p bytes h = absurd h
number_part A kind.Int64 (part.Number z) bytes h = h.0
number_part A kind.Int64 p bytes h = absurd h

length_numbered : {A : Type 0} (n : ℕ) (ts : List A) → length (numbered n ts) ≡ length ts
length_numbered n [] = refl
length_numbered n (t ∷ ts) = ap suc (length_numbered (n + 1) ts)

length_insert : {A : Type 0} (f : Field A) (fs : List (Field A)) → length (insert_field f fs) ≡ suc (length fs)
length_insert f [] = refl
length_insert f (g ∷ gs) = by (nat_lt (label_id f.label) (label_id g.label)) (length_insert f gs)
  where
    by : (t : Bool) → length (insert_field f gs) ≡ suc (length gs) → length (cond t (f ∷ g ∷ gs) (g ∷ insert_field f gs)) ≡ suc (suc (length gs))
    by true e = refl
    by false e = ap suc e

length_sorted : {A : Type 0} (fs : List (Field A)) → length (by_label fs) ≡ length fs
length_sorted [] = refl
length_sorted (f ∷ fs) = length_insert f (by_label fs) ∙ ap suc (length_sorted fs)

module _ {A : Type 0} (Allowed : ℕ → Ref A → Type 0) (head : A → Node A) where
  abbrev Wired : Node A → Datum → List ℕ → Type 0
  Wired n p bytes = IsWirePart padded Allowed (wire_of_node head n) p bytes

  abbrev Formed : Node A → Datum → List ℕ → Type 0
  Formed n p bytes = IsPartOf n p × IsSpelledBy padded Allowed head n p bytes

  -- Motoko's and Candid's values of the type do not differ in their outermost parts
  abbrev Agrees : Node A → Type 0
  Agrees n = (is_char n ≡ false) × (is_blob n ≡ false) × (is_any n ≡ false)

  has_part : (n : Node A) (p : Datum) (bytes : List ℕ) → Agrees n → Wired n p bytes → Formed n p bytes
  has_part (node.Number k) p bytes g h = (number_part A k p bytes h, h)
  has_part node.Bool (part.Flag b) bytes g h = (tt, h)
  has_part node.Bool p bytes g h = absurd h
  has_part node.Text (part.Text t) bytes g h = (h.0, h)
  has_part node.Text p bytes g h = absurd h
  has_part node.Principal (part.Principal q) bytes g h = (h.0, h)
  has_part node.Principal p bytes g h = absurd h
  has_part node.Null part.Null bytes g h = (tt, h)
  has_part node.Null p bytes g h = absurd h
  has_part (node.Opt a) part.Null bytes g h = (tt, h)
  has_part (node.Opt a) part.Present bytes g h = (tt, h)
  has_part (node.Opt a) p bytes g h = absurd h
  has_part (node.Array a) (part.Many n) bytes g h = (tt, h)
  has_part (node.Array a) p bytes g h = absurd h
  has_part (node.Tuple ts) (part.Record n) bytes g h = (h.0 ∙ length_numbered 0 ts, h)
  has_part (node.Tuple ts) p bytes g h = absurd h
  has_part (node.Object fs) (part.Record n) bytes g h = (h.0 ∙ length-map (by_label fs) entry_of ∙ length_sorted fs, h)
  has_part (node.Object fs) p bytes g h = absurd h
  has_part (node.Actor fs) (part.Actor q) bytes g h = (h.0, h)
  has_part (node.Actor fs) p bytes g h = absurd h
  has_part (node.Variant fs) (part.Tag i) bytes g h = (subst (λ (k : ℕ). i < k) (length-map (by_label fs) (tag_of head) ∙ length_sorted fs) h.0, h)
  has_part (node.Variant fs) p bytes g h = absurd h
  has_part (node.Func sort.Local ps rs) p bytes g h = absurd h
  has_part (node.Func sort.Shared ps rs) (part.Method q name) bytes g h = (((λ e. cc), h.1.second.first.0, h.0), h)
  has_part (node.Func sort.Shared ps rs) p bytes g h = absurd h
  has_part (node.Func sort.Query ps rs) (part.Method q name) bytes g h = (((λ e. cc), h.1.second.first.0, h.0), h)
  has_part (node.Func sort.Query ps rs) p bytes g h = absurd h
  has_part node.Char p bytes g h = let e = g.0 in cc
  has_part node.Blob p bytes g h = let e = g.1 in cc
  has_part node.Any p bytes g h = let e = g.2 in cc
  has_part n p bytes g h = absurd h

  wired_of : (n : Node A) (p : Datum) (bytes : List ℕ) → Agrees n → Formed n p bytes → Wired n p bytes
  wired_of node.Char p bytes a h = let e = a.0 in cc
  wired_of node.Blob p bytes a h = let e = a.1 in cc
  wired_of node.Any p bytes a h = let e = a.2 in cc
  wired_of n p bytes a h = h.1

  agree : (n : Node A) (other : Reading Datum) → Agrees n → Exact (Wired n) other → Exact (Formed n) other
  agree n other a e = renamed (Wired n) (Formed n) other (λ p bytes h. has_part n p bytes a h) (λ p bytes h. wired_of n p bytes a h) e

  to_range : (c : ℕ) → c < 256 ^ 4 → InRange kind.Nat32 (pos c)
  to_range c lt = (omega (arith, ints, lt), omega (arith, ints, lt))

  char_sound : Sound (Formed node.Char) char_at
  unfolding char_at
  char_sound bytes r e = made_sound IsChar (Formed node.Char) (λ c. part.Char c) (kept BadValue is_scalar (low_at 4)) scalar_exact (λ c front h. (h.0, (to_range c h.1.0, h.1.1))) bytes r e

  char_complete : (p : Datum) (front rest : List ℕ) → Formed node.Char p front → char_at (front ++ rest) ≡ Ok (p, rest)
  unfolding char_at
  char_complete (part.Char c) front rest h = made_complete IsChar (λ c. part.Char c) (kept BadValue is_scalar (low_at 4)) scalar_exact c front rest (h.0, (omega (arith, ints, h.1.0.1), h.1.1))
  char_complete p front rest h = absurd h.0

  blob_sound : Sound (Formed node.Blob) blob_at
  unfolding blob_at
  blob_sound bytes r e = made_sound IsBlob (Formed node.Blob) (λ b. part.Blob b) (kept BadValue are_bytes (string_at BadValue)) bytes_exact (λ b front h. (tt, h)) bytes r e

  blob_complete : (p : Datum) (front rest : List ℕ) → Formed node.Blob p front → blob_at (front ++ rest) ≡ Ok (p, rest)
  unfolding blob_at
  blob_complete (part.Blob b) front rest h = made_complete IsBlob (λ b. part.Blob b) (kept BadValue are_bytes (string_at BadValue)) bytes_exact b front rest h.1
  blob_complete p front rest h = absurd h.0

  any_complete : (p : Datum) (front rest : List ℕ) → Formed node.Any p front → unit_at (front ++ rest) ≡ Ok (p, rest)
  any_complete (part.Record n) front rest h = ap (λ l. okay (part.Record 0, l ++ rest)) h.1 ∙ ap (λ k. okay (part.Record k, rest)) (sym h.0)
  any_complete p front rest h = absurd h.0

  node_exact : (n : Node A) (other : Reading Datum) → Exact (Wired n) other → Exact (Formed n) (node_part n other)
  node_exact node.Char other e = record { sound = char_sound; complete = char_complete }
  node_exact node.Blob other e = record { sound = blob_sound; complete = blob_complete }
  node_exact node.Any other e = record { sound = λ bytes r e. empty_front (Formed node.Any) (part.Record 0) (refl, refl) bytes r e; complete = any_complete }
  node_exact n other e = agree n other (refl, refl, refl) e

module _ (slots : List Slot) (Allowed : ℕ → Ref TypeId → Type 0) where
  abbrev At : Ref TypeId → Datum → List ℕ → Type 0
  At r p bytes = IsPartAt padded Allowed (head_at slots) r p bytes

  unit_complete : (p : Datum) (front rest : List ℕ) → At (Just plain.Null) p front → unit_at (front ++ rest) ≡ Ok (p, rest)
  unit_complete p front rest h = ap (λ l. okay (part.Record 0, l ++ rest)) h.1 ∙ ap (λ d. okay (d, rest)) (sym h.0)

  pub ref_exact : (r : Ref TypeId) (other : Reading Datum) → Exact (IsWirePart padded Allowed (wire (head_at slots) r)) other → Exact (At r) (ref_part slots r other)
  ref_exact (Of t) other e = node_exact Allowed (head_at slots) (head_at slots t) other e
  ref_exact (Just plain.Null) other e = record { sound = λ bytes r e. empty_front (At (Just plain.Null)) (part.Record 0) (refl, refl) bytes r e; complete = unit_complete }
  ref_exact (Just q) other e = record { sound = λ bytes r e. absurd (not_ok e); complete = λ p front rest h. absurd h }
