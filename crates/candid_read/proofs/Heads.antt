-- The outermost part of a Candid value is read exactly, whatever its type.
use Rattle.std.proofs.Common.{◌≡◌, ℕ, zero, suc, ◌≤◌, ◌<◌, Bool, true, false, List, [], ◌∷◌, ◌++◌, length, Ok, refl, sym, ap, ◌∙◌, arith, pos, negsuc}
use Rattle.std.specs.Prelude.{nat_lt}
use Rattle.std.proofs.lemmas.Bool.{lt-ltb, ltb-true}
use Rattle.std.proofs.lemmas.Int.{ints}
use Rattle.mo_num.specs.declared.kind.Kind.TheVariants as kind
use Rattle.mo_types.specs.declared.datum.Datum.{Datum}
use Rattle.mo_types.specs.declared.datum.Datum.TheVariants as part
use Rattle.mo_types.specs.declared.wire.Plain.{Plain}
use Rattle.mo_types.specs.declared.wire.Plain.TheVariants as plain
use Rattle.mo_types.specs.declared.wire.Wire.{Wire}
use Rattle.mo_types.specs.declared.wire.Wire.TheVariants.{Simple, Opt, Vec, Record, Variant, Func, Service}
use Rattle.mo_types.specs.Spelling.{padded, IsPrincipal, IsWirePart}
use Rattle.candid_header.specs.declared.fault.Fault.TheVariants.{BadValue, TooManyEmpty}
use Rattle.candid_header.specs.Reading.{Reading, first, u32_at}
use Rattle.exact_reading.specs.Reading.{kept}
use Rattle.exact_reading.proofs.Exact.{Front, Exact, not_ok, same_pair, made_sound, made_complete, kept_exact}
use Rattle.candid_header.proofs.Exact.{okay}
use Rattle.candid_header.proofs.Numbers.{IsU32, u32_exact}
use Rattle.candid_read.specs.Parts.{flag_by, option_by, principal_at, plain_at, is_marked, is_allowed, vector_at, tag_at, part_by}
use Rattle.candid_read.specs.Whole.{IsAllowed}
use Rattle.candid_read.proofs.Amounts.{Sound, Plainly, empty_front, nat_sound, nat_complete, int_sound, int_complete, unsigned_sound, unsigned_complete, signed_sound, signed_complete, into8, into16, into32, into64, out8, out16, out32, out64}
use Rattle.candid_read.proofs.Shown.{flag_sound, text_sound, text_complete, principal_exact, IsMethod, method_sound, method_complete}

plain_sound : (p : Plain) → Sound (Plainly p) (plain_at p)
plain_sound plain.Null bytes r e = empty_front (Plainly plain.Null) part.Null refl bytes r e
plain_sound plain.Bool bytes r e = flag_sound bytes r e
plain_sound plain.Nat bytes r e = nat_sound bytes r e
plain_sound plain.Int bytes r e = int_sound bytes r e
plain_sound plain.Nat8 bytes r e = unsigned_sound kind.Nat8 1 (Plainly plain.Nat8) (λ z b h. h) (λ n h. (omega (arith, ints, h), omega (arith, ints, h))) bytes r e
plain_sound plain.Nat16 bytes r e = unsigned_sound kind.Nat16 2 (Plainly plain.Nat16) (λ z b h. h) (λ n h. (omega (arith, ints, h), omega (arith, ints, h))) bytes r e
plain_sound plain.Nat32 bytes r e = unsigned_sound kind.Nat32 4 (Plainly plain.Nat32) (λ z b h. h) (λ n h. (omega (arith, ints, h), omega (arith, ints, h))) bytes r e
plain_sound plain.Nat64 bytes r e = unsigned_sound kind.Nat64 8 (Plainly plain.Nat64) (λ z b h. h) (λ n h. (omega (arith, ints, h), omega (arith, ints, h))) bytes r e
plain_sound plain.Int8 bytes r e = signed_sound kind.Int8 1 (Plainly plain.Int8) (λ z b h. h) into8 bytes r e
plain_sound plain.Int16 bytes r e = signed_sound kind.Int16 2 (Plainly plain.Int16) (λ z b h. h) into16 bytes r e
plain_sound plain.Int32 bytes r e = signed_sound kind.Int32 4 (Plainly plain.Int32) (λ z b h. h) into32 bytes r e
plain_sound plain.Int64 bytes r e = signed_sound kind.Int64 8 (Plainly plain.Int64) (λ z b h. h) into64 bytes r e
plain_sound plain.Float32 bytes r e = absurd (not_ok e)
plain_sound plain.Float64 bytes r e = absurd (not_ok e)
plain_sound plain.Text bytes r e = text_sound bytes r e
plain_sound plain.Reserved bytes r e = empty_front (Plainly plain.Reserved) part.Null refl bytes r e
plain_sound plain.Empty bytes r e = absurd (not_ok e)
plain_sound plain.Principal bytes r e = made_sound (IsPrincipal padded) (Plainly plain.Principal) (λ p. part.Principal p) principal_at principal_exact (λ p front h. h) bytes r e

plain_complete : (p : Plain) (d : Datum) (front rest : List ℕ) → Plainly p d front → plain_at p (front ++ rest) ≡ Ok (d, rest)
plain_complete plain.Null part.Null front rest h = ap (λ l. okay (part.Null, l ++ rest)) h
plain_complete plain.Null d front rest h = absurd h
plain_complete plain.Reserved part.Null front rest h = ap (λ l. okay (part.Null, l ++ rest)) h
plain_complete plain.Reserved d front rest h = absurd h
plain_complete plain.Bool (part.Flag true) front rest h = ap (λ l. first flag_by (l ++ rest)) h
plain_complete plain.Bool (part.Flag false) front rest h = ap (λ l. first flag_by (l ++ rest)) h
plain_complete plain.Bool d front rest h = absurd h
plain_complete plain.Nat (part.Number (pos n)) front rest h = nat_complete n front rest h
plain_complete plain.Nat (part.Number (negsuc n)) front rest h = absurd h
plain_complete plain.Nat d front rest h = absurd h
plain_complete plain.Int (part.Number z) front rest h = int_complete z front rest h
plain_complete plain.Int d front rest h = absurd h
plain_complete plain.Nat8 (part.Number z) front rest h = unsigned_complete kind.Nat8 1 (λ n h. omega (arith, ints, h.1)) (λ m h. omega (arith, ints, h.0)) z front rest h
plain_complete plain.Nat8 d front rest h = absurd h
plain_complete plain.Nat16 (part.Number z) front rest h = unsigned_complete kind.Nat16 2 (λ n h. omega (arith, ints, h.1)) (λ m h. omega (arith, ints, h.0)) z front rest h
plain_complete plain.Nat16 d front rest h = absurd h
plain_complete plain.Nat32 (part.Number z) front rest h = unsigned_complete kind.Nat32 4 (λ n h. omega (arith, ints, h.1)) (λ m h. omega (arith, ints, h.0)) z front rest h
plain_complete plain.Nat32 d front rest h = absurd h
plain_complete plain.Nat64 (part.Number z) front rest h = unsigned_complete kind.Nat64 8 (λ n h. omega (arith, ints, h.1)) (λ m h. omega (arith, ints, h.0)) z front rest h
plain_complete plain.Nat64 d front rest h = absurd h
plain_complete plain.Int8 (part.Number z) front rest h = signed_complete kind.Int8 1 out8 z front rest h
plain_complete plain.Int8 d front rest h = absurd h
plain_complete plain.Int16 (part.Number z) front rest h = signed_complete kind.Int16 2 out16 z front rest h
plain_complete plain.Int16 d front rest h = absurd h
plain_complete plain.Int32 (part.Number z) front rest h = signed_complete kind.Int32 4 out32 z front rest h
plain_complete plain.Int32 d front rest h = absurd h
plain_complete plain.Int64 (part.Number z) front rest h = signed_complete kind.Int64 8 out64 z front rest h
plain_complete plain.Int64 d front rest h = absurd h
plain_complete plain.Float32 d front rest h = absurd h
plain_complete plain.Float64 d front rest h = absurd h
plain_complete plain.Text (part.Text t) front rest h = text_complete t front rest h
plain_complete plain.Text d front rest h = absurd h
plain_complete plain.Empty d front rest h = absurd h
plain_complete plain.Principal (part.Principal p) front rest h = made_complete (IsPrincipal padded) (λ p. part.Principal p) principal_at principal_exact p front rest h
plain_complete plain.Principal d front rest h = absurd h

-- ---- types with parts

module _ (marks : List Bool) where
  abbrev pub Part : Wire ℕ → Datum → List ℕ → Type 0
  Part w d b = IsWirePart padded (IsAllowed marks) w d b

  option_sound : (t : ℕ) → Sound (Part (Opt t)) (first option_by)
  option_sound t [] r e = absurd (not_ok e)
  option_sound t (zero ∷ bs) r e = same_pair (Part (Opt t)) (0 ∷ bs) (part.Null, bs) r e (record { front = 0 ∷ []; split = refl; spells = refl })
  option_sound t (suc zero ∷ bs) r e = same_pair (Part (Opt t)) (1 ∷ bs) (part.Present, bs) r e (record { front = 1 ∷ []; split = refl; spells = refl })
  option_sound t (suc (suc b) ∷ bs) r e = absurd (not_ok e)

  abbrev IsMany : Bool → ℕ → List ℕ → Type 0
  IsMany m n bytes = (m ≡ true → n ≤ 10000) × IsU32 n bytes

  few_of : (m : Bool) (n : ℕ) → is_allowed m n ≡ true → m ≡ true → n ≤ 10000
  few_of true n t e = let lt : n < 10001 = ltb-true n 10001 t in omega (arith, lt)
  few_of false n t e = cc

  of_few : (m : Bool) (n : ℕ) → (m ≡ true → n ≤ 10000) → is_allowed m n ≡ true
  of_few true n f = lt-ltb n 10001 (omega (arith, f refl))
  of_few false n f = refl

  abbrev many_at : Bool → Reading ℕ
  many_at m = kept TooManyEmpty (is_allowed m) (u32_at BadValue)

  many_exact : (m : Bool) → Exact (IsMany m) (many_at m)
  many_exact m = kept_exact IsU32 (IsMany m) TooManyEmpty (is_allowed m) (u32_at BadValue) (u32_exact BadValue) (λ n front h t. (few_of m n t, h)) (λ n front h. (h.1, of_few m n h.0))

  vector_sound : (t : ℕ) → Sound (Part (Vec t)) (vector_at (is_marked marks t))
  unfolding vector_at
  vector_sound t bytes r e = made_sound (IsMany (is_marked marks t)) (Part (Vec t)) (λ n. part.Many n) (many_at (is_marked marks t)) (many_exact (is_marked marks t)) (λ n front h. h) bytes r e

  vector_complete : (t n : ℕ) (front rest : List ℕ) → IsMany (is_marked marks t) n front → vector_at (is_marked marks t) (front ++ rest) ≡ Ok (part.Many n, rest)
  unfolding vector_at
  vector_complete t n front rest h = made_complete (IsMany (is_marked marks t)) (λ n. part.Many n) (many_at (is_marked marks t)) (many_exact (is_marked marks t)) n front rest h

  abbrev IsTag : ℕ → ℕ → List ℕ → Type 0
  IsTag k n bytes = (n < k) × IsU32 n bytes

  abbrev choice_at : ℕ → Reading ℕ
  choice_at k = kept BadValue (λ n. nat_lt n k) (u32_at BadValue)

  choice_exact : (k : ℕ) → Exact (IsTag k) (choice_at k)
  choice_exact k = kept_exact IsU32 (IsTag k) BadValue (λ n. nat_lt n k) (u32_at BadValue) (u32_exact BadValue) (λ n front h t. (ltb-true n k t, h)) (λ n front h. (h.1, lt-ltb n k h.0))

  tag_sound : (P : Datum → List ℕ → Type 0) (k : ℕ) → ((n : ℕ) (b : List ℕ) → IsTag k n b → P (part.Tag n) b) → Sound P (tag_at k)
  unfolding tag_at
  tag_sound P k same bytes r e = made_sound (IsTag k) P (λ n. part.Tag n) (choice_at k) (choice_exact k) same bytes r e

  tag_complete : (k n : ℕ) (front rest : List ℕ) → IsTag k n front → tag_at k (front ++ rest) ≡ Ok (part.Tag n, rest)
  unfolding tag_at
  tag_complete k n front rest h = made_complete (IsTag k) (λ n. part.Tag n) (choice_at k) (choice_exact k) n front rest h

  method_part : (ps rs : List ℕ) (ns : List ℕ) (bytes : List ℕ) (d : Datum) (rest : List ℕ) → Front IsMethod bytes d rest → Front (Part (Func ps rs ns)) bytes d rest
  method_part ps rs ns bytes (part.Method p name) rest f = record { front = f.front; split = f.split; spells = f.spells }
  method_part ps rs ns bytes d rest f = absurd (let h = f.spells in h)

  part_sound : (w : Wire ℕ) → Sound (Part w) (part_by marks w)
  part_sound (Simple p) bytes r e = plain_sound p bytes r e
  part_sound (Opt t) bytes r e = option_sound t bytes r e
  part_sound (Vec t) bytes r e = vector_sound t bytes r e
  part_sound (Record es) bytes r e = empty_front (Part (Record es)) (part.Record (length es)) (refl, refl) bytes r e
  part_sound (Variant es) bytes r e = tag_sound (Part (Variant es)) (length es) (λ n b h. h) bytes r e
  part_sound (Func ps rs ns) bytes r e = method_part ps rs ns bytes r.0 r.1 (method_sound bytes r e)
  part_sound (Service ms) bytes r e = made_sound (IsPrincipal padded) (Part (Service ms)) (λ p. part.Actor p) principal_at principal_exact (λ p front h. h) bytes r e

  part_complete : (w : Wire ℕ) (d : Datum) (front rest : List ℕ) → Part w d front → part_by marks w (front ++ rest) ≡ Ok (d, rest)
  part_complete (Simple p) d front rest h = plain_complete p d front rest h
  part_complete (Opt t) part.Null front rest h = ap (λ l. first option_by (l ++ rest)) h
  part_complete (Opt t) part.Present front rest h = ap (λ l. first option_by (l ++ rest)) h
  part_complete (Opt t) d front rest h = absurd h
  part_complete (Vec t) (part.Many n) front rest h = vector_complete t n front rest h
  part_complete (Vec t) d front rest h = absurd h
  part_complete (Record es) (part.Record n) front rest h = ap (λ l. okay (part.Record (length es), l ++ rest)) h.1 ∙ ap (λ k. okay (part.Record k, rest)) (sym h.0)
  part_complete (Record es) d front rest h = absurd h
  part_complete (Variant es) (part.Tag n) front rest h = tag_complete (length es) n front rest h
  part_complete (Variant es) d front rest h = absurd h
  part_complete (Func ps rs ns) (part.Method p name) front rest h = method_complete p name front rest h
  part_complete (Func ps rs ns) d front rest h = absurd h
  part_complete (Service ms) (part.Actor p) front rest h = made_complete (IsPrincipal padded) (λ p. part.Actor p) principal_at principal_exact p front rest h
  part_complete (Service ms) d front rest h = absurd h

  pub shape_exact : (w : Wire ℕ) → Exact (Part w) (part_by marks w)
  shape_exact w = record { sound = part_sound w; complete = part_complete w }
