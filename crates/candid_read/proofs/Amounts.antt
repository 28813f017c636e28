-- Numbers of values are read exactly.
use Rattle.std.proofs.Common.{◌≡◌, ℕ, ◌+◌, ◌-◌, ◌*◌, ◌^◌, ◌≤◌, ◌<◌, Bool, true, false, cond, List, [], ◌++◌, Ok, refl, sym, ap, ◌∙◌, subst, arith, ℤ, pos, negsuc, ◌-ℤ◌}
use Rattle.std.specs.Prelude.{nat_lt, if◌then◌else◌}
use Rattle.std.proofs.lemmas.Bool.{lt-ltb, le-ltb, ltb-true, ltb-false}
use Rattle.std.proofs.lemmas.Int.{ints}
use Rattle.mo_num.specs.declared.kind.Kind.{Kind}
use Rattle.mo_num.specs.declared.kind.Kind.TheVariants as kind
use Rattle.mo_num.specs.Kinds.{InRange}
use Rattle.mo_types.specs.declared.datum.Datum.{Datum}
use Rattle.mo_types.specs.declared.datum.Datum.TheVariants as part
use Rattle.mo_types.specs.declared.wire.Plain.{Plain}
use Rattle.mo_types.specs.declared.wire.Plain.TheVariants as plain
use Rattle.mo_types.specs.Spelling.{padded, low_first, as_bytes, IsFixed, IsPlainPart}
use Rattle.candid_header.specs.declared.fault.Fault.TheVariants.{NumberLimit}
use Rattle.candid_header.specs.Reading.{Reading}
use Rattle.exact_reading.specs.Reading.{kept, is_between}
use Rattle.exact_reading.proofs.Exact.{Front, Exact, same_pair, made_sound, made_complete, kept_exact}
use Rattle.candid_header.proofs.Exact.{okay}
use Rattle.candid_read.specs.Parts.{natural, integer, u70_at, s70_at, nat_at, int_at, low_at, signed, unsigned_at, signed_at}
use Rattle.exact_reading.proofs.Numbers.{between_true, true_between}
use Rattle.candid_read.proofs.Digits.{IsU70, u70_exact, IsS70, s70_exact}
use Rattle.candid_read.proofs.Low.{IsLow, low_exact}

-- What a reading of parts gives, for one kind of type.
abbrev pub Sound : (Datum → List ℕ → Type 0) → Reading Datum → Type 0
Sound P p = (bytes : List ℕ) (r : Datum × List ℕ) → p bytes ≡ okay r → Front P bytes r.0 r.1

abbrev pub Plainly : Plain → Datum → List ℕ → Type 0
Plainly p d b = IsPlainPart padded p d b

-- nothing is read
pub empty_front : (P : Datum → List ℕ → Type 0) (d : Datum) → P d [] → (bytes : List ℕ) (r : Datum × List ℕ) → okay (d, bytes) ≡ okay r → Front P bytes r.0 r.1
empty_front P d h bytes r e = same_pair P bytes (d, bytes) r e (record { front = []; split = refl; spells = h })

-- ---- numbers

abbrev pub IsSmall : ℕ → List ℕ → Type 0
IsSmall n bytes = (n < 2 ^ 63) × IsU70 n bytes

abbrev small : Reading ℕ
small = kept NumberLimit (λ n. nat_lt n (2 ^ 63)) u70_at

small_exact : Exact IsSmall small
small_exact = kept_exact IsU70 IsSmall NumberLimit (λ n. nat_lt n (2 ^ 63)) u70_at u70_exact (λ n front h t. (ltb-true n (2 ^ 63) t, h)) (λ n front h. (h.1, lt-ltb n (2 ^ 63) h.0))

pub nat_sound : Sound (Plainly plain.Nat) nat_at
unfolding nat_at
nat_sound bytes r e = made_sound IsSmall (Plainly plain.Nat) natural small small_exact (λ n front h. h) bytes r e

pub nat_complete : (n : ℕ) (front rest : List ℕ) → IsSmall n front → nat_at (front ++ rest) ≡ Ok (natural n, rest)
unfolding nat_at
nat_complete n front rest h = made_complete IsSmall natural small small_exact n front rest h

abbrev pub IsMiddle : ℤ → List ℕ → Type 0
IsMiddle z bytes = InRange kind.Int z × IsS70 z bytes

abbrev middle_test : ℤ → Bool
middle_test = is_between (negsuc (2 ^ 63 - 1)) (pos (2 ^ 63 - 1))

abbrev middle : Reading ℤ
middle = kept NumberLimit middle_test s70_at

in_middle : (z : ℤ) → middle_test z ≡ true → InRange kind.Int z
in_middle z t = let b = true_between (negsuc (2 ^ 63 - 1)) (pos (2 ^ 63 - 1)) z t in (omega (arith, ints, b.0), omega (arith, ints, b.1))

middle_in : (z : ℤ) → InRange kind.Int z → middle_test z ≡ true
middle_in z h = between_true (negsuc (2 ^ 63 - 1)) (pos (2 ^ 63 - 1)) z (omega (arith, ints, h.0)) (omega (arith, ints, h.1))

middle_exact : Exact IsMiddle middle
middle_exact = kept_exact IsS70 IsMiddle NumberLimit middle_test s70_at s70_exact (λ z front h t. (in_middle z t, h)) (λ z front h. (h.1, middle_in z h.0))

pub int_sound : Sound (Plainly plain.Int) int_at
unfolding int_at
int_sound bytes r e = made_sound IsMiddle (Plainly plain.Int) integer middle middle_exact (λ z front h. h) bytes r e

pub int_complete : (z : ℤ) (front rest : List ℕ) → IsMiddle z front → int_at (front ++ rest) ≡ Ok (integer z, rest)
unfolding int_at
int_complete z front rest h = made_complete IsMiddle integer middle middle_exact z front rest h

-- numbers of a fixed width
module _ (k : Kind) (w : ℕ) (Q : Datum → List ℕ → Type 0) (same : (z : ℤ) (b : List ℕ) → IsFixed padded k w z b → Q (part.Number z) b) where
  pub unsigned_sound : ((n : ℕ) → n < 256 ^ w → InRange k (pos n)) → Sound Q (unsigned_at w)
  unfolding unsigned_at
  unsigned_sound into bytes r e = made_sound (IsLow w) Q natural (low_at w) (low_exact w) (λ n front h. same (pos n) front (into n h.0, h.1)) bytes r e

  pub signed_sound : ((n : ℕ) → n < 256 ^ w → InRange k (signed (8 * w) n) × (as_bytes w (signed (8 * w) n) ≡ low_first w n)) → Sound Q (signed_at w)
  unfolding signed_at
  signed_sound into bytes r e =
      made_sound (IsLow w) Q (λ n. part.Number (signed (8 * w) n)) (low_at w) (low_exact w) (λ n front h. let i = into n h.0 in same (signed (8 * w) n) front (i.0, h.1 ∙ sym i.1)) bytes r e

module _ (k : Kind) (w : ℕ) where
  pub unsigned_complete : ((n : ℕ) → InRange k (pos n) → n < 256 ^ w) → ((m : ℕ) → InRange k (negsuc m) → ⊥) → (z : ℤ) (front rest : List ℕ) → IsFixed padded k w z front → unsigned_at w (front ++ rest) ≡ Ok (part.Number z, rest)
  unfolding unsigned_at
  unsigned_complete out none (pos n) front rest h = made_complete (IsLow w) natural (low_at w) (low_exact w) n front rest (out n h.0, h.1)
  unsigned_complete out none (negsuc m) front rest h = absurd (none m h.0)

  pub signed_complete : ((z : ℤ) → InRange k z → (n : ℕ) × (n < 256 ^ w) × (as_bytes w z ≡ low_first w n) × (signed (8 * w) n ≡ z)) → (z : ℤ) (front rest : List ℕ) → IsFixed padded k w z front → signed_at w (front ++ rest) ≡ Ok (part.Number z, rest)
  unfolding signed_at
  signed_complete out z front rest h =
      let o = out z h.0 in
      made_complete (IsLow w) (λ n. part.Number (signed (8 * w) n)) (low_at w) (low_exact w) o.0 front rest (o.1, h.1 ∙ o.2) ∙ ap (λ z. okay (part.Number z, rest)) o.3

-- a number, by whether its sign is set
split_sign : (half whole n : ℕ) (C : Type 0) → (n < half → (if nat_lt n half then pos n else pos n -ℤ pos whole) ≡ pos n → C) → (half ≤ n → (if nat_lt n half then pos n else pos n -ℤ pos whole) ≡ pos n -ℤ pos whole → C) → C
split_sign half whole n C plus minus = by (nat_lt n half) refl
  where
    by : (t : Bool) → nat_lt n half ≡ t → C
    by true e = plus (ltb-true n half e) (ap (λ t. cond t (pos n) (pos n -ℤ pos whole)) e)
    by false e = minus (ltb-false n half e) (ap (λ t. cond t (pos n) (pos n -ℤ pos whole)) e)

module _ (k : Kind) (w half whole : ℕ) (as256 : 256 ^ w ≡ whole) (as2 : 2 ^ (8 * w) ≡ whole) (half2 : 2 ^ (8 * w - 1) ≡ half) (two : whole ≡ half + half)
    (low_in : (n : ℕ) → n < half → InRange k (pos n)) (neg_in : (m : ℕ) → m < half → InRange k (negsuc m)) (in_low : (n : ℕ) → InRange k (pos n) → n < half) (in_neg : (m : ℕ) → InRange k (negsuc m) → m < half) where
  signed_into : (n : ℕ) → n < 256 ^ w → InRange k (signed (8 * w) n) × (as_bytes w (signed (8 * w) n) ≡ low_first w n)
  signed_into n lt =
      split_sign (2 ^ (8 * w - 1)) (2 ^ (8 * w)) n (InRange k (signed (8 * w) n) × (as_bytes w (signed (8 * w) n) ≡ low_first w n))
      (λ h e. (subst (InRange k) (sym e) (low_in n (omega (arith, h, half2))), ap (as_bytes w) e))
      (λ h e.
      let f : signed (8 * w) n ≡ negsuc (whole - n - 1) = e ∙ neg n (omega (arith, lt, as256)) in
      let back : 2 ^ (8 * w) - ((whole - n - 1) + 1) ≡ n = omega (arith, lt, as256, as2) in
      (subst (InRange k) (sym f) (neg_in (whole - n - 1) (omega (arith, h, half2, two))), ap (as_bytes w) f ∙ ap (low_first w) back))
    where
      neg : (n : ℕ) → n < whole → pos n -ℤ pos (2 ^ (8 * w)) ≡ negsuc (whole - n - 1)
      neg n lt = omega (arith, ints, lt, as2)

  signed_out : (z : ℤ) → InRange k z → (n : ℕ) × (n < 256 ^ w) × (as_bytes w z ≡ low_first w n) × (signed (8 * w) n ≡ z)
  signed_out (pos n) h =
      let lt = in_low n h in
      (n, omega (arith, lt, as256, two), refl, ap (λ t. cond t (pos n) (pos n -ℤ pos (2 ^ (8 * w)))) (lt-ltb n (2 ^ (8 * w - 1)) (omega (arith, lt, half2))))
  signed_out (negsuc m) h =
      let lt = in_neg m h in
      let n : ℕ = 2 ^ (8 * w) - (m + 1) in
      let le : 2 ^ (8 * w - 1) ≤ n = omega (arith, lt, half2, as2, two) in
      (n, omega (arith, lt, as2, as256, two), refl, ap (λ t. cond t (pos n) (pos n -ℤ pos (2 ^ (8 * w)))) (le-ltb n (2 ^ (8 * w - 1)) le) ∙ back m lt)
    where
      back : (m : ℕ) → m < half → pos (2 ^ (8 * w) - (m + 1)) -ℤ pos (2 ^ (8 * w)) ≡ negsuc m
      back m lt = omega (arith, ints, lt, as2, two)

abbrev pub Into : Kind → ℕ → Type 0
Into k w = (n : ℕ) → n < 256 ^ w → InRange k (signed (8 * w) n) × (as_bytes w (signed (8 * w) n) ≡ low_first w n)

abbrev pub Out : Kind → ℕ → Type 0
Out k w = (z : ℤ) → InRange k z → (n : ℕ) × (n < 256 ^ w) × (as_bytes w z ≡ low_first w n) × (signed (8 * w) n ≡ z)

pub into8 : Into kind.Int8 1
into8 = signed_into kind.Int8 1 128 256 refl refl refl refl (λ n h. (omega (arith, ints, h), omega (arith, ints, h))) (λ m h. (omega (arith, ints, h), omega (arith, ints, h))) (λ n h. omega (arith, ints, h.1)) (λ m h. omega (arith, ints, h.0))

pub into16 : Into kind.Int16 2
into16 = signed_into kind.Int16 2 32768 65536 refl refl refl refl (λ n h. (omega (arith, ints, h), omega (arith, ints, h))) (λ m h. (omega (arith, ints, h), omega (arith, ints, h))) (λ n h. omega (arith, ints, h.1)) (λ m h. omega (arith, ints, h.0))

pub into32 : Into kind.Int32 4
into32 = signed_into kind.Int32 4 2147483648 4294967296 refl refl refl refl (λ n h. (omega (arith, ints, h), omega (arith, ints, h))) (λ m h. (omega (arith, ints, h), omega (arith, ints, h))) (λ n h. omega (arith, ints, h.1)) (λ m h. omega (arith, ints, h.0))

pub into64 : Into kind.Int64 8
into64 = signed_into kind.Int64 8 9223372036854775808 18446744073709551616 refl refl refl refl (λ n h. (omega (arith, ints, h), omega (arith, ints, h))) (λ m h. (omega (arith, ints, h), omega (arith, ints, h))) (λ n h. omega (arith, ints, h.1)) (λ m h. omega (arith, ints, h.0))

pub out8 : Out kind.Int8 1
out8 = signed_out kind.Int8 1 128 256 refl refl refl refl (λ n h. (omega (arith, ints, h), omega (arith, ints, h))) (λ m h. (omega (arith, ints, h), omega (arith, ints, h))) (λ n h. omega (arith, ints, h.1)) (λ m h. omega (arith, ints, h.0))

pub out16 : Out kind.Int16 2
out16 = signed_out kind.Int16 2 32768 65536 refl refl refl refl (λ n h. (omega (arith, ints, h), omega (arith, ints, h))) (λ m h. (omega (arith, ints, h), omega (arith, ints, h))) (λ n h. omega (arith, ints, h.1)) (λ m h. omega (arith, ints, h.0))

pub out32 : Out kind.Int32 4
out32 = signed_out kind.Int32 4 2147483648 4294967296 refl refl refl refl (λ n h. (omega (arith, ints, h), omega (arith, ints, h))) (λ m h. (omega (arith, ints, h), omega (arith, ints, h))) (λ n h. omega (arith, ints, h.1)) (λ m h. omega (arith, ints, h.0))

pub out64 : Out kind.Int64 8
out64 = signed_out kind.Int64 8 9223372036854775808 18446744073709551616 refl refl refl refl (λ n h. (omega (arith, ints, h), omega (arith, ints, h))) (λ m h. (omega (arith, ints, h), omega (arith, ints, h))) (λ n h. omega (arith, ints, h.1)) (λ m h. omega (arith, ints, h.0))
