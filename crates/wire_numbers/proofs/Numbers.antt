-- What numbers the digits at the front of bytes are read as.
use Rattle.std.proofs.Common.{◌≡◌, ℕ, zero, suc, ◌+◌, ◌-◌, ◌*◌, ◌^◌, ◌≤◌, ◌<◌, Bool, true, false, cond, List, [], ◌∷◌, length, Result, Ok, Err, refl, sym, ap, ◌∙◌, subst, arith, ℤ, pos, negsuc, neg_ℤ, ◌+ℤ◌, ◌-ℤ◌, ◌*ℤ◌, ◌≤ℤ◌}
use Rattle.std.specs.Prelude.{nat_lt, nat_eq}
use Rattle.std.proofs.lemmas.Bool.Decides.{nat_tests}
use Rattle.std.proofs.Math.Nat.{mul-add, mul_assoc, mul-suc}
use Rattle.std.proofs.lemmas.Int.{ints}
use Rattle.std.proofs.lemmas.Bool.{lt-ltb, le-ltb, ltb-true, ltb-false}
use Rattle.exact_reading.specs.Reading.{◌>>=◌, digits_at, last_digit, is_between, is_signed, unsigned_at, signed_at}
use Rattle.exact_reading.proofs.Numbers.{between_true, true_between}
use Rattle.mo_types.specs.declared.datum.Datum.{Datum}
use Rattle.candid_header.specs.declared.fault.Fault.{Fault}
use Rattle.candid_header.specs.declared.fault.Fault.TheVariants.{Short, NumberLimit}
use Rattle.candid_read.specs.Parts.{natural, integer, nat_at, int_at}
use Rattle.wire_numbers.specs.Digits.{Digits, Ended, Open, Cut, behind, digits}
use Rattle.wire_numbers.proofs.Bytes.{Stand}

-- 128 to the power of so many
abbrev pub times : ℕ → ℕ
times zero = 1
times (suc k) = 128 * times k

abbrev pub Bytes : List ℕ → Type 0
Bytes [] = Unit {0}
Bytes (b ∷ bs) = (b < 256) × Bytes bs

-- the numbers of digits are below their scale, and the bytes that follow stand behind them
abbrev pub Sized : List ℕ → ℕ → ℕ → ℕ → Digits → Type 0
Sized memory end least top (Ended n scale last rest) = (n < scale) × (scale ≤ top) × (last < 128) × (length rest < least) × Stand memory (end - length rest) rest × Bytes rest
Sized memory end least top (Open n scale rest) = (n < scale) × (scale ≡ top) × (length rest ≤ least) × Stand memory (end - length rest) rest × Bytes rest
Sized memory end least top Cut = Unit {0}

behind_sized : (memory : List ℕ) (end least top low : ℕ) (found : Digits) → low < 128 → Sized memory end least top found → Sized memory end (suc least) (128 * top) (behind low found)
behind_sized memory end least top low (Ended n scale last rest) lt h = (omega (arith, h.0, lt), omega (arith, h.1), h.2, omega (arith, h.3), h.4, h.5)
behind_sized memory end least top low (Open n scale rest) lt h = (omega (arith, h.0, lt), ap (λ k. 128 * k) h.1, omega (arith, h.2), h.3, h.4)
behind_sized memory end least top low Cut lt h = tt

pub sized : (memory : List ℕ) (end k at : ℕ) (bs : List ℕ) → at + length bs ≡ end → Stand memory at bs → Bytes bs → Sized memory end (length bs) (times k) (digits k bs)
sized memory end zero at bs long is all =
    let e : end - length bs ≡ at = omega (arith, long) in
    (omega arith, refl, omega arith, subst (λ a. Stand memory a bs) (sym e) is, all)
sized memory end (suc k) at [] long is all = tt
sized memory end (suc k) at (b ∷ bs) long is all =
    let next : suc at + length bs ≡ end = omega (arith, long) in
    by (nat_lt b 128) refl next (sized memory end k (suc at) bs next is.1 all.1)
  where
    one : (k : ℕ) → 1 ≤ times k
    one zero = omega arith
    one (suc k) = omega (arith, one k)

    by : (t : Bool) → nat_lt b 128 ≡ t → suc at + length bs ≡ end → Sized memory end (length bs) (times k) (digits k bs) → Sized memory end (length (b ∷ bs)) (times (suc k)) (cond t (Ended b 128 b bs) (behind (b - 128) (digits k bs)))
    by true e next ih =
        let lt : b < 128 = ltb-true b 128 e in
        let e2 : end - length bs ≡ suc at = omega (arith, next) in
        (lt, omega (arith, one k), lt, omega arith, subst (λ a. Stand memory a bs) (sym e2) is.1, all.1)
    by false e next ih = behind_sized memory end (length bs) (times k) (b - 128) (digits k bs) (omega (arith, all.0)) ih

-- one number and more
abbrev pub upon : ℕ → ℕ → ℕ
upon zero extra = extra
upon (suc k) extra = suc (upon k extra)

-- what is read, made into another
abbrev pub mapped : {F A B : Type 0} → (A → B) → Result (A × List ℕ) F → Result (B × List ℕ) F
mapped f r = r >>= λ x. Ok (f x.0, x.1)

-- the number of digits of which the last one tells the sign
abbrev pub with_sign : ℕ → ℕ → ℕ → ℤ
with_sign n scale last = cond (nat_lt last 64) (pos n) (pos n -ℤ pos scale)

module _ {F : Type 0} (short wide : F) where
  abbrev pub unsigned_digits : ℕ → List ℕ → Result (ℕ × List ℕ) F
  unsigned_digits k bytes = digits_at short wide (λ b. b) (λ b high. b - 128 + 128 * high) k bytes

  abbrev pub by_unsigned : ℕ → Digits → Result (ℕ × List ℕ) F
  by_unsigned extra (Ended n scale last rest) = Ok (n, rest)
  by_unsigned extra (Open n scale rest) = mapped (λ high. n + scale * high) (unsigned_digits extra rest)
  by_unsigned extra Cut = Err short

  unsigned_more : (low n scale : ℕ) (r : Result (ℕ × List ℕ) F) → mapped (λ high. low + 128 * high) (mapped (λ high. n + scale * high) r) ≡ mapped (λ high. low + 128 * n + 128 * scale * high) r
  unsigned_more low n scale (Ok x) = let e : low + 128 * (n + scale * x.0) ≡ low + 128 * n + 128 * scale * x.0 = omega (arith, mul-add 128 n (scale * x.0), mul_assoc 128 scale x.0) in ap (λ k. Ok (k, x.1)) e
  unsigned_more low n scale (Err f) = refl

  unsigned_behind : (extra b : ℕ) (found : Digits) → mapped (λ high. b - 128 + 128 * high) (by_unsigned extra found) ≡ by_unsigned extra (behind (b - 128) found)
  unsigned_behind extra b (Ended n scale last rest) = refl
  unsigned_behind extra b (Open n scale rest) = unsigned_more (b - 128) n scale (unsigned_digits extra rest)
  unsigned_behind extra b Cut = refl

  unsigned_none : (r : Result (ℕ × List ℕ) F) → r ≡ mapped (λ high. 0 + 1 * high) r
  unsigned_none (Ok x) = let e : x.0 ≡ 0 + 1 * x.0 = omega arith in ap (λ k. Ok (k, x.1)) e
  unsigned_none (Err f) = refl

  pub unsigned_is : (k extra : ℕ) (bytes : List ℕ) → Bytes bytes → unsigned_digits (upon k extra) bytes ≡ by_unsigned extra (digits k bytes)
  unsigned_is zero extra bytes all = unsigned_none (unsigned_digits extra bytes)
  unsigned_is (suc k) extra [] all = refl
  unsigned_is (suc k) extra (b ∷ bs) all =
      ap (λ t. cond (nat_lt b 128) (Ok (b, bs)) (cond t (mapped (λ high. b - 128 + 128 * high) (unsigned_digits (upon k extra) bs)) (Err wide))) (lt-ltb b 256 all.0)
      ∙ ap (λ (r : Result (ℕ × List ℕ) F). cond (nat_lt b 128) (Ok (b, bs)) (mapped (λ high. b - 128 + 128 * high) r)) (unsigned_is k extra bs all.1)
      ∙ ap (λ r. cond (nat_lt b 128) (Ok (b, bs)) r) (unsigned_behind extra b (digits k bs))
      ∙ by (nat_lt b 128)
    where
      by : (t : Bool) → cond {A = Result (ℕ × List ℕ) F} t (Ok (b, bs)) (by_unsigned extra (behind (b - 128) (digits k bs))) ≡ by_unsigned extra (cond t (Ended b 128 b bs) (behind (b - 128) (digits k bs)))
      by true = refl
      by false = refl

  -- ---- with a sign

  abbrev pub signed_digits : ℕ → List ℕ → Result (ℤ × List ℕ) F
  signed_digits k bytes = digits_at short wide last_digit (λ b high. (pos b -ℤ pos 128) +ℤ (pos 128 *ℤ high)) k bytes

  abbrev pub by_signed : ℕ → Digits → Result (ℤ × List ℕ) F
  by_signed extra (Ended n scale last rest) = Ok (with_sign n scale last, rest)
  by_signed extra (Open n scale rest) = mapped (λ high. pos n +ℤ (pos scale *ℤ high)) (signed_digits extra rest)
  by_signed extra Cut = Err short

  signed_ended : (b n scale : ℕ) (t : Bool) → 128 ≤ b → (pos b -ℤ pos 128) +ℤ (pos 128 *ℤ cond t (pos n) (pos n -ℤ pos scale)) ≡ cond t (pos (b - 128 + 128 * n)) (pos (b - 128 + 128 * n) -ℤ pos (128 * scale))
  signed_ended b n scale true big = omega (arith, ints, big)
  signed_ended b n scale false big = omega (arith, ints, big)

  signed_times : (b n scale : ℕ) (high : ℤ) → 128 ≤ b → (pos b -ℤ pos 128) +ℤ (pos 128 *ℤ (pos n +ℤ (pos scale *ℤ high))) ≡ pos (b - 128 + 128 * n) +ℤ (pos (128 * scale) *ℤ high)
  signed_times b n scale (pos high) big = omega (arith, ints, big, mul_assoc 128 scale high)
  signed_times b n scale (negsuc high) big = omega (arith, ints, big, mul_assoc 128 scale (suc high))

  signed_more : (b n scale : ℕ) (r : Result (ℤ × List ℕ) F) → 128 ≤ b → mapped (λ high. (pos b -ℤ pos 128) +ℤ (pos 128 *ℤ high)) (mapped (λ high. pos n +ℤ (pos scale *ℤ high)) r) ≡ mapped (λ high. pos (b - 128 + 128 * n) +ℤ (pos (128 * scale) *ℤ high)) r
  signed_more b n scale (Ok x) big = ap (λ k. Ok (k, x.1)) (signed_times b n scale x.0 big)
  signed_more b n scale (Err f) big = refl

  signed_behind : (extra b : ℕ) (found : Digits) → 128 ≤ b → mapped (λ high. (pos b -ℤ pos 128) +ℤ (pos 128 *ℤ high)) (by_signed extra found) ≡ by_signed extra (behind (b - 128) found)
  signed_behind extra b (Ended n scale last rest) big = ap (λ k. Ok (k, rest)) (signed_ended b n scale (nat_lt last 64) big)
  signed_behind extra b (Open n scale rest) big = signed_more b n scale (signed_digits extra rest) big
  signed_behind extra b Cut big = refl

  signed_none : (r : Result (ℤ × List ℕ) F) → r ≡ mapped (λ high. pos 0 +ℤ (pos 1 *ℤ high)) r
  signed_none (Ok x) = let e : x.0 ≡ pos 0 +ℤ (pos 1 *ℤ x.0) = omega (arith, ints) in ap (λ k. Ok (k, x.1)) e
  signed_none (Err f) = refl

  pub signed_is : (k extra : ℕ) (bytes : List ℕ) → Bytes bytes → signed_digits (upon k extra) bytes ≡ by_signed extra (digits k bytes)
  signed_is zero extra bytes all = signed_none (signed_digits extra bytes)
  signed_is (suc k) extra [] all = refl
  signed_is (suc k) extra (b ∷ bs) all =
      ap (λ t. cond (nat_lt b 128) (Ok (last_digit b, bs)) (cond t (mapped (λ high. (pos b -ℤ pos 128) +ℤ (pos 128 *ℤ high)) (signed_digits (upon k extra) bs)) (Err wide))) (lt-ltb b 256 all.0)
      ∙ ap (λ (r : Result (ℤ × List ℕ) F). cond (nat_lt b 128) (Ok (last_digit b, bs)) (mapped (λ high. (pos b -ℤ pos 128) +ℤ (pos 128 *ℤ high)) r)) (signed_is k extra bs all.1)
      ∙ by (nat_lt b 128) refl
    where
      by : (t : Bool) → nat_lt b 128 ≡ t → cond {A = Result (ℤ × List ℕ) F} t (Ok (last_digit b, bs)) (mapped (λ high. (pos b -ℤ pos 128) +ℤ (pos 128 *ℤ high)) (by_signed extra (digits k bs))) ≡ by_signed extra (cond t (Ended b 128 b bs) (behind (b - 128) (digits k bs)))
      by true e = refl
      by false e = signed_behind extra b (digits k bs) (ltb-false b 128 e)

-- ---- the numbers of Candid

abbrev pub after_nine : ℕ → List ℕ → Result (Datum × List ℕ) Fault
after_nine n [] = Err Short
after_nine n (b ∷ rest) = cond (nat_eq b 0) (Ok (natural n, rest)) (Err NumberLimit)

abbrev pub natural_of : Digits → Result (Datum × List ℕ) Fault
natural_of (Ended n scale last rest) = Ok (natural n, rest)
natural_of (Open n scale rest) = after_nine n rest
natural_of Cut = Err Short

abbrev natural_by : Result (ℕ × List ℕ) Fault → Result (Datum × List ℕ) Fault
natural_by r = mapped natural ((r >>= λ x. cond (nat_lt x.0 (2 ^ 70)) (Ok x) (Err NumberLimit)) >>= λ x. cond (nat_lt x.0 (2 ^ 63)) (Ok x) (Err NumberLimit))

natural_fits : (n : ℕ) (rest : List ℕ) → n < 2 ^ 63 → natural_by (Ok (n, rest)) ≡ Ok (natural n, rest)
natural_fits n rest lt = (λ i. mapped natural (cond (lt-ltb n (2 ^ 70) wide i) (Ok (n, rest)) (Err NumberLimit) >>= λ x. cond (nat_lt x.0 (2 ^ 63)) (Ok x) (Err NumberLimit))) ∙ (λ i. mapped natural (cond (lt-ltb n (2 ^ 63) lt i) (Ok (n, rest)) (Err NumberLimit)))
  where
    wide : n < 2 ^ 70
    wide = omega (arith, lt)

natural_is_large : (n : ℕ) (rest : List ℕ) → 2 ^ 63 ≤ n → natural_by (Ok (n, rest)) ≡ Err NumberLimit
natural_is_large n rest le = by (nat_lt n (2 ^ 70))
  where
    by : (t : Bool) → mapped natural (cond t (Ok (n, rest)) (Err NumberLimit) >>= λ x. cond (nat_lt x.0 (2 ^ 63)) (Ok x) (Err NumberLimit)) ≡ Err NumberLimit
    by true = λ i. mapped natural (cond (le-ltb n (2 ^ 63) le i) (Ok (n, rest)) (Err NumberLimit))
    by false = refl

after_nine_is : (n scale : ℕ) (rest : List ℕ) → n < scale → scale ≡ 2 ^ 63 → Bytes rest → natural_by (mapped (λ high. n + scale * high) (unsigned_digits Short NumberLimit 1 rest)) ≡ after_nine n rest
after_nine_is n scale [] lt e all = refl
after_nine_is n scale (zero ∷ rest) lt e all = let same : n + scale * 0 ≡ n = omega arith in ap (λ k. natural_by (Ok (k, rest))) same ∙ natural_fits n rest (omega (arith, lt, e))
after_nine_is n scale (suc b ∷ rest) lt e all = by (nat_lt (suc b) 128) (nat_lt (suc b) 256) ∙ ap (λ t. cond t (Ok (natural n, rest)) (Err NumberLimit)) (sym some)
  where
    some : nat_eq (suc b) 0 ≡ false
    some = grind (arith, nat_tests)

    large : 2 ^ 63 ≤ n + scale * suc b
    large = omega (arith, e, mul-suc scale b)

    by : (t u : Bool) → natural_by (mapped (λ high. n + scale * high) (cond t (Ok (suc b, rest)) (cond u (mapped (λ high. suc b - 128 + 128 * high) (Err NumberLimit)) (Err NumberLimit)))) ≡ Err NumberLimit
    by true u = natural_is_large (n + scale * suc b) rest large
    by false true = refl
    by false false = refl

pub natural_is : (memory : List ℕ) (end : ℕ) (bytes : List ℕ) → Bytes bytes → Sized memory end (length bytes) (times 9) (digits 9 bytes) → nat_at bytes ≡ natural_of (digits 9 bytes)
unfolding nat_at unsigned_at
natural_is memory end bytes all size = ap natural_by (unsigned_is Short NumberLimit 9 1 bytes all) ∙ by (digits 9 bytes) size
  where
    by : (found : Digits) → Sized memory end (length bytes) (times 9) found → natural_by (by_unsigned Short NumberLimit 1 found) ≡ natural_of found
    by (Ended n scale last rest) h = natural_fits n rest (omega (arith, h.0, h.1))
    by (Open n scale rest) h = after_nine_is n scale rest h.0 h.1 h.4
    by Cut h = refl

abbrev pub signed_after_nine : ℕ → ℕ → List ℕ → Result (Datum × List ℕ) Fault
signed_after_nine n scale [] = Err Short
signed_after_nine n scale (b ∷ rest) = cond (nat_eq b 0) (Ok (integer (pos n), rest)) (cond (nat_eq b 127) (Ok (integer (pos n -ℤ pos scale), rest)) (Err NumberLimit))

abbrev pub integer_of : Digits → Result (Datum × List ℕ) Fault
integer_of (Ended n scale last rest) = Ok (integer (with_sign n scale last), rest)
integer_of (Open n scale rest) = signed_after_nine n scale rest
integer_of Cut = Err Short

abbrev integer_by : Result (ℤ × List ℕ) Fault → Result (Datum × List ℕ) Fault
integer_by r = mapped integer ((r >>= λ x. cond (is_signed 70 x.0) (Ok x) (Err NumberLimit)) >>= λ x. cond (is_between (negsuc (2 ^ 63 - 1)) (pos (2 ^ 63 - 1)) x.0) (Ok x) (Err NumberLimit))

integer_fits : (z : ℤ) (rest : List ℕ) → negsuc (2 ^ 63 - 1) ≤ℤ z → z ≤ℤ pos (2 ^ 63 - 1) → integer_by (Ok (z, rest)) ≡ Ok (integer z, rest)
integer_fits z rest least most =
    (λ i. mapped integer (cond (between_true (neg_ℤ (pos (2 ^ (70 - 1)))) (pos (2 ^ (70 - 1)) -ℤ pos 1) z (omega (arith, ints, least)) (omega (arith, ints, most)) i) (Ok (z, rest)) (Err NumberLimit) >>= λ x. cond (is_between (negsuc (2 ^ 63 - 1)) (pos (2 ^ 63 - 1)) x.0) (Ok x) (Err NumberLimit)))
    ∙ (λ i. mapped integer (cond (between_true (negsuc (2 ^ 63 - 1)) (pos (2 ^ 63 - 1)) z least most i) (Ok (z, rest)) (Err NumberLimit)))

integer_is_out : (z : ℤ) (rest : List ℕ) → ((negsuc (2 ^ 63 - 1) ≤ℤ z) → z ≤ℤ pos (2 ^ 63 - 1) → ⊥) → integer_by (Ok (z, rest)) ≡ Err NumberLimit
integer_is_out z rest out = by (is_signed 70 z) (is_between (negsuc (2 ^ 63 - 1)) (pos (2 ^ 63 - 1)) z) refl
  where
    by : (t u : Bool) → is_between (negsuc (2 ^ 63 - 1)) (pos (2 ^ 63 - 1)) z ≡ u → mapped integer (cond t (Ok (z, rest)) (Err NumberLimit) >>= λ x. cond (is_between (negsuc (2 ^ 63 - 1)) (pos (2 ^ 63 - 1)) x.0) (Ok x) (Err NumberLimit)) ≡ Err NumberLimit
    by true false e = λ i. mapped integer (cond (e i) (Ok (z, rest)) (Err NumberLimit))
    by true true e = let b = true_between (negsuc (2 ^ 63 - 1)) (pos (2 ^ 63 - 1)) z e in absurd (out b.0 b.1)
    by false u e = refl

abbrev tenth : ℕ → List ℕ → Result (Datum × List ℕ) Fault
tenth n rest = integer_by (mapped (λ high. pos n +ℤ (pos (2 ^ 63) *ℤ high)) (signed_digits Short NumberLimit 1 rest))

tenth_is : (n b : ℕ) (rest : List ℕ) → n < 2 ^ 63 → b < 256 → tenth n (b ∷ rest) ≡ signed_after_nine n (2 ^ 63) (b ∷ rest)
tenth_is n b rest lt byte = by (nat_lt b 128) (nat_lt b 256) (nat_lt b 64) (nat_eq b 0) (nat_eq b 127) refl refl refl refl refl
  where
    by : (t u v x y : Bool) → nat_lt b 128 ≡ t → nat_lt b 256 ≡ u → nat_lt b 64 ≡ v → nat_eq b 0 ≡ x → nat_eq b 127 ≡ y
        → integer_by (mapped (λ high. pos n +ℤ (pos (2 ^ 63) *ℤ high)) (cond t (Ok (cond v (pos b) (pos b -ℤ pos 128), rest)) (cond u (mapped (λ high. (pos b -ℤ pos 128) +ℤ (pos 128 *ℤ high)) (Err NumberLimit)) (Err NumberLimit))))
        ≡ cond x (Ok (integer (pos n), rest)) (cond y (Ok (integer (pos n -ℤ pos (2 ^ 63)), rest)) (Err NumberLimit))
    by false true v true y e1 e2 e3 e4 e5 = absurd (grind (arith, nat_tests, e1, e4))
    by false true v false true e1 e2 e3 e4 e5 = absurd (grind (arith, nat_tests, e1, e5))
    by false true v false false e1 e2 e3 e4 e5 = refl
    by false false v true y e1 e2 e3 e4 e5 = absurd (grind (arith, nat_tests, e1, e4))
    by false false v false true e1 e2 e3 e4 e5 = absurd (grind (arith, nat_tests, e1, e5))
    by false false v false false e1 e2 e3 e4 e5 = refl
    by true u true true y e1 e2 e3 e4 e5 =
        let none : b ≡ 0 = grind (arith, nat_tests, e4) in
        let same : pos n +ℤ (pos (2 ^ 63) *ℤ pos b) ≡ pos n = omega (arith, ints, none) in
        ap (λ k. integer_by (Ok (k, rest))) same ∙ integer_fits (pos n) rest (omega (arith, ints)) (omega (arith, ints, lt))
    by true u true false true e1 e2 e3 e4 e5 = absurd (grind (arith, nat_tests, e3, e5))
    by true u true false false e1 e2 e3 e4 e5 =
        let some : 0 < b = grind (arith, nat_tests, e4) in
        integer_is_out (pos n +ℤ (pos (2 ^ 63) *ℤ pos b)) rest (λ l m. omega (arith, ints, some, m))
    by true u false true y e1 e2 e3 e4 e5 = absurd (grind (arith, nat_tests, e3, e4))
    by true u false false true e1 e2 e3 e4 e5 =
        let is : b ≡ 127 = grind (arith, nat_tests, e5) in
        let same : pos n +ℤ (pos (2 ^ 63) *ℤ (pos b -ℤ pos 128)) ≡ pos n -ℤ pos (2 ^ 63) = omega (arith, ints, is) in
        ap (λ k. integer_by (Ok (k, rest))) same ∙ integer_fits (pos n -ℤ pos (2 ^ 63)) rest (omega (arith, ints)) (omega (arith, ints, lt))
    by true u false false false e1 e2 e3 e4 e5 =
        let less : b < 127 = grind (arith, nat_tests, e1, e5) in
        integer_is_out (pos n +ℤ (pos (2 ^ 63) *ℤ (pos b -ℤ pos 128))) rest (λ l m. omega (arith, ints, less, l, lt))

signed_after_nine_is : (n scale : ℕ) (rest : List ℕ) → n < scale → 2 ^ 63 ≡ scale → Bytes rest → integer_by (mapped (λ high. pos n +ℤ (pos scale *ℤ high)) (signed_digits Short NumberLimit 1 rest)) ≡ signed_after_nine n scale rest
signed_after_nine_is n scale rest lt e all = subst (λ s. n < s → integer_by (mapped (λ high. pos n +ℤ (pos s *ℤ high)) (signed_digits Short NumberLimit 1 rest)) ≡ signed_after_nine n s rest) e (by rest all) lt
  where
    by : (rest : List ℕ) → Bytes rest → n < 2 ^ 63 → tenth n rest ≡ signed_after_nine n (2 ^ 63) rest
    by [] all lt = refl
    by (b ∷ rest) all lt = tenth_is n b rest lt all.0

pub integer_is : (memory : List ℕ) (end : ℕ) (bytes : List ℕ) → Bytes bytes → Sized memory end (length bytes) (times 9) (digits 9 bytes) → int_at bytes ≡ integer_of (digits 9 bytes)
unfolding int_at signed_at
integer_is memory end bytes all size = ap integer_by (signed_is Short NumberLimit 9 1 bytes all) ∙ by (digits 9 bytes) size
  where
    signs : (n scale : ℕ) (t : Bool) (rest : List ℕ) → n < scale → scale ≤ times 9 → integer_by (Ok (cond t (pos n) (pos n -ℤ pos scale), rest)) ≡ Ok (integer (cond t (pos n) (pos n -ℤ pos scale)), rest)
    signs n scale true rest lt le = integer_fits (pos n) rest (omega (arith, ints)) (omega (arith, ints, lt, le))
    signs n scale false rest lt le = integer_fits (pos n -ℤ pos scale) rest (omega (arith, ints, lt, le)) (omega (arith, ints, lt, le))

    by : (found : Digits) → Sized memory end (length bytes) (times 9) found → integer_by (by_signed Short NumberLimit 1 found) ≡ integer_of found
    by (Ended n scale last rest) h = signs n scale (nat_lt last 64) rest h.0 h.1
    by (Open n scale rest) h = signed_after_nine_is n scale rest h.0 (sym h.1) h.4
    by Cut h = refl
