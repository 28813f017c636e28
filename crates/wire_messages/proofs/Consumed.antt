-- What reading a value leaves, and that its word has 64 bits.
use Rattle.std.proofs.Common.{◌≡◌, ℕ, zero, suc, ◌+◌, ◌-◌, ◌*◌, ◌^◌, ◌<◌, ◌≤◌, Bool, true, false, cond, List, [], ◌∷◌, length, take, drop, ℤ, pos, negsuc, ◌-ℤ◌, ◌+ℤ◌, ◌*ℤ◌, Result, Ok, Err, refl, sym, subst, arith}
use Rattle.std.specs.Prelude.{nat_lt}
use Rattle.std.proofs.lemmas.Int.{ints}
use Rattle.std.proofs.lemmas.Bool.{ltb-true, ltb-false}
use Rattle.mo_num.specs.declared.kind.Kind.{Kind}
use Rattle.mo_num.specs.declared.kind.Kind.TheVariants as kind
use Rattle.exact_reading.specs.Reading.{◌>>=◌, made, digits_at, last_digit, is_between, is_signed, unsigned_at as unsigned_number, signed_at as signed_number}
use Rattle.exact_reading.proofs.Numbers.{true_between}
use Rattle.mo_types.specs.declared.datum.Datum.{Datum}
use Rattle.mo_types.specs.declared.datum.Datum.TheVariants as part
use Rattle.mo_types.specs.Wire.{plain_number}
use Rattle.candid_header.specs.declared.fault.Fault.{Fault}
use Rattle.candid_header.specs.declared.fault.Fault.TheVariants.{Short, NumberLimit}
use Rattle.candid_header.specs.Reading.{first}
use Rattle.candid_read.specs.Parts.{natural, integer, nat_at, int_at, low_at, signed, unsigned_at, signed_at, flag_by, plain_at}
use Rattle.wasm_tree.specs.Exec.{bits64, number_of}
use Rattle.wire_numbers.specs.Readers.{word_of}
use Rattle.wire_numbers.proofs.Numbers.{Bytes, mapped}
use Rattle.wire_numbers.proofs.Words.{low_is_number, power, number_below}
use Rattle.wire_messages.specs.declared.column.Wired.{Wired}
use Rattle.wire_messages.specs.declared.column.Wired.TheVariants.{Number, Truth}
use Rattle.wire_messages.specs.Column.{IsOf}

-- some bytes were taken, of which a fact holds with the value
abbrev pub Takes : {F X : Type 0} → (X → Type 0) → List ℕ → Result (X × List ℕ) F → Type 0
Takes P bs (Ok x) = P x.0 × (count : ℕ) × (0 < count) × (count ≤ length bs) × (x.1 ≡ drop count bs)
Takes P bs (Err f) = Unit {0}

abbrev Any : {X : Type 0} → X → Type 0
Any x = Unit {0}

kept_takes : {F X : Type 0} (P Q : X → Type 0) (f : F) (test : X → Bool) (bs : List ℕ) (r : Result (X × List ℕ) F) → ((x : X) → P x → test x ≡ true → Q x) → Takes P bs r → Takes Q bs (r >>= λ x. cond (test x.0) (Ok x) (Err f))
kept_takes P Q f test bs (Err g) then h = tt
kept_takes P Q f test bs (Ok x) then h = by (test x.0) refl
  where
    by : (t : Bool) → test x.0 ≡ t → Takes Q bs (cond t (Ok x) (Err f))
    by true e = (then x.0 h.0 e, h.1, h.2, h.3, h.4)
    by false e = tt

made_takes : {F X Y : Type 0} (P : X → Type 0) (Q : Y → Type 0) (f : X → Y) (bs : List ℕ) (r : Result (X × List ℕ) F) → ((x : X) → P x → Q (f x)) → Takes P bs r → Takes Q bs (mapped f r)
made_takes P Q f bs (Err g) then h = tt
made_takes P Q f bs (Ok x) then h = (then x.0 h.0, h.1, h.2, h.3, h.4)

digits_take : {F V : Type 0} (short wide : F) (last : ℕ → V) (more : ℕ → V → V) (k : ℕ) (bs : List ℕ) → Takes Any bs (digits_at short wide last more k bs)
digits_take short wide last more zero bs = tt
digits_take short wide last more (suc k) [] = tt
digits_take {F = F} {V = V} short wide last more (suc k) (b ∷ bs) = by (nat_lt b 128) (nat_lt b 256) (digits_at short wide last more k bs) (digits_take short wide last more k bs)
  where
    by : (t u : Bool) (r : Result (V × List ℕ) F) → Takes Any bs r → Takes Any (b ∷ bs) (cond t (Ok (last b, bs)) (cond u (mapped (more b) r) (Err wide)))
    by true u r h = (tt, 1, omega arith, omega arith, refl)
    by false false r h = tt
    by false true (Err f) h = tt
    by false true (Ok x) h = (tt, suc h.1, omega arith, omega (arith, h.3), h.4)

-- a number with a word of 64 bits
abbrev IsNumber : Datum → Type 0
IsNumber p = ((z : ℤ) × (p ≡ part.Number z)) × (word_of p < 2 ^ 64)

nat_takes : (bs : List ℕ) → Takes IsNumber bs (nat_at bs)
unfolding nat_at unsigned_number
nat_takes bs =
    made_takes (λ n. n < 2 ^ 63) IsNumber natural bs _ (λ n lt. ((pos n, refl), omega (arith, lt)))
    (kept_takes Any (λ n. n < 2 ^ 63) NumberLimit (λ n. nat_lt n (2 ^ 63)) bs _ (λ n a t. ltb-true n (2 ^ 63) t)
    (kept_takes Any Any NumberLimit (λ n. nat_lt n (2 ^ 70)) bs _ (λ n a t. tt) (digits_take Short NumberLimit (λ b. b) (λ b high. b - 128 + 128 * high) 10 bs)))

int_takes : (bs : List ℕ) → Takes IsNumber bs (int_at bs)
unfolding int_at signed_number
int_takes bs =
    made_takes (λ z. bits64 z < 2 ^ 64) IsNumber integer bs _ (λ z lt. ((z, refl), lt))
    (kept_takes Any (λ z. bits64 z < 2 ^ 64) NumberLimit (is_between (negsuc (2 ^ 63 - 1)) (pos (2 ^ 63 - 1))) bs _ (λ z a t. small z t)
    (kept_takes Any Any NumberLimit (is_signed 70) bs _ (λ z a t. tt) (digits_take Short NumberLimit last_digit (λ b high. (pos b -ℤ pos 128) +ℤ (pos 128 *ℤ high)) 10 bs)))
  where
    small : (z : ℤ) → is_between (negsuc (2 ^ 63 - 1)) (pos (2 ^ 63 - 1)) z ≡ true → bits64 z < 2 ^ 64
    small (pos n) t = let b = true_between (negsuc (2 ^ 63 - 1)) (pos (2 ^ 63 - 1)) (pos n) t in omega (arith, ints, b.1)
    small (negsuc n) t = omega arith

low_takes : (w : ℕ) (bs : List ℕ) → Bytes bs → 0 < w → Takes (λ n. n < power w) bs (low_at w bs)
low_takes w bs all some = subst (Takes (λ n. n < power w) bs) (sym (low_is_number w bs all)) (by (nat_lt (length bs) w) refl)
  where
    by : (t : Bool) → nat_lt (length bs) w ≡ t → Takes (λ n. n < power w) bs (cond {A = Result (ℕ × List ℕ) Fault} t (Err Short) (Ok (number_of (take w bs), drop w bs)))
    by true e = tt
    by false e = (number_below w bs all, w, some, ltb-false (length bs) w e, refl)

fixed_takes : (w : ℕ) (value : ℕ → Datum) (bs : List ℕ) → Bytes bs → 0 < w → ((n : ℕ) → n < power w → IsNumber (value n)) → Takes IsNumber bs (made value (low_at w) bs)
fixed_takes w value bs all some good = made_takes (λ n. n < power w) IsNumber value bs (low_at w bs) good (low_takes w bs all some)

signed_word : (half n : ℕ) → half ≤ 2 ^ 63 → n < 2 * half → bits64 (cond (nat_lt n half) (pos n) (pos n -ℤ pos (2 * half))) < 2 ^ 64
signed_word half n few lt = by (nat_lt n half) refl
  where
    by : (t : Bool) → nat_lt n half ≡ t → bits64 (cond t (pos n) (pos n -ℤ pos (2 * half))) < 2 ^ 64
    by true e = omega (arith, lt, few)
    by false e = let z : pos n -ℤ pos (2 * half) ≡ negsuc (2 * half - 1 - n) = omega (arith, ints, lt) in subst (λ z. bits64 z < 2 ^ 64) (sym z) (let k : 2 ^ 64 - 1 - (2 * half - 1 - n) < 2 ^ 64 = omega arith in k)

kind_takes : (k : Kind) (bs : List ℕ) → Bytes bs → Takes IsNumber bs (plain_at (plain_number k) bs)
unfolding unsigned_at signed_at
kind_takes kind.Nat bs all = nat_takes bs
kind_takes kind.Int bs all = int_takes bs
kind_takes kind.Nat8 bs all = fixed_takes 1 natural bs all (omega arith) (λ n lt. ((pos n, refl), omega (arith, lt)))
kind_takes kind.Nat16 bs all = fixed_takes 2 natural bs all (omega arith) (λ n lt. ((pos n, refl), omega (arith, lt)))
kind_takes kind.Nat32 bs all = fixed_takes 4 natural bs all (omega arith) (λ n lt. ((pos n, refl), omega (arith, lt)))
kind_takes kind.Nat64 bs all = fixed_takes 8 natural bs all (omega arith) (λ n lt. ((pos n, refl), omega (arith, lt)))
kind_takes kind.Int8 bs all = fixed_takes 1 (λ n. part.Number (signed 8 n)) bs all (omega arith) (λ n lt. ((signed 8 n, refl), signed_word (2 ^ 7) n (omega arith) lt))
kind_takes kind.Int16 bs all = fixed_takes 2 (λ n. part.Number (signed 16 n)) bs all (omega arith) (λ n lt. ((signed 16 n, refl), signed_word (2 ^ 15) n (omega arith) lt))
kind_takes kind.Int32 bs all = fixed_takes 4 (λ n. part.Number (signed 32 n)) bs all (omega arith) (λ n lt. ((signed 32 n, refl), signed_word (2 ^ 31) n (omega arith) lt))
kind_takes kind.Int64 bs all = fixed_takes 8 (λ n. part.Number (signed 64 n)) bs all (omega arith) (λ n lt. ((signed 64 n, refl), signed_word (2 ^ 63) n (omega arith) lt))

abbrev IsFlag : Datum → Type 0
IsFlag p = ((b : Bool) × (p ≡ part.Flag b)) × (word_of p < 2 ^ 64)

flag_takes : (bs : List ℕ) → Takes IsFlag bs (first flag_by bs)
flag_takes [] = tt
flag_takes (zero ∷ bs) = (((false, refl), omega arith), 1, omega arith, omega arith, refl)
flag_takes (suc zero ∷ bs) = (((true, refl), omega arith), 1, omega arith, omega arith, refl)
flag_takes (suc (suc b) ∷ bs) = tt

-- a value of the type, with a word of 64 bits
abbrev pub IsGood : Wired → Datum → Type 0
IsGood w p = IsOf w p × (word_of p < 2 ^ 64)

pub number_takes : (k : Kind) (bs : List ℕ) → Bytes bs → Takes (IsGood (Number k)) bs (plain_at (plain_number k) bs)
number_takes k bs all = kind_takes k bs all

pub truth_takes : (bs : List ℕ) → Takes (IsGood Truth) bs (first flag_by bs)
truth_takes bs = flag_takes bs
