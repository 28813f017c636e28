-- Words of numbers, and bytes as numbers.
use Rattle.std.proofs.Common.{◌≡◌, ℕ, zero, suc, ◌+◌, ◌-◌, ◌*◌, ◌^◌, ◌≤◌, ◌<◌, Bool, true, false, cond, List, [], ◌∷◌, length, take, drop, get_or, Result, Ok, Err, refl, sym, ap, ◌∙◌, subst, arith, ℤ, pos, negsuc, ◌-ℤ◌, drop-cons}
use Rattle.std.specs.Prelude.{nat_lt}
use Rattle.std.proofs.lemmas.Int.{ints}
use Rattle.std.proofs.lemmas.Bool.{lt-ltb, ltb-true, ltb-false}
use Rattle.std.specs.Int.{w64, cast_unsigned}
use Rattle.wasm_tree.specs.declared.types.ValueType.TheVariants.{I64}
use Rattle.wasm_tree.specs.Numeric.{low, unsigned}
use Rattle.wasm_tree.specs.Exec.{bits64, number_of}
use Rattle.candid_header.specs.declared.fault.Fault.{Fault}
use Rattle.candid_header.specs.declared.fault.Fault.TheVariants.{Short, BadValue}
use Rattle.candid_read.specs.Parts.{low_at, signed}
use Rattle.wire_numbers.proofs.Bytes.{Stand, long_is}
use Rattle.wire_numbers.proofs.Numbers.{Bytes, mapped}

-- the word of a number below 0, as a difference
pub lowered : (n scale : ℕ) → n < scale → scale ≤ 2 ^ 63 → low I64 (low I64 n + 2 ^ 64 - low I64 scale) ≡ bits64 (pos n -ℤ pos scale)
lowered n scale lt le =
    let z : pos n -ℤ pos scale ≡ negsuc (scale - n - 1) = omega (arith, ints, lt) in
    (λ i. low I64 (long_is n (omega (arith, lt, le)) i + 2 ^ 64 - long_is scale (omega (arith, le)) i)) ∙ long_is (n + 2 ^ 64 - scale) (omega (arith, lt, le)) ∙ (let e : n + 2 ^ 64 - scale ≡ 2 ^ 64 - 1 - (scale - n - 1) = omega (arith, lt, le) in e) ∙ sym (ap bits64 z)

word_is : (z : ℤ) (n : ℕ) → z ≡ negsuc n → n < 2 ^ 63 → cast_unsigned w64 (negsuc n) ≡ bits64 z
word_is z n e h = let s : cast_unsigned w64 (negsuc n) ≡ 2 ^ 64 - 1 - n = omega (arith, h) in s ∙ sym (ap bits64 e)

-- a number of fewer bits with its sign
pub extends : (half n : ℕ) → 0 < half → half ≤ 2 ^ 31 → n < 2 * half → unsigned I64 (cond (nat_lt n half) (pos n) (negsuc (2 * half - 1 - n))) ≡ bits64 (cond (nat_lt n half) (pos n) (pos n -ℤ pos (2 * half)))
extends half n some few lt = by (nat_lt n half) refl
  where
    by : (t : Bool) → nat_lt n half ≡ t → unsigned I64 (cond t (pos n) (negsuc (2 * half - 1 - n))) ≡ bits64 (cond t (pos n) (pos n -ℤ pos (2 * half)))
    by true e = refl
    by false e =
        let le : half ≤ n = ltb-false n half e in
        let z : pos n -ℤ pos (2 * half) ≡ negsuc (2 * half - 1 - n) = omega (arith, ints, lt) in
        word_is (pos n -ℤ pos (2 * half)) (2 * half - 1 - n) z (omega (arith, few))

-- all 64 bits
pub whole_word : (n : ℕ) → n < 2 ^ 64 → n ≡ bits64 (signed 64 n)
whole_word n lt = by (nat_lt n (2 ^ 63)) refl
  where
    by : (t : Bool) → nat_lt n (2 ^ 63) ≡ t → n ≡ bits64 (cond t (pos n) (pos n -ℤ pos (2 ^ 64)))
    by true e = refl
    by false e =
        let le : 2 ^ 63 ≤ n = ltb-false n (2 ^ 63) e in
        let z : pos n -ℤ pos (2 ^ 64) ≡ negsuc (2 ^ 64 - 1 - n) = omega (arith, ints, lt) in
        let back : n ≡ 2 ^ 64 - 1 - (2 ^ 64 - 1 - n) = omega (arith, lt) in
        back ∙ sym (ap bits64 z)

-- ---- bytes in a memory

pub stand_taken : (memory : List ℕ) (a w : ℕ) (bs : List ℕ) → a + length bs ≤ length memory → w ≤ length bs → Stand memory a bs → take w (drop a memory) ≡ take w bs
stand_taken memory a zero bs inside le is = refl
stand_taken memory a (suc w) [] inside le is = absurd (omega (arith, le))
stand_taken memory a (suc w) (b ∷ bs) inside le is =
    ap (take (suc w)) (drop-cons memory a 0 (omega (arith, inside))) ∙ (λ i. is.0 i ∷ stand_taken memory (suc a) w bs (omega (arith, inside)) (omega (arith, le)) is.1 i)

pub stand_dropped : (memory : List ℕ) (a w : ℕ) (bs : List ℕ) → w ≤ length bs → Stand memory a bs → Stand memory (a + w) (drop w bs)
stand_dropped memory a zero bs le is = subst (λ k. Stand memory k bs) (let e : a ≡ a + 0 = omega arith in e) is
stand_dropped memory a (suc w) [] le is = tt
stand_dropped memory a (suc w) (b ∷ bs) le is = subst (λ k. Stand memory k (drop w bs)) (let e : suc a + w ≡ a + suc w = omega arith in e) (stand_dropped memory (suc a) w bs (omega (arith, le)) is.1)

-- those between two places
pub between_stands : (memory : List ℕ) (a n : ℕ) → a + n ≤ length memory → (length (take n (drop a memory)) ≡ n) × Stand memory a (take n (drop a memory))
between_stands memory a zero le = (refl, tt)
between_stands memory a (suc n) le =
    let ih = between_stands memory (suc a) n (omega (arith, le)) in
    let e : take (suc n) (drop a memory) ≡ get_or memory a 0 ∷ take n (drop (suc a) memory) = ap (take (suc n)) (drop-cons memory a 0 (omega (arith, le))) in
    subst (λ l. (length l ≡ suc n) × Stand memory a l) (sym e) (ap suc ih.0, (refl, ih.1))

pub stand_bytes : (memory : List ℕ) (a : ℕ) (bs : List ℕ) → ((k : ℕ) → get_or memory k 0 < 256) → Stand memory a bs → Bytes bs
stand_bytes memory a [] h is = tt
stand_bytes memory a (b ∷ bs) h is = (subst (λ k. k < 256) is.0 (h a), stand_bytes memory (suc a) bs h is.1)

-- ---- numbers of so many bytes

low_cut : (w : ℕ) (bs : List ℕ) → Bytes bs → length bs < w → low_at w bs ≡ Err Short
low_cut zero bs all lt = absurd (omega (arith, lt))
low_cut (suc w) [] all lt = refl
low_cut (suc w) (b ∷ bs) all lt =
    ap (λ t. cond {A = Result (ℕ × List ℕ) Fault} t (mapped (λ high. high * 256 + b) (low_at w bs)) (Err BadValue)) (lt-ltb b 256 all.0) ∙ ap (λ (r : Result (ℕ × List ℕ) Fault). mapped (λ high. high * 256 + b) r) (low_cut w bs all.1 (omega (arith, lt)))

low_there : (w : ℕ) (bs : List ℕ) → Bytes bs → w ≤ length bs → low_at w bs ≡ Ok (number_of (take w bs), drop w bs)
low_there zero bs all le = refl
low_there (suc w) [] all le = absurd (omega (arith, le))
low_there (suc w) (b ∷ bs) all le =
    let e : number_of (take w bs) * 256 + b ≡ b + 256 * number_of (take w bs) = omega arith in
    ap (λ t. cond {A = Result (ℕ × List ℕ) Fault} t (mapped (λ high. high * 256 + b) (low_at w bs)) (Err BadValue)) (lt-ltb b 256 all.0)
    ∙ ap (λ (r : Result (ℕ × List ℕ) Fault). mapped (λ high. high * 256 + b) r) (low_there w bs all.1 (omega (arith, le)))
    ∙ ap (λ k. Ok (k, drop w bs)) e

-- the number of so many bytes, where there are as many
abbrev pub low_of : ℕ → List ℕ → Result (ℕ × List ℕ) Fault
low_of w bs = cond (nat_lt (length bs) w) (Err Short) (Ok (number_of (take w bs), drop w bs))

pub low_is_number : (w : ℕ) (bs : List ℕ) → Bytes bs → low_at w bs ≡ low_of w bs
low_is_number w bs all = by (nat_lt (length bs) w) refl
  where
    by : (t : Bool) → nat_lt (length bs) w ≡ t → low_at w bs ≡ cond t (Err Short) (Ok (number_of (take w bs), drop w bs))
    by true e = low_cut w bs all (ltb-true (length bs) w e)
    by false e = low_there w bs all (ltb-false (length bs) w e)

-- so many bytes are below 256 to the power of their count
abbrev pub power : ℕ → ℕ
power zero = 1
power (suc w) = 256 * power w

pub number_below : (w : ℕ) (bs : List ℕ) → Bytes bs → number_of (take w bs) < power w
number_below zero bs all = omega arith
number_below (suc w) [] all = omega (arith, number_below w [] tt)
number_below (suc w) (b ∷ bs) all = omega (arith, all.0, number_below w bs all.1)
