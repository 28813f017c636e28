-- The register of CRC-32 as a number.
use Rattle.std.proofs.Common.{◌≡◌, ℕ, zero, suc, ◌+◌, ◌-◌, ◌*◌, ◌^◌, ◌<◌, ◌/◌, ◌%◌, Bool, true, false, cond, List, [], ◌∷◌, ◌++◌, map, refl, sym, ap, ◌∙◌, arith}
use Rattle.std.specs.Prelude.{replicate, bit_xor, ◌==◌, not}
use Rattle.std.proofs.Math.Nat.{pow-suc}
use mathlib.Core.Bool.{beq}
use Rattle.mo_num.specs.Crc.{bits, bits_value, message, differs, sum_of, generator, remainder, crc32_of}
use Rattle.mo_num.proofs.Division.{bits_length, bits_more, bits_xor, step_same, step_other, at_end}

abbrev poly : ℕ
poly = 0xedb8_8320

poly_bits : bits 32 poly ≡ generator
unfolding bits generator
poly_bits = refl

first_bit : (n : ℕ) → bits 32 n ≡ (n % 2 == 1) ∷ bits 31 (n / 2)
unfolding bits
first_bit n = refl

pub bit_same : (n : ℕ) (b : Bool) → n < 2 ^ 32 → differs (n % 2 == 1) b ≡ false → (more : List Bool) → remainder (bits 32 n) (b ∷ more) ≡ remainder (bits 32 (n / 2)) more
bit_same n b small same more =
    let half : n / 2 < 2 ^ 31 = omega arith in
    ap (λ r. remainder r (b ∷ more)) (first_bit n) ∙ step_same (n % 2 == 1) (bits 31 (n / 2)) more b (bits_length 31 (n / 2)) same ∙ ap (λ r. remainder r more) (sym (bits_more 31 (n / 2) half))

pub bit_other : (n : ℕ) (b : Bool) → n < 2 ^ 32 → differs (n % 2 == 1) b ≡ true → (more : List Bool) → remainder (bits 32 n) (b ∷ more) ≡ remainder (bits 32 (bit_xor (n / 2) poly)) more
bit_other n b small other more =
    let half : n / 2 < 2 ^ 31 = omega arith in
    ap (λ r. remainder r (b ∷ more)) (first_bit n)
    ∙ step_other (n % 2 == 1) (bits 31 (n / 2)) more b (bits_length 31 (n / 2)) other
    ∙ ap (λ r. remainder (sum_of r generator) more) (sym (bits_more 31 (n / 2) half))
    ∙ ap (λ g. remainder (sum_of (bits 32 (n / 2)) g) more) (sym poly_bits)
    ∙ ap (λ r. remainder r more) (sym (bits_xor 32 (n / 2) poly))

pub differs_same : (x y : Bool) → beq x y ≡ true → differs x y ≡ false
differs_same true true e = refl
differs_same true false e = cc
differs_same false true e = cc
differs_same false false e = refl

pub differs_other : (x y : Bool) → beq x y ≡ false → differs x y ≡ true
differs_other true true e = cc
differs_other true false e = refl
differs_other false true e = refl
differs_other false false e = cc

-- The digits of a byte, as the code takes them.
pub byte_bits : (n : ℕ) (more : List Bool) → bits 8 n ++ more ≡ (n % 2 == 1) ∷ (n / 2 % 2 == 1) ∷ (n / 4 % 2 == 1) ∷ (n / 8 % 2 == 1) ∷ (n / 16 % 2 == 1) ∷ (n / 32 % 2 == 1) ∷ (n / 64 % 2 == 1) ∷ (n / 128 % 2 == 1) ∷ more
unfolding bits
byte_bits n more =
    let a : n / 2 / 2 ≡ n / 4 = omega arith in
    let b : n / 2 / 2 / 2 ≡ n / 8 = omega arith in
    let c : n / 2 / 2 / 2 / 2 ≡ n / 16 = omega arith in
    let d : n / 2 / 2 / 2 / 2 / 2 ≡ n / 32 = omega arith in
    let e : n / 2 / 2 / 2 / 2 / 2 / 2 ≡ n / 64 = omega arith in
    let f : n / 2 / 2 / 2 / 2 / 2 / 2 / 2 ≡ n / 128 = omega arith in
    cc

inverted_digit : (x : ℕ) → x < 2 → cond (not (x == 1)) 1 0 ≡ 1 - x
inverted_digit zero h = refl
inverted_digit (suc zero) h = refl
inverted_digit (suc (suc x)) h = absurd (omega arith)

-- The inverted digits are those of the complement.
inverted : (k n : ℕ) → n < 2 ^ k → bits_value (map not (bits k n)) + n + 1 ≡ 2 ^ k
unfolding bits
inverted zero n h = omega arith
inverted (suc k) n h =
    let p : 2 ^ suc k ≡ 2 ^ k * 2 = pow-suc 2 k in
    let half : n / 2 < 2 ^ k = omega (arith, h, p) in
    let rest : bits_value (map not (bits k (n / 2))) + n / 2 + 1 ≡ 2 ^ k = inverted k (n / 2) half in
    let digit : cond (not (n % 2 == 1)) 1 0 ≡ 1 - n % 2 = inverted_digit (n % 2) (omega arith) in
    omega (arith, p, rest, digit)

ones_bits : replicate 32 true ≡ bits 32 0xffff_ffff
unfolding bits
ones_bits = refl

-- The first register, and the last.
pub first_register : (bytes : List ℕ) → crc32_of bytes ≡ bits_value (map not (remainder (bits 32 0xffff_ffff) (message bytes)))
unfolding crc32_of
first_register bytes = ap (λ r. bits_value (map not (remainder r (message bytes)))) ones_bits

pub last_register : (n : ℕ) → n < 2 ^ 32 → bits_value (map not (remainder (bits 32 n) [])) + n + 1 ≡ 2 ^ 32
last_register n h = ap (λ r. bits_value (map not r) + n + 1) (at_end (bits 32 n) (bits_length 32 n)) ∙ inverted 32 n h
