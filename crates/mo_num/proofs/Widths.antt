-- Seven bits more: the powers of 2, the numbers that fit, and the bytes that they may take.
use Rattle.std.proofs.Common.{◌≡◌, ℕ, suc, ◌+◌, ◌-◌, ◌*◌, ◌^◌, ◌<◌, ◌≤◌, arith, ap, ◌∙◌, ℤ, pos, ◌+ℤ◌, ◌*ℤ◌}
use Rattle.std.proofs.lemmas.Int.{ints}
use Rattle.std.proofs.Math.Pow.{pow-add, pow_mono}
use Rattle.mo_num.specs.LebRead.{most, IsSigned}

pub seven_more : (k : ℕ) → 7 ≤ k → 2 ^ k ≡ 128 * 2 ^ (k - 7)
seven_more k h =
    let e : k ≡ 7 + (k - 7) = omega arith in
    ap (λ j. 2 ^ j) e ∙ pow-add 2 7 (k - 7)

pub most_more : (bits : ℕ) → 7 < bits → most bits ≡ suc (most (bits - 7))
most_more bits h = omega arith

pub most_some : (bits : ℕ) → 1 ≤ bits → 1 ≤ most bits
most_some bits h = omega arith

pub most_one : (bits : ℕ) → 1 ≤ bits → bits ≤ 7 → most bits ≡ 1
most_one bits some few = omega arith

pub seven_bits : (bits digit : ℕ) → 7 ≤ bits → digit < 128 → digit < 2 ^ bits
seven_bits bits digit h small = let p : 2 ^ 7 ≤ 2 ^ bits = pow_mono h in omega (arith, p)

pub seven_signed : (bits : ℕ) (digit : ℤ) → 7 ≤ bits → IsSigned 7 digit → IsSigned bits digit
seven_signed bits digit h s =
    let six : 6 ≤ bits - 1 = omega arith in
    let p : 2 ^ 6 ≤ 2 ^ (bits - 1) = pow_mono six in
    (omega (arith, ints, p, s.0), omega (arith, ints, p, s.1))

-- A number fits in so many bits exactly where what stands before its low digit fits in seven less.
pub fits_more : (bits b high n : ℕ) → 7 < bits → 128 ≤ b → b < 256 → n + 128 ≡ b + 128 * high → high < 2 ^ (bits - 7) → n < 2 ^ bits
fits_more bits b high n wide lo hi e h = let s = seven_more bits (omega arith) in omega (arith, s)

pub fits_less : (bits b high n : ℕ) → 7 < bits → 128 ≤ b → b < 256 → n + 128 ≡ b + 128 * high → n < 2 ^ bits → high < 2 ^ (bits - 7)
fits_less bits b high n wide lo hi e h = let s = seven_more bits (omega arith) in omega (arith, s)

pub half_more : (bits : ℕ) → 7 < bits → 2 ^ (bits - 1) ≡ 128 * 2 ^ (bits - 7 - 1)
half_more bits wide =
    let e : bits - 1 - 7 ≡ bits - 7 - 1 = omega arith in
    seven_more (bits - 1) (omega arith) ∙ ap (λ j. 128 * 2 ^ j) e

pub signed_more : (bits b : ℕ) (high n : ℤ) → 7 < bits → 128 ≤ b → b < 256 → n +ℤ pos 128 ≡ pos b +ℤ (pos 128 *ℤ high) → IsSigned (bits - 7) high → IsSigned bits n
signed_more bits b high n wide lo hi e h = let s = half_more bits wide in (omega (arith, ints, s, e, h.0, h.1), omega (arith, ints, s, e, h.0, h.1))

pub signed_less : (bits b : ℕ) (high n : ℤ) → 7 < bits → 128 ≤ b → b < 256 → n +ℤ pos 128 ≡ pos b +ℤ (pos 128 *ℤ high) → IsSigned bits n → IsSigned (bits - 7) high
signed_less bits b high n wide lo hi e h = let s = half_more bits wide in (omega (arith, ints, s, e, h.0, h.1), omega (arith, ints, s, e, h.0, h.1))
