-- Powers of whole numbers.
use Rattle.std.proofs.Common.{◌≡◌, ℕ, zero, suc, ◌^◌, ◌<◌, ◌≤◌, ◌%◌, Bool, true, false, cond, arith, refl, sym, ap, ◌∙◌, ℤ, pos, negsuc, neg_ℤ, ◌+ℤ◌, ◌≤ℤ◌, ◌<ℤ◌, Err, ◌⊎◌, inl, inr}
use Rattle.std.specs.Prelude.{unsigned_abs, ◌==◌, int_rem}
use Rattle.std.specs.Int.{int_pow}
use Rattle.std.proofs.lemmas.Int.{ints}
use Rattle.std.proofs.Math.Pow.{pow_mono}
use Rattle.std.proofs.Math.Nat.{pow-suc, pow-zero, pow-le-pow_left}
use mir.Syntax.{w128}
use mir.Val.{SFits}
use Rattle.mo_num.specs.declared.kind.Kind.{Kind}
use Rattle.mo_num.specs.declared.operator.Operator.TheVariants.{Pow}
use Rattle.mo_num.specs.declared.operator.NumTrap.TheVariants.{Overflow}
use Rattle.mo_num.specs.Kinds.{InRange}
use Rattle.mo_num.specs.Arith.{Arith, within}
use Rattle.mo_num.proofs.Ranges.{in_bounds, out_of_range}

-- The exponent gives the power that b gives.
abbrev pub SamePower : ℤ → ℤ → ℕ → Type 0
SamePower a (pos n) e = int_pow a e ≡ int_pow a n
SamePower a (negsuc n) e = ⊥

one_power : (n : ℕ) → 1 ^ n ≡ 1
one_power zero = pow-zero 1
one_power (suc n) = let h : 1 ^ n ≡ 1 = one_power n in omega (arith, pow-suc 1 n, h)

zero_power : (n : ℕ) → 0 < n → 0 ^ n ≡ 0
zero_power zero h = absurd (omega arith)
zero_power (suc n) h = omega (arith, pow-suc 0 n)

-- The powers of 0, 1 and -1.
pub same_unit : (a b : ℤ) (e : ℕ) → negsuc 0 ≤ℤ a → a ≤ℤ pos 1 → pos 128 ≤ℤ b → pos e ≡ pos 2 +ℤ int_rem b (pos 2) → SamePower a b e
same_unit a (negsuc n) e lo hi big h = absurd (omega (arith, ints))
same_unit (pos zero) (pos n) e lo hi big h =
    let some : 0 < e = omega (arith, ints) in
    let many : 0 < n = omega (arith, ints) in
    ap pos (zero_power e some ∙ sym (zero_power n many))
same_unit (pos (suc zero)) (pos n) e lo hi big h = ap pos (one_power e ∙ sym (one_power n))
same_unit (pos (suc (suc a))) (pos n) e lo hi big h = absurd (omega (arith, ints))
same_unit (negsuc zero) (pos n) e lo hi big h =
    let parity : e % 2 ≡ n % 2 = omega (arith, ints, h) in
    ap (λ r. cond (r == 0) (pos (1 ^ e)) (neg_ℤ (pos (1 ^ e)))) parity ∙ ap (λ s. cond (n % 2 == 0) (pos s) (neg_ℤ (pos s))) (one_power e ∙ sym (one_power n))
same_unit (negsuc (suc a)) (pos n) e lo hi big h = absurd (omega (arith, ints))

pub power_is : (k : Kind) (a b : ℤ) (e : ℕ) → SamePower a b e → within k Overflow (int_pow a e) ≡ Arith Pow k a b
power_is k a (pos n) e h = ap (λ z. within k Overflow z) h
power_is k a (negsuc n) e h = absurd h

grows : (a n : ℕ) → 2 ≤ a → 128 ≤ n → 2 ^ 128 ≤ a ^ n
grows a n two big =
    let base : 2 ^ n ≤ a ^ n = pow-le-pow_left two n in
    let least : 2 ^ 128 ≤ 2 ^ n = pow_mono big in
    omega (arith, base, least)

signed_out : (k : Kind) (m : ℕ) (t : Bool) → 2 ^ 128 ≤ m → InRange k (cond t (pos m) (neg_ℤ (pos m))) → ⊥
signed_out k m true big r = let b = in_bounds k (pos m) r in omega (arith, ints, b.1)
signed_out k m false big r = let b = in_bounds k (neg_ℤ (pos m)) r in omega (arith, ints, b.0)

base_up : (a : ℕ) → (pos a <ℤ negsuc 0) ⊎ (pos 1 <ℤ pos a) → 2 ≤ a
base_up a (inl h) = absurd (omega (arith, ints))
base_up a (inr h) = omega (arith, ints)

base_down : (a : ℕ) → (negsuc a <ℤ negsuc 0) ⊎ (pos 1 <ℤ negsuc a) → 2 ≤ suc a
base_down a (inl h) = omega (arith, ints)
base_down a (inr h) = absurd (omega (arith, ints))

-- Another base at a great exponent leaves every range.
pub power_out : (k : Kind) (a b : ℤ) → (a <ℤ negsuc 0) ⊎ (pos 1 <ℤ a) → pos 128 ≤ℤ b → Err Overflow ≡ Arith Pow k a b
power_out k a (negsuc n) wide big = absurd (omega (arith, ints))
power_out k (pos a) (pos n) wide big =
    let m : 2 ^ 128 ≤ a ^ n = grows a n (base_up a wide) (omega (arith, ints)) in
    sym (out_of_range k Overflow (pos (a ^ n)) (λ r. signed_out k (a ^ n) true m r))
power_out k (negsuc a) (pos n) wide big =
    let m : 2 ^ 128 ≤ suc a ^ n = grows (suc a) n (base_down a wide) (omega (arith, ints)) in
    sym (out_of_range k Overflow _ (λ r. signed_out k (suc a ^ n) (n % 2 == 0) m r))

exponent_is : (b : ℤ) → pos 128 ≤ℤ b → pos (unsigned_abs (pos 2 +ℤ int_rem b (pos 2))) ≡ pos 2 +ℤ int_rem b (pos 2)
exponent_is (pos n) big = refl
exponent_is (negsuc n) big = absurd (omega (arith, ints))

pub parity_fits : (b : ℤ) → pos 128 ≤ℤ b → SFits w128 (int_rem b (pos 2)) × SFits w128 (pos 2 +ℤ int_rem b (pos 2))
parity_fits (pos n) big = (record { sfits = omega arith }, record { sfits = omega arith })
parity_fits (negsuc n) big = absurd (omega (arith, ints))

pub unit_power : (k : Kind) (a b : ℤ) → negsuc 0 ≤ℤ a → a ≤ℤ pos 1 → pos 128 ≤ℤ b → within k Overflow (int_pow a (unsigned_abs (pos 2 +ℤ int_rem b (pos 2)))) ≡ Arith Pow k a b
unit_power k a b lo hi big = power_is k a b (unsigned_abs (pos 2 +ℤ int_rem b (pos 2))) (same_unit a b (unsigned_abs (pos 2 +ℤ int_rem b (pos 2))) lo hi big (exponent_is b big))
