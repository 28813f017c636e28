-- Numbers of 64 bits with a sign, and their words.
use Rattle.std.proofs.Common.{◌≡◌, ℕ, suc, ◌-◌, ◌<◌, ◌^◌, Bool, true, false, not, Ok, Err, refl, sym, ap, ◌∙◌, arith, ℤ, pos, negsuc, ◌≤ℤ◌, ◌<ℤ◌}
use Rattle.std.specs.Prelude.{int_le}
use Rattle.std.specs.Int.{w64, cast_signed, cast_unsigned}
use Rattle.std.proofs.lemmas.Int.{ints, to_z-of_z, to_z_pos}
use Rattle.std.proofs.Math.Nat.{mod-eq_of_lt}
use mir.Val.{SFits}
use Rattle.mo_num.specs.declared.kind.Kind.{Kind}
use Rattle.mo_num.specs.declared.operator.NumTrap.{NumTrap}
use Rattle.mo_num.specs.Kinds.{least, greatest}
use Rattle.mo_num.specs.Arith.{within}
use Rattle.wasm_tree.specs.declared.types.ValueType.TheVariants.{I32, I64}
use Rattle.wasm_tree.specs.declared.op.Comparison.TheVariants as compare_op
use Rattle.wasm_tree.specs.Numeric.{low, flag, signed, compare}
use Rattle.wasm_tree.specs.Exec.{bits64}

abbrev pub Wide : ℤ → Type 0
Wide (pos n) = n < 2 ^ 63
Wide (negsuc n) = n < 2 ^ 63

pub long_is : (n : ℕ) → n < 2 ^ 64 → low I64 n ≡ n
long_is n h = mod-eq_of_lt h

pub signed_low : (n : ℕ) → n < 2 ^ 63 → signed I64 n ≡ pos n
signed_low n h = ap (cast_signed w64) (mod-eq_of_lt (omega (arith, h))) ∙ to_z_pos w64 n h

pub signed_high : (n : ℕ) → n < 2 ^ 63 → signed I64 (2 ^ 64 - 1 - n) ≡ negsuc n
signed_high n h =
    let e : 2 ^ 64 - 1 - n ≡ 2 ^ 64 - suc n = omega (arith, h) in
    ap (cast_signed w64) (mod-eq_of_lt (omega (arith, h)) ∙ e) ∙ to_z-of_z w64 (negsuc n) (record { sfits = h })

pub signed_back : (z : ℤ) → Wide z → signed I64 (bits64 z) ≡ z
signed_back (pos n) h = signed_low n h
signed_back (negsuc n) h = signed_high n h

pub bits_small : (z : ℤ) → Wide z → bits64 z < 2 ^ 64
bits_small (pos n) h = omega (arith, h)
bits_small (negsuc n) h = omega arith

pub wide_fits : (z : ℤ) → Wide z → SFits w64 z
wide_fits (pos n) h = record { sfits = h }
wide_fits (negsuc n) h = record { sfits = h }

pub unsigned_is : (z : ℤ) → Wide z → cast_unsigned w64 z ≡ bits64 z
unsigned_is (pos n) h = refl
unsigned_is (negsuc n) h = omega (arith, h)

pub wide_between : (z : ℤ) → negsuc (2 ^ 63 - 1) ≤ℤ z → z ≤ℤ pos (2 ^ 63 - 1) → Wide z
wide_between (pos n) lo hi = omega (arith, ints, hi)
wide_between (negsuc n) lo hi = omega (arith, ints, lo)

pub between_wide : (z : ℤ) → Wide z → (negsuc (2 ^ 63 - 1) ≤ℤ z) × (z ≤ℤ pos (2 ^ 63 - 1))
between_wide (pos n) h = (omega (arith, ints, h), omega (arith, ints, h))
between_wide (negsuc n) h = (omega (arith, ints, h), omega (arith, ints, h))

-- ---- ranges

module _ (k : Kind) (t : NumTrap) (z : ℤ) where
  pub within_range : least k ≤ℤ z → z ≤ℤ greatest k → within k t z ≡ Ok z
  within_range lo hi = by (int_le (least k) z) refl (int_le z (greatest k)) refl
    where
      by : (s : Bool) → int_le (least k) z ≡ s → (u : Bool) → int_le z (greatest k) ≡ u → within k t z ≡ Ok z
      by true p true q = rw (p, q)
      by true p false q = absurd (omega (arith, ints, q, hi))
      by false p u q = absurd (omega (arith, ints, p, lo))

  pub within_above : greatest k <ℤ z → within k t z ≡ Err t
  within_above hi = by (int_le (least k) z) refl (int_le z (greatest k)) refl
    where
      by : (s : Bool) → int_le (least k) z ≡ s → (u : Bool) → int_le z (greatest k) ≡ u → within k t z ≡ Err t
      by true p true q = absurd (omega (arith, ints, q, hi))
      by true p false q = rw (p, q)
      by false p u q = rw p

  pub within_under : z <ℤ least k → within k t z ≡ Err t
  within_under lo = by (int_le (least k) z) refl
    where
      by : (s : Bool) → int_le (least k) z ≡ s → within k t z ≡ Err t
      by true p = absurd (omega (arith, ints, p, lo))
      by false p = rw p

-- ---- tests of two truth values

pub unequal_flags : (s t : Bool) → s ≡ t → compare I32 compare_op.Ne (flag s) (flag t) ≡ flag false
unequal_flags true t e = ap (λ t. compare I32 compare_op.Ne 1 (flag t)) (sym e)
unequal_flags false t e = ap (λ t. compare I32 compare_op.Ne 0 (flag t)) (sym e)

pub equal_flags : (s t : Bool) → s ≡ not t → compare I32 compare_op.Ne (flag s) (flag t) ≡ flag true
equal_flags s true e = ap (λ s. compare I32 compare_op.Ne (flag s) 1) e
equal_flags s false e = ap (λ s. compare I32 compare_op.Ne (flag s) 0) e
