-- The kinds' ranges among the numbers of 128 bits, and what the operators give there.
use Rattle.std.proofs.Common.{◌≡◌, ℕ, zero, suc, ◌-◌, ◌^◌, ◌≤◌, ◌/◌, Bool, true, false, arith, rules, refl, ap, ℤ, pos, negsuc, neg_ℤ, ◌+ℤ◌, ◌-ℤ◌, ◌≤ℤ◌, Err, Result}
use Rattle.std.specs.Prelude.{int_le, int_div}
use Rattle.std.proofs.lemmas.Int.{ints}
use mir.Syntax.{w128}
use mir.Val.{SFits, of_z}
use native.Mathlib.Nat.{div-le_self}
use Rattle.mo_num.specs.declared.kind.Kind.{Kind}
use Rattle.mo_num.specs.declared.kind.Kind.TheVariants.{Nat, Int, Nat8, Nat16, Nat32, Nat64, Int8, Int16, Int32, Int64}
use Rattle.mo_num.specs.declared.operator.NumTrap.{NumTrap}
use Rattle.mo_num.specs.Kinds.{least, greatest, modulus, InRange}
use Rattle.mo_num.specs.Arith.{within, divided}

-- Every kind lies between -2^63 and 2^64 - 1.
pub bounds : (k : Kind) → (negsuc (2 ^ 63 - 1) ≤ℤ least k) × (greatest k ≤ℤ pos (2 ^ 64 - 1))
bounds Nat = (omega (arith, ints), omega (arith, ints))
bounds Int = (omega (arith, ints), omega (arith, ints))
bounds Nat8 = (omega (arith, ints), omega (arith, ints))
bounds Nat16 = (omega (arith, ints), omega (arith, ints))
bounds Nat32 = (omega (arith, ints), omega (arith, ints))
bounds Nat64 = (omega (arith, ints), omega (arith, ints))
bounds Int8 = (omega (arith, ints), omega (arith, ints))
bounds Int16 = (omega (arith, ints), omega (arith, ints))
bounds Int32 = (omega (arith, ints), omega (arith, ints))
bounds Int64 = (omega (arith, ints), omega (arith, ints))

pub in_bounds : (k : Kind) (n : ℤ) → InRange k n → (negsuc (2 ^ 63 - 1) ≤ℤ n) × (n ≤ℤ pos (2 ^ 64 - 1))
in_bounds k n r = let b = bounds k in (omega (arith, ints, b.0, r.0), omega (arith, ints, b.1, r.1))

-- Its least value, its greatest one and their number.
pub spans : (k : Kind) → (least k ≤ℤ pos 0) × (pos 0 ≤ℤ greatest k) × (least k +ℤ pos (modulus k) ≡ greatest k +ℤ pos 1)
spans Nat = (omega (arith, ints), omega (arith, ints), refl)
spans Int = (omega (arith, ints), omega (arith, ints), refl)
spans Nat8 = (omega (arith, ints), omega (arith, ints), refl)
spans Nat16 = (omega (arith, ints), omega (arith, ints), refl)
spans Nat32 = (omega (arith, ints), omega (arith, ints), refl)
spans Nat64 = (omega (arith, ints), omega (arith, ints), refl)
spans Int8 = (omega (arith, ints), omega (arith, ints), refl)
spans Int16 = (omega (arith, ints), omega (arith, ints), refl)
spans Int32 = (omega (arith, ints), omega (arith, ints), refl)
spans Int64 = (omega (arith, ints), omega (arith, ints), refl)

pub fits_between : (z : ℤ) → negsuc (2 ^ 127 - 1) ≤ℤ z → z ≤ℤ pos (2 ^ 127 - 1) → SFits w128 z
fits_between (pos n) lo hi = record { sfits = omega (arith, ints) }
fits_between (negsuc n) lo hi = record { sfits = omega (arith, ints) }

pub fits_in_range : (k : Kind) (n : ℤ) → InRange k n → SFits w128 n
fits_in_range k n r = let b = in_bounds k n r in fits_between n (omega (arith, ints, b.0)) (omega (arith, ints, b.1))

pub fits_sum : (k : Kind) (a b : ℤ) → InRange k a → InRange k b → SFits w128 (a +ℤ b)
fits_sum k a b p q = let x = in_bounds k a p in let y = in_bounds k b q in fits_between (a +ℤ b) (omega (arith, ints, x.0, x.1, y.0, y.1)) (omega (arith, ints, x.0, x.1, y.0, y.1))

pub fits_difference : (k : Kind) (a b : ℤ) → InRange k a → InRange k b → SFits w128 (a -ℤ b)
fits_difference k a b p q = let x = in_bounds k a p in let y = in_bounds k b q in fits_between (a -ℤ b) (omega (arith, ints, x.0, x.1, y.0, y.1)) (omega (arith, ints, x.0, x.1, y.0, y.1))

pub fits_negation : (k : Kind) (a : ℤ) → InRange k a → SFits w128 (neg_ℤ a)
fits_negation k a p = let x = in_bounds k a p in fits_between (neg_ℤ a) (omega (arith, ints, x.0, x.1)) (omega (arith, ints, x.0, x.1))

-- How the machine negates.
pub from_zero : (a : ℤ) → pos 0 +ℤ neg_ℤ a ≡ neg_ℤ a
from_zero a = omega (arith, ints)

-- The divisor is not 0.
pub divided_other : (b : ℤ) (answer : Result ℤ NumTrap) → (b ≡ pos 0 → ⊥) → divided b answer ≡ answer
divided_other (pos zero) answer h = absurd (h refl)
divided_other (pos (suc n)) answer h = refl
divided_other (negsuc n) answer h = refl

pub nonzero : (b : ℤ) → (of_z w128 b ≡ 0 → ⊥) → b ≡ pos 0 → ⊥
nonzero b h e = h (ap (of_z w128) e)

-- A whole quotient has no greater size than the dividend.
quotient_small : (a b : ℕ) → a / b ≤ a
quotient_small a b = search (rules, div-le_self)

pub fits_quotient : (k : Kind) (a b : ℤ) → InRange k a → SFits w128 (int_div a b)
fits_quotient k (pos m) (pos n) p = let x = in_bounds k (pos m) p in let q : m / n ≤ m = quotient_small m n in fits_between _ (omega (arith, ints, x.0, x.1)) (omega (arith, ints, x.0, x.1))
fits_quotient k (pos m) (negsuc n) p = let x = in_bounds k (pos m) p in let q : m / suc n ≤ m = quotient_small m (suc n) in fits_between _ (omega (arith, ints, x.0, x.1)) (omega (arith, ints, x.0, x.1))
fits_quotient k (negsuc m) (pos n) p = let x = in_bounds k (negsuc m) p in let q : suc m / n ≤ suc m = quotient_small (suc m) n in fits_between _ (omega (arith, ints, x.0, x.1)) (omega (arith, ints, x.0, x.1))
fits_quotient k (negsuc m) (negsuc n) p = let x = in_bounds k (negsuc m) p in let q : suc m / suc n ≤ suc m = quotient_small (suc m) (suc n) in fits_between _ (omega (arith, ints, x.0, x.1)) (omega (arith, ints, x.0, x.1))

-- No value of the kind, so the trap.
pub out_of_range : (k : Kind) (trap : NumTrap) (n : ℤ) → (InRange k n → ⊥) → within k trap n ≡ Err trap
out_of_range k trap n out = by (int_le (least k) n) refl (int_le n (greatest k)) refl
  where
    by : (s : Bool) → int_le (least k) n ≡ s → (t : Bool) → int_le n (greatest k) ≡ t → within k trap n ≡ Err trap
    by true p true q = absurd (out (grind (arith, ints), grind (arith, ints)))
    by true p false q = rw (p, q)
    by false p t q = rw p
