-- Wrapping goes by whole turns of the kind's width.
use Rattle.std.proofs.Common.{◌≡◌, ℕ, ◌<◌, arith, ℤ, pos, negsuc, ◌+ℤ◌, ◌-ℤ◌, ◌*ℤ◌, ◌≤ℤ◌, ◌<ℤ◌}
use Rattle.std.specs.Int.{int_div_euclid, int_rem_euclid}
use Rattle.std.proofs.lemmas.Int.{ints}
use Rattle.mo_num.specs.declared.kind.Kind.{Kind}
use Rattle.mo_num.specs.Kinds.{least, greatest, modulus}
use Rattle.mo_num.specs.Arith.{IsWrapped}
use Rattle.mo_num.proofs.Ranges.{spans}
use Rattle.mo_num.proofs.Wrapping.{some_values, turned}
use Rattle.mo_values.specs.Numbers.{wrapped}

not_below : (z : ℤ) (m : ℕ) → 0 < m → pos 0 ≤ℤ int_rem_euclid z (pos m)
not_below (pos a) m some = omega (arith, ints)
not_below (negsuc a) m some = omega (arith, ints)

below : (z : ℤ) (m : ℕ) → 0 < m → int_rem_euclid z (pos m) <ℤ pos m
below (pos a) m some = omega (arith, ints)
below (negsuc a) m some = omega (arith, ints)

shifted : (n l r t : ℤ) → (n -ℤ l) ≡ (r +ℤ t) → n ≡ ((l +ℤ r) +ℤ t)
shifted n l r t e = omega (arith, ints, e)

in_range : (l g r : ℤ) (m : ℕ) → pos 0 ≤ℤ r → r <ℤ pos m → (l +ℤ pos m) ≡ (g +ℤ pos 1) → (l ≤ℤ (l +ℤ r)) × ((l +ℤ r) ≤ℤ g)
in_range l g r m lo hi e = (omega (arith, ints, lo), omega (arith, ints, hi, e))

pub is_wrapped : (k : Kind) (n : ℤ) → IsWrapped k n (wrapped k n)
is_wrapped k n =
    let z = n -ℤ least k in
    let some : 0 < modulus k = some_values k in
    record {
      in_range = in_range (least k) (greatest k) (int_rem_euclid z (pos (modulus k))) (modulus k) (not_below z (modulus k) some) (below z (modulus k) some) (spans k).2;
      turns = int_div_euclid z (pos (modulus k));
      congruent = shifted n (least k) (int_rem_euclid z (pos (modulus k))) (int_div_euclid z (pos (modulus k)) *ℤ pos (modulus k)) (turned z (modulus k) some);
    }
