-- Numbers modulo the width of a kind.
use Rattle.std.proofs.Common.{◌≡◌, ltb, false, ℕ, suc, ◌-◌, ◌^◌, ◌<◌, ◌≤◌, ◌%◌, arith, refl, sym, ap, ◌∙◌, ℤ, pos, negsuc, ◌+ℤ◌, ◌-ℤ◌, ◌*ℤ◌, ◌≤ℤ◌, ◌<ℤ◌}
use Rattle.std.specs.Prelude.{unsigned_abs}
use Rattle.std.specs.Int.{int_div_euclid, int_rem_euclid, int_wrap, cast_signed}
use Rattle.std.proofs.lemmas.Int.{ints, to_z_pos}
use Rattle.std.proofs.lemmas.Bool.{cases_lt, le-ltb}
use Rattle.std.proofs.Common.{inl, inr}
use Rattle.std.proofs.Math.IntN.{+ℤ_one, suc_ℤ-*ℤ}
use mir.Syntax.{w128}
use Rattle.mo_num.specs.declared.kind.Kind.{Kind}
use Rattle.mo_num.specs.declared.kind.Kind.TheVariants.{Nat, Int, Nat8, Nat16, Nat32, Nat64, Int8, Int16, Int32, Int64}
use Rattle.mo_num.specs.Kinds.{greatest, modulus}
use Rattle.mo_num.specs.Arith.{IsWrapped}
use Rattle.mo_num.proofs.Ranges.{spans}

pub some_values : (k : Kind) → 0 < modulus k
some_values Nat = omega arith
some_values Int = omega arith
some_values Nat8 = omega arith
some_values Nat16 = omega arith
some_values Nat32 = omega arith
some_values Nat64 = omega arith
some_values Int8 = omega arith
some_values Int16 = omega arith
some_values Int32 = omega arith
some_values Int64 = omega arith

-- The remainder and the quotient make the number.
pub turned : (z : ℤ) (m : ℕ) → 0 < m → z ≡ int_rem_euclid z (pos m) +ℤ (int_div_euclid z (pos m) *ℤ pos m)
turned (pos a) m some = omega (arith, ints)
turned (negsuc a) m some = omega (arith, ints)

pub wrapped_low : (k : Kind) (n low : ℤ) → low ≡ int_rem_euclid n (pos (modulus k)) → 0 < modulus k → pos 0 ≤ℤ low → low ≤ℤ greatest k → IsWrapped k n low
wrapped_low k n low e some lo hi =
    let s = spans k in
    record {
      in_range = (omega (arith, ints, s.0), hi);
      turns = int_div_euclid n (pos (modulus k));
      congruent = turned n (modulus k) some ∙ ap (λ r. r +ℤ (int_div_euclid n (pos (modulus k)) *ℤ pos (modulus k))) (sym e);
    }

one_turn : (n low d : ℤ) (m : ℕ) → n ≡ low +ℤ (d *ℤ pos m) → n ≡ (low -ℤ pos m) +ℤ ((d +ℤ pos 1) *ℤ pos m)
one_turn n low d m e =
    let one_more : (d +ℤ pos 1) *ℤ pos m ≡ (d *ℤ pos m) +ℤ pos m = ap (λ x. x *ℤ pos m) (+ℤ_one d) ∙ suc_ℤ-*ℤ d (pos m) in
    omega (arith, ints, one_more)

pub wrapped_high : (k : Kind) (n low : ℤ) → low ≡ int_rem_euclid n (pos (modulus k)) → 0 < modulus k → greatest k <ℤ low → low <ℤ pos (modulus k) → IsWrapped k n (low -ℤ pos (modulus k))
wrapped_high k n low e some lo hi =
    let s = spans k in
    record {
      in_range = (omega (arith, ints, s.2), omega (arith, ints, s.1));
      turns = int_div_euclid n (pos (modulus k)) +ℤ pos 1;
      congruent = one_turn n low (int_div_euclid n (pos (modulus k))) (modulus k) (turned n (modulus k) some ∙ ap (λ r. r +ℤ (int_div_euclid n (pos (modulus k)) *ℤ pos (modulus k))) (sym e));
    }

-- What wrapping at 128 bits takes away is whole turns of 2^128.
cast_high : (m : ℕ) → 2 ^ 127 ≤ m → cast_signed w128 m ≡ negsuc (2 ^ 128 - suc m)
cast_high m high = let h : ltb m (2 ^ 127) ≡ false = le-ltb m (2 ^ 127) high in rw h

cast_turns : (m : ℕ) → m < 2 ^ 128 → (t : ℤ) × (pos m ≡ cast_signed w128 m +ℤ (t *ℤ pos (2 ^ 128)))
cast_turns m small = elim (cases_lt m (2 ^ 127)) [
  | inl low ↦ (pos 0, (let e : cast_signed w128 m ≡ pos m = to_z_pos w128 m low in rw e (omega (arith, ints))))
  | inr high ↦ (pos 1, (rw (cast_high m high) (omega (arith, ints))))
]

int_rem_natural : (z : ℤ) (m : ℕ) → 0 < m → (n : ℕ) × (n < m) × (int_rem_euclid z (pos m) ≡ pos n)
int_rem_natural (pos a) m some = (a % m, omega arith, refl)
int_rem_natural (negsuc a) m some = (m - 1 - a % m, omega arith, refl)

wrap_turns : (z : ℤ) → (t : ℤ) × (z ≡ int_wrap w128 z +ℤ (t *ℤ pos (2 ^ 128)))
unfolding int_wrap
wrap_turns z =
    let n : (n : ℕ) × (n < 2 ^ 128) × (int_rem_euclid z (pos (2 ^ 128)) ≡ pos n) = int_rem_natural z (2 ^ 128) (omega arith) in
    let t : (t : ℤ) × (pos n.0 ≡ cast_signed w128 n.0 +ℤ (t *ℤ pos (2 ^ 128))) = cast_turns n.0 n.1 in
    let e : z ≡ int_rem_euclid z (pos (2 ^ 128)) +ℤ (int_div_euclid z (pos (2 ^ 128)) *ℤ pos (2 ^ 128)) = turned z (2 ^ 128) (omega arith) in
    let w : int_wrap w128 z ≡ cast_signed w128 n.0 = ap (λ r. cast_signed w128 (unsigned_abs r)) n.2 in
    (int_div_euclid z (pos (2 ^ 128)) +ℤ t.0, omega (arith, ints, e, n.2, t.1, w))

-- The widths divide 2^128.
joined_turns : (k : Kind) (z n r s t : ℤ) → z ≡ n +ℤ (t *ℤ pos (2 ^ 128)) → n ≡ r +ℤ (s *ℤ pos (modulus k)) → (u : ℤ) × (z ≡ r +ℤ (u *ℤ pos (modulus k)))
joined_turns Nat z n r s t e f = (s +ℤ (t *ℤ pos (2 ^ 65)), omega (arith, ints))
joined_turns Int z n r s t e f = (s +ℤ (t *ℤ pos (2 ^ 64)), omega (arith, ints))
joined_turns Nat8 z n r s t e f = (s +ℤ (t *ℤ pos (2 ^ 120)), omega (arith, ints))
joined_turns Nat16 z n r s t e f = (s +ℤ (t *ℤ pos (2 ^ 112)), omega (arith, ints))
joined_turns Nat32 z n r s t e f = (s +ℤ (t *ℤ pos (2 ^ 96)), omega (arith, ints))
joined_turns Nat64 z n r s t e f = (s +ℤ (t *ℤ pos (2 ^ 64)), omega (arith, ints))
joined_turns Int8 z n r s t e f = (s +ℤ (t *ℤ pos (2 ^ 120)), omega (arith, ints))
joined_turns Int16 z n r s t e f = (s +ℤ (t *ℤ pos (2 ^ 112)), omega (arith, ints))
joined_turns Int32 z n r s t e f = (s +ℤ (t *ℤ pos (2 ^ 96)), omega (arith, ints))
joined_turns Int64 z n r s t e f = (s +ℤ (t *ℤ pos (2 ^ 64)), omega (arith, ints))

-- A number wrapped at 128 bits first wraps to the same value.
pub rewrapped : (k : Kind) (z n r : ℤ) → n ≡ int_wrap w128 z → IsWrapped k n r → IsWrapped k z r
rewrapped k z n r e h =
    let w : (t : ℤ) × (z ≡ int_wrap w128 z +ℤ (t *ℤ pos (2 ^ 128))) = wrap_turns z in
    let j : (u : ℤ) × (z ≡ r +ℤ (u *ℤ pos (modulus k))) = joined_turns k z n r h.turns w.0 (w.1 ∙ ap (λ x. x +ℤ (w.0 *ℤ pos (2 ^ 128))) (sym e)) h.congruent in
    record { in_range = h.in_range; turns = j.0; congruent = j.1 }
