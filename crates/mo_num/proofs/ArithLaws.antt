-- What the definitions of arithmetic give.
use Rattle.std.proofs.Common.{◌≡◌, zero, suc, ◌<◌, Bool, true, false, cond, arith, sym, ap, subst, ◌∙◌, ℤ, pos, negsuc, ◌+ℤ◌, ◌*ℤ◌, Ok, Err, Result}
use Rattle.std.specs.Prelude.{int_le, ◌&&◌, unsigned_abs, int_div, int_rem}
use Rattle.std.proofs.lemmas.Int.{ints, quot-rem, rem_below}
use Rattle.mo_num.specs.declared.kind.Kind.{Kind}
use Rattle.mo_num.specs.declared.kind.Kind.TheVariants.{Nat, Int, Nat8, Nat16, Nat32, Nat64, Int8, Int16, Int32, Int64}
use Rattle.mo_num.specs.declared.operator.Operator.TheVariants.{Div, Rem}
use Rattle.mo_num.specs.declared.operator.NumTrap.{NumTrap}
use Rattle.mo_num.specs.declared.operator.NumTrap.TheVariants.{Overflow}
use Rattle.mo_num.specs.Kinds.{least, greatest}
use Rattle.mo_num.specs.Arith.{Arith, within, divided, IsWrapped}

within_value : (k : Kind) (trap : NumTrap) (n v : ℤ) → within k trap n ≡ Ok v → n ≡ v
within_value k trap n v e = by (int_le (least k) n && int_le n (greatest k)) e
  where
    by : (b : Bool) → cond {A = Result ℤ NumTrap} b (Ok n) (Err trap) ≡ Ok v → n ≡ v
    by true h = cc
    by false h = cc

divided_value : (b : ℤ) (answer : Result ℤ NumTrap) (v : ℤ) → divided b answer ≡ Ok v → (answer ≡ Ok v) × (0 < unsigned_abs b)
divided_value (pos zero) answer v e = cc
divided_value (pos (suc n)) answer v e = (e, omega arith)
divided_value (negsuc n) answer v e = (e, omega arith)

quotient_is : (k : Kind) (a b q : ℤ) → Arith Div k a b ≡ Ok q → int_div a b ≡ q
quotient_is k a b q e = within_value k Overflow (int_div a b) q (divided_value b (within k Overflow (int_div a b)) q e).0

pub remainder_is : (k : Kind) (a b r : ℤ) → Arith Rem k a b ≡ Ok r → (int_rem a b ≡ r) × (0 < unsigned_abs b)
remainder_is k a b r e = let d = divided_value b (within k Overflow (int_rem a b)) r e in (within_value k Overflow (int_rem a b) r d.0, d.1)

pub division_whole : (k : Kind) (a b q r : ℤ) → Arith Div k a b ≡ Ok q → Arith Rem k a b ≡ Ok r → a ≡ (q *ℤ b) +ℤ r
division_whole k a b q r e f = sym (quot-rem a b) ∙ ap (λ z. (z *ℤ b) +ℤ int_rem a b) (quotient_is k a b q e) ∙ ap (λ z. (q *ℤ b) +ℤ z) (remainder_is k a b r f).0

pub remainder_small : (k : Kind) (a b r : ℤ) → Arith Rem k a b ≡ Ok r → unsigned_abs r < unsigned_abs b
remainder_small k a b r e = let h = remainder_is k a b r e in subst (λ z. unsigned_abs z < unsigned_abs b) h.0 (rem_below a b h.1)

-- Two values of a kind that differ by whole turns are one.
pub wrapped_one : (k : Kind) (exact n m : ℤ) → IsWrapped k exact n → IsWrapped k exact m → n ≡ m
wrapped_one Nat exact n m h i = omega (arith, ints, h.in_range.0, h.in_range.1, i.in_range.0, i.in_range.1, h.congruent, i.congruent)
wrapped_one Int exact n m h i = omega (arith, ints, h.in_range.0, h.in_range.1, i.in_range.0, i.in_range.1, h.congruent, i.congruent)
wrapped_one Nat8 exact n m h i = omega (arith, ints, h.in_range.0, h.in_range.1, i.in_range.0, i.in_range.1, h.congruent, i.congruent)
wrapped_one Nat16 exact n m h i = omega (arith, ints, h.in_range.0, h.in_range.1, i.in_range.0, i.in_range.1, h.congruent, i.congruent)
wrapped_one Nat32 exact n m h i = omega (arith, ints, h.in_range.0, h.in_range.1, i.in_range.0, i.in_range.1, h.congruent, i.congruent)
wrapped_one Nat64 exact n m h i = omega (arith, ints, h.in_range.0, h.in_range.1, i.in_range.0, i.in_range.1, h.congruent, i.congruent)
wrapped_one Int8 exact n m h i = omega (arith, ints, h.in_range.0, h.in_range.1, i.in_range.0, i.in_range.1, h.congruent, i.congruent)
wrapped_one Int16 exact n m h i = omega (arith, ints, h.in_range.0, h.in_range.1, i.in_range.0, i.in_range.1, h.congruent, i.congruent)
wrapped_one Int32 exact n m h i = omega (arith, ints, h.in_range.0, h.in_range.1, i.in_range.0, i.in_range.1, h.congruent, i.congruent)
wrapped_one Int64 exact n m h i = omega (arith, ints, h.in_range.0, h.in_range.1, i.in_range.0, i.in_range.1, h.congruent, i.congruent)
