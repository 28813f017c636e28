-- Arithmetic on bounded numbers: Motoko language manual, sections "Binary operators" and "Unary operators".
use Rattle.std.specs.Prelude.{◌≡◌, zero, suc, ℤ, pos, negsuc, neg_ℤ, ◌+ℤ◌, ◌-ℤ◌, ◌*ℤ◌, int_le, int_div, int_rem, ◌&&◌, if◌then◌else◌, Result, Ok, Err}
use Rattle.std.specs.Int.{int_pow}
use Rattle.mo_num.specs.declared.kind.Kind.{Kind}
use Rattle.mo_num.specs.declared.kind.Kind.TheVariants.{Nat, Int, Nat8, Nat16, Nat32, Nat64, Int8, Int16, Int32, Int64}
use Rattle.mo_num.specs.declared.operator.Operator.{Operator}
use Rattle.mo_num.specs.declared.operator.Operator.TheVariants.{Add, Sub, Mul, Div, Rem, Pow}
use Rattle.mo_num.specs.declared.operator.NumTrap.{NumTrap}
use Rattle.mo_num.specs.declared.operator.NumTrap.TheVariants.{Overflow, Underflow, DivideByZero}
use Rattle.mo_num.specs.Kinds.{least, greatest, modulus, InRange}

-- The number where it is a value of the kind, else the trap.
abbrev pub within : Kind → NumTrap → ℤ → Result ℤ NumTrap
within kind trap n = if int_le (least kind) n && int_le n (greatest kind) then Ok n else Err trap

-- The trap of a difference that is no value of the kind.
abbrev pub below : Kind → NumTrap
below Nat = Underflow
below Int = Overflow
below Nat8 = Overflow
below Nat16 = Overflow
below Nat32 = Overflow
below Nat64 = Overflow
below Int8 = Overflow
below Int16 = Overflow
below Int32 = Overflow
below Int64 = Overflow

-- What stands where the divisor is not 0.
abbrev pub divided : ℤ → Result ℤ NumTrap → Result ℤ NumTrap
divided (pos zero) answer = Err DivideByZero
divided (pos (suc n)) answer = answer
divided (negsuc n) answer = answer

-- The exact result of an operator on whole numbers where it is a value of the kind, else the trap. A quotient is
-- rounded toward zero, and the remainder has the dividend's sign.
abbrev pub Arith : Operator → Kind → ℤ → ℤ → Result ℤ NumTrap
Arith Add kind a b = within kind Overflow (a +ℤ b)
Arith Sub kind a b = within kind (below kind) (a -ℤ b)
Arith Mul kind a b = within kind Overflow (a *ℤ b)
Arith Div kind a b = divided b (within kind Overflow (int_div a b))
Arith Rem kind a b = divided b (within kind Overflow (int_rem a b))
Arith Pow kind a (pos n) = within kind Overflow (int_pow a n)
Arith Pow kind a (negsuc n) = Err Overflow

-- The number with the other sign.
abbrev pub Negation : Kind → ℤ → Result ℤ NumTrap
Negation kind a = within kind Overflow (neg_ℤ a)

-- The value of the kind that differs from the exact result by whole turns of its width.
pub record IsWrapped (kind : Kind) (exact n : ℤ) : Type 0 where
  pub in_range : InRange kind n
  pub turns : ℤ
  pub congruent : exact ≡ n +ℤ (turns *ℤ pos (modulus kind))
