-- The codes of numbers go inline.
use Rattle.std.proofs.Common.{◌≡◌, true, refl}
use Rattle.mo_num.specs.declared.kind.Kind.{Kind}
use Rattle.mo_num.specs.declared.kind.Kind.TheVariants.{Nat, Int, Nat8, Nat16, Nat32, Nat64, Int8, Int16, Int32, Int64}
use Rattle.mo_num.specs.declared.operator.Operator.{Operator}
use Rattle.mo_num.specs.declared.operator.Operator.TheVariants as operator
use Rattle.mo_values.specs.declared.operation.Wrapping.{Wrapping}
use Rattle.mo_values.specs.Numbers.{has_width}
use Rattle.low_ir.specs.declared.op.Operand.TheVariants.{Local}
use Rattle.low_ir.specs.Tree.{Return}
use Rattle.number_routines.specs.declared.places.TrapPlaces.{TrapPlaces}
use Rattle.number_routines.specs.Codes.{calculate, negate, wrap}
use Rattle.number_routines.specs.Laws.{IsStraight}
use Rattle.number_lines.specs.Laws.{goes, result_of_two, NumbersGoInline}
use Rattle.std.specs.Prelude.{Some}

calculated : (at : TrapPlaces) (o : Operator) (k : Kind) → IsStraight o → goes 2 7 (calculate at 2 3 4 5 6 o k (Local 0) (Local 1) result_of_two) ≡ true
calculated at operator.Add Nat is = refl
calculated at operator.Add Int is = refl
calculated at operator.Add Nat8 is = refl
calculated at operator.Add Nat16 is = refl
calculated at operator.Add Nat32 is = refl
calculated at operator.Add Nat64 is = refl
calculated at operator.Add Int8 is = refl
calculated at operator.Add Int16 is = refl
calculated at operator.Add Int32 is = refl
calculated at operator.Add Int64 is = refl
calculated at operator.Sub Nat is = refl
calculated at operator.Sub Int is = refl
calculated at operator.Sub Nat8 is = refl
calculated at operator.Sub Nat16 is = refl
calculated at operator.Sub Nat32 is = refl
calculated at operator.Sub Nat64 is = refl
calculated at operator.Sub Int8 is = refl
calculated at operator.Sub Int16 is = refl
calculated at operator.Sub Int32 is = refl
calculated at operator.Sub Int64 is = refl
calculated at operator.Mul Nat is = refl
calculated at operator.Mul Int is = refl
calculated at operator.Mul Nat8 is = refl
calculated at operator.Mul Nat16 is = refl
calculated at operator.Mul Nat32 is = refl
calculated at operator.Mul Nat64 is = refl
calculated at operator.Mul Int8 is = refl
calculated at operator.Mul Int16 is = refl
calculated at operator.Mul Int32 is = refl
calculated at operator.Mul Int64 is = refl
calculated at operator.Div Nat is = refl
calculated at operator.Div Int is = refl
calculated at operator.Div Nat8 is = refl
calculated at operator.Div Nat16 is = refl
calculated at operator.Div Nat32 is = refl
calculated at operator.Div Nat64 is = refl
calculated at operator.Div Int8 is = refl
calculated at operator.Div Int16 is = refl
calculated at operator.Div Int32 is = refl
calculated at operator.Div Int64 is = refl
calculated at operator.Rem Nat is = refl
calculated at operator.Rem Int is = refl
calculated at operator.Rem Nat8 is = refl
calculated at operator.Rem Nat16 is = refl
calculated at operator.Rem Nat32 is = refl
calculated at operator.Rem Nat64 is = refl
calculated at operator.Rem Int8 is = refl
calculated at operator.Rem Int16 is = refl
calculated at operator.Rem Int32 is = refl
calculated at operator.Rem Int64 is = refl
calculated at operator.Pow k is = absurd is

negated : (at : TrapPlaces) (k : Kind) → goes 1 6 (negate at 1 2 3 4 5 k (Local 0) (Return (Some (Local 1)))) ≡ true
negated at Nat = refl
negated at Int = refl
negated at Nat8 = refl
negated at Nat16 = refl
negated at Nat32 = refl
negated at Nat64 = refl
negated at Int8 = refl
negated at Int16 = refl
negated at Int32 = refl
negated at Int64 = refl

wrapped : (w : Wrapping) (k : Kind) → has_width k ≡ true → goes 2 7 (wrap 2 w k (Local 0) (Local 1) result_of_two) ≡ true
wrapped w Nat wide = absurd (cc wide)
wrapped w Int wide = absurd (cc wide)
wrapped w Nat8 wide = refl
wrapped w Nat16 wide = refl
wrapped w Nat32 wide = refl
wrapped w Nat64 wide = refl
wrapped w Int8 wide = refl
wrapped w Int16 wide = refl
wrapped w Int32 wide = refl
wrapped w Int64 wide = refl

pub numbers_inline : NumbersGoInline
numbers_inline = (calculated, negated, wrapped, λ o k. refl, refl)
