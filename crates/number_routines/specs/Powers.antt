-- Powers in low code, by squaring. Locals: the base, then a word; the exponent; the result; the power of the base that is next; the
-- greatest result; a test; and whether the result is negative.
use Rattle.std.specs.Prelude.{ℕ, Some, ℤ, pos, negsuc}
use Rattle.mo_num.specs.declared.kind.Kind.{Kind}
use Rattle.mo_num.specs.declared.kind.Kind.TheVariants.{Nat, Int, Nat8, Nat16, Nat32, Nat64, Int8, Int16, Int32, Int64}
use Rattle.mo_num.specs.declared.operator.NumTrap.TheVariants.{Overflow}
use Rattle.mo_num.specs.Kinds.{greatest}
use Rattle.wasm_tree.specs.declared.types.ValueType.TheVariants.{I64}
use Rattle.wasm_tree.specs.declared.op.Comparison.TheVariants.{LtS}
use Rattle.wasm_tree.specs.declared.op.BinaryOperator.TheVariants.{Add, Sub, Mul, And, ShrU}
use Rattle.wasm_tree.specs.declared.op.Conversion.TheVariants.{Wrap, ExtendU}
use Rattle.low_ir.specs.declared.op.Operand.TheVariants.{Local, Long}
use Rattle.low_ir.specs.declared.op.Operation.TheVariants.{Copy, IsZero, Compare, Binary, Convert}
use Rattle.low_ir.specs.Tree.{Code, Stop, Return, Branch, Set, Block, Loop, If, BranchIf, Function}
use Rattle.number_routines.specs.declared.places.TrapPlaces.{TrapPlaces}
use Rattle.number_routines.specs.Codes.{unless, product_within}
use Rattle.number_routines.specs.Lines.{spare}

-- The size of the base, whether the result is negative, and the greatest size that it may have.
abbrev pub sized : ℤ → Code → Code
sized last rest =
    Set 3 (Copy (Local 0))
    (Set 6 (Compare I64 LtS (Local 0) (Long (pos 0)))
    (If (Local 6) (Set 3 (Binary I64 Sub (Long (pos 0)) (Local 0)) (Set 4 (Binary I64 And (Local 1) (Long (pos 1))) (Set 6 (Convert Wrap (Local 4)) Stop))) Stop
    (Set 4 (Convert ExtendU (Local 6))
    (Set 4 (Binary I64 Add (Local 4) (Long last)) rest))))

abbrev pub with_sign : Code
with_sign = If (Local 6) (Set 2 (Binary I64 Sub (Long (pos 0)) (Local 2)) Stop) Stop (Return (Some (Local 2)))

module _ (at : TrapPlaces) where
  -- What follows where the exponent was halved: the next square, unless the exponent is 0.
  abbrev pub squares : Code
  squares =
      Set 1 (Binary I64 ShrU (Local 1) (Long (pos 1)))
      (Set 5 (IsZero I64 (Local 1))
      (BranchIf (Local 5) 1
      (product_within at 0 3 4 5 6 (Local 4) (Local 3) (Local 3) (Set 3 (Binary I64 Mul (Local 3) (Local 3)) (Branch 0)))))

  abbrev pub multiplies : Code
  multiplies = product_within at 0 3 4 5 6 (Local 4) (Local 2) (Local 3) (Set 2 (Binary I64 Mul (Local 2) (Local 3)) Stop)

  -- One binary digit of the exponent.
  abbrev pub digit : Code
  digit = Set 0 (Binary I64 And (Local 1) (Long (pos 1))) (Set 5 (Convert Wrap (Local 0)) (If (Local 5) multiplies Stop squares))

  abbrev pub raised : Code → Code
  raised rest = Set 2 (Copy (Long (pos 1))) (Block (Set 5 (IsZero I64 (Local 1)) (BranchIf (Local 5) 0 (Loop digit Stop))) rest)

  abbrev pub natural_power : ℤ → Code
  natural_power most = Set 3 (Copy (Local 0)) (Set 4 (Copy (Long most)) (raised (Return (Some (Local 2)))))

  abbrev pub signed_power : ℤ → Code
  signed_power last = Set 5 (Compare I64 LtS (Local 1) (Long (pos 0))) (unless at 5 Overflow (sized last (raised with_sign)))

  abbrev pub power : Kind → Code
  power Nat = natural_power (greatest Nat)
  power Nat8 = natural_power (greatest Nat8)
  power Nat16 = natural_power (greatest Nat16)
  power Nat32 = natural_power (greatest Nat32)
  -- the word of 2 ^ 64 - 1
  power Nat64 = natural_power (negsuc 0)
  power Int = signed_power (greatest Int)
  power Int8 = signed_power (greatest Int8)
  power Int16 = signed_power (greatest Int16)
  power Int32 = signed_power (greatest Int32)
  power Int64 = signed_power (greatest Int64)

abbrev pub power_routine : ℕ → TrapPlaces → Kind → Function
power_routine signature at k = record { signature = signature; locals = spare; body = power at k }
