-- Code of a routine in the locals of a function, as a list.
use Rattle.std.specs.Prelude.{ℕ, List, [], ◌∷◌, ◌++◌, Some}
use Rattle.low_ir.specs.declared.op.LowOp.{LowOp}
use Rattle.low_ir.specs.declared.op.LowOp.TheVariants as op
use Rattle.low_ir.specs.Flat.{flat}
use Rattle.inlined_code.specs.Inlining.{Places, operand_at, operation_at}
use Rattle.operation_codes.specs.Codes.{settle}

module _ (at : Places) (to : ℕ) where
  -- its value is what is returned
  abbrev pub op_at : LowOp → List LowOp
  op_at (op.Set x o) = op.Set (at.write x) (operation_at at o) ∷ []
  op_at (op.Trap a b) = op.Trap (operand_at at a) (operand_at at b) ∷ []
  op_at (op.If a) = op.If (operand_at at a) ∷ []
  op_at op.Else = op.Else ∷ []
  op_at op.End = op.End ∷ []
  op_at (op.Return (Some a)) = flat (settle to (operand_at at a))
  op_at o = []

  abbrev pub ops_at : List LowOp → List LowOp
  ops_at [] = []
  ops_at (o ∷ os) = op_at o ++ ops_at os
