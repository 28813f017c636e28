-- The instructions of functions that read arguments, as the code holds them.
use Rattle.std.specs.Prelude.{ℕ, List, [], ◌∷◌, ◌++◌, Some, ℤ}
use Rattle.wasm_tree.specs.declared.types.ValueType.TheVariants.{I32, I64}
use Rattle.wasm_tree.specs.declared.op.Comparison.TheVariants.{Ne}
use Rattle.wasm_tree.specs.declared.op.LoadKind.TheVariants as load
use Rattle.low_ir.specs.declared.op.LowOp.{LowOp}
use Rattle.low_ir.specs.declared.op.Operand.TheVariants.{Local, Long}
use Rattle.low_ir.specs.declared.op.Operation.TheVariants.{IsZero, Compare, Load}
use Rattle.low_ir.specs.Flat.{flat}
use Rattle.low_ir.specs.Tree.{Stop, Set, Call}
use Rattle.wire_tables.specs.References.{unless, ref}
use Rattle.wire_messages.specs.declared.column.Wired.{Wired}
use Rattle.wire_messages.specs.Arguments.{is_wired, take_wired}

abbrev pub table_ops : ℕ → List LowOp
table_ops table = flat (Call (Some 0) table (Local 0 ∷ Local 1 ∷ Local 2 ∷ []) (Set 6 (IsZero I32 (Local 0)) (unless (Set 8 (Load load.I64 (Local 2) 0) Stop))))

abbrev pub count_ops : ℤ → List LowOp
count_ops count = flat (Set 6 (Compare I64 Ne (Local 3) (Long count)) (unless Stop))

unfoldable pub type_ops : Wired → List LowOp
type_ops w = flat (ref (is_wired w Stop))

abbrev pub types_ops : List Wired → List LowOp
types_ops [] = []
types_ops (w ∷ ws) = type_ops w ++ types_ops ws

abbrev pub take_ops : ℕ → Wired → List LowOp
take_ops first w = flat (take_wired first w Stop)

abbrev pub takes_ops : ℕ → List Wired → List LowOp
takes_ops first [] = []
takes_ops first (w ∷ ws) = take_ops first w ++ takes_ops first ws
