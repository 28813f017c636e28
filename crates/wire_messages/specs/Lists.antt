-- The instructions of functions that reply, as the code holds them.
use Rattle.std.specs.Prelude.{ℕ, suc, List, [], ◌∷◌, ◌++◌, Some, pos}
use Rattle.wasm_tree.specs.declared.types.ValueType.TheVariants.{I32}
use Rattle.wasm_tree.specs.declared.op.BinaryOperator.TheVariants.{Add}
use Rattle.wasm_tree.specs.declared.op.LoadKind.TheVariants as load
use Rattle.wasm_tree.specs.declared.op.StoreKind.TheVariants as store
use Rattle.low_ir.specs.declared.op.LowOp.{LowOp}
use Rattle.low_ir.specs.declared.op.LowOp.TheVariants as op
use Rattle.low_ir.specs.declared.op.Operand.TheVariants.{Local, Word}
use Rattle.low_ir.specs.declared.op.Operation.TheVariants.{Binary, Load}
use Rattle.wire_messages.specs.declared.column.Wired.{Wired}
use Rattle.wire_messages.specs.declared.column.Wired.TheVariants.{Number, Truth, Unit as Nothing}
use Rattle.wire_messages.specs.Replies.{writes_kind, writes_truth}

abbrev pub header_ops : List ℕ → ℕ → List LowOp
header_ops [] i = []
header_ops (b ∷ bs) i = op.Store store.I32To8 (Local 0) i (Word (pos b)) ∷ header_ops bs (suc i)

abbrev pub next_ops : List LowOp
next_ops = op.Set 1 (Binary I32 Add (Local 1) (Word (pos 8))) ∷ []

abbrev pub value_ops : ℕ → List LowOp
value_ops writes = op.Set 2 (Load load.I64 (Local 1) 0) ∷ op.Argument (Local 0) ∷ op.Argument (Local 2) ∷ op.Call (Some 0) writes ∷ next_ops

abbrev pub wired_ops : ℕ → Wired → List LowOp
wired_ops first (Number k) = value_ops (writes_kind first k)
wired_ops first Truth = value_ops (writes_truth first)
wired_ops first Nothing = next_ops

abbrev pub values_ops : ℕ → List Wired → List LowOp
values_ops first [] = []
values_ops first (w ∷ ws) = wired_ops first w ++ values_ops first ws
