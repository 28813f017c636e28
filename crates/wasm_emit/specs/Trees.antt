-- The tree of emitted code.
use Rattle.std.specs.Prelude.{ℕ, List, [], ◌∷◌, Option, Some, None, negsuc}
use Rattle.wasm_tree.specs.declared.types.ValueType.{ValueType}
use Rattle.wasm_tree.specs.declared.types.ValueType.TheVariants.{I32, I64}
use Rattle.wasm_tree.specs.declared.op.Comparison.TheVariants.{Eq}
use Rattle.wasm_tree.specs.declared.op.Plain.{Plain}
use Rattle.wasm_tree.specs.declared.op.Plain.TheVariants as plain
use Rattle.wasm_tree.specs.Code as wasm
use Rattle.wasm_tree.specs.Rules.{load_align, store_align}
use Rattle.low_ir.specs.declared.op.Operand.{Operand}
use Rattle.low_ir.specs.declared.op.Operation.{Operation}
use Rattle.low_ir.specs.declared.op.Operation.TheVariants.{Copy, IsZero, Compare, Unary, Binary, Convert, Load, Global, Size}
use Rattle.low_ir.specs.Tree.{Code, Stop, Return, Branch, Trap, Set, SetGlobal, Store, Grow, GrowStable, Block, Loop, If, BranchIf, Call, CallIndirect}
use Rattle.low_ir.specs.Numbering.{stable_grow, host_trap}
use Rattle.wasm_emit.specs.Emit.{operand_plain}

abbrev pub push : Operand → wasm.Code → wasm.Code
push a k = wasm.Then (operand_plain a) k

abbrev pub push_all : List Operand → wasm.Code → wasm.Code
push_all [] k = k
push_all (a ∷ rest) k = push a (push_all rest k)

abbrev pub compute : Operation → wasm.Code → wasm.Code
compute (Copy a) k = push a k
compute (IsZero kind a) k = push a (wasm.Then (plain.EqualsZero kind) k)
compute (Compare kind o a b) k = push a (push b (wasm.Then (plain.Compare kind o) k))
compute (Unary kind o a) k = push a (wasm.Then (plain.Unary kind o) k)
compute (Binary kind o a b) k = push a (push b (wasm.Then (plain.Binary kind o) k))
compute (Convert o a) k = push a (wasm.Then (plain.Convert o) k)
compute (Load kind a offset) k = push a (wasm.Then (plain.Load kind (record { align = load_align kind; offset = offset })) k)
compute (Global x) k = wasm.Then (plain.GlobalGet x) k
compute Size k = wasm.Then plain.MemorySize k

abbrev pub take_result : Option ℕ → wasm.Code → wasm.Code
take_result None k = k
take_result (Some x) k = wasm.Then (plain.LocalSet x) k

abbrev pub unless : ValueType → Plain → wasm.Code → wasm.Code
unless kind refusal k = wasm.Then refusal (wasm.Then (plain.Compare kind Eq) (wasm.If None (wasm.Unreachable wasm.Stop) k))

abbrev pub emit : Code → wasm.Code
emit Stop = wasm.Stop
emit (Return None) = wasm.Return wasm.Stop
emit (Return (Some a)) = push a (wasm.Return wasm.Stop)
emit (Branch label) = wasm.Br label wasm.Stop
emit (Trap a b) = push a (push b (wasm.Call host_trap (wasm.Unreachable wasm.Stop)))
emit (Set x o rest) = compute o (wasm.Then (plain.LocalSet x) (emit rest))
emit (SetGlobal x a rest) = push a (wasm.Then (plain.GlobalSet x) (emit rest))
emit (Store kind a offset b rest) = push a (push b (wasm.Then (plain.Store kind (record { align = store_align kind; offset = offset })) (emit rest)))
emit (Grow a rest) = push a (wasm.Then plain.MemoryGrow (unless I32 (plain.I32Const (negsuc 0)) (emit rest)))
emit (GrowStable a rest) = push a (wasm.Call stable_grow (unless I64 (plain.I64Const (negsuc 0)) (emit rest)))
emit (Block body rest) = wasm.Block None (emit body) (emit rest)
emit (Loop body rest) = wasm.Loop None (emit body) (emit rest)
emit (If a first second rest) = push a (wasm.IfElse None (emit first) (emit second) (emit rest))
emit (BranchIf a label rest) = push a (wasm.BrIf label (emit rest))
emit (Call result f args rest) = push_all args (wasm.Call f (take_result result (emit rest)))
emit (CallIndirect result x args a rest) = push_all args (push a (wasm.CallIndirect x (take_result result (emit rest))))
