-- Low code as WebAssembly: each instruction becomes a short list of its own, and nothing is looked at twice.
use Rattle.std.specs.Prelude.{ℕ, suc, List, [], ◌∷◌, ◌++◌, length, map, Option, Some, None, pos, negsuc, true, codes}
use Rattle.wasm_tree.specs.declared.types.ValueType.{ValueType}
use Rattle.wasm_tree.specs.declared.types.ValueType.TheVariants.{I32, I64}
use Rattle.wasm_tree.specs.declared.types.FunctionType.{FunctionType}
use Rattle.wasm_tree.specs.declared.op.Comparison.TheVariants.{Eq}
use Rattle.wasm_tree.specs.declared.op.Plain.{Plain}
use Rattle.wasm_tree.specs.declared.op.Plain.TheVariants as plain
use Rattle.wasm_tree.specs.declared.op.Op.{Op}
use Rattle.wasm_tree.specs.declared.op.Op.TheVariants as op
use Rattle.wasm_tree.specs.declared.module_parts.ImportKind.TheVariants as «import»
use Rattle.wasm_tree.specs.declared.module_parts.Import.{Import}
use Rattle.wasm_tree.specs.declared.module_parts.Function.{Function}
use Rattle.wasm_tree.specs.declared.module_parts.Global.{Global}
use Rattle.wasm_tree.specs.declared.module_parts.ExportKind.TheVariants as export
use Rattle.wasm_tree.specs.declared.module_parts.Export.{Export}
use Rattle.wasm_tree.specs.declared.module_parts.Module.{Module}
use Rattle.wasm_tree.specs.Imports.{ic0}
use Rattle.wasm_tree.specs.Rules.{load_align, store_align}
use Rattle.ic0_world.specs.declared.function.Ic0.{Ic0}
use Rattle.ic0_world.specs.Names.{function_name}
use Rattle.low_ir.specs.declared.op.Operand.{Operand}
use Rattle.low_ir.specs.declared.op.Operand.TheVariants.{Local, Word, Long}
use Rattle.low_ir.specs.declared.op.Operation.{Operation}
use Rattle.low_ir.specs.declared.op.Operation.TheVariants.{Copy, IsZero, Compare, Unary, Binary, Convert, Load, Global as Globals, Size}
use Rattle.low_ir.specs.declared.op.LowOp.{LowOp}
use Rattle.low_ir.specs.declared.op.LowOp.TheVariants as low
use Rattle.low_ir.specs.declared.module_parts.LowFunction.{LowFunction}
use Rattle.low_ir.specs.declared.module_parts.LowGlobal.{LowGlobal}
use Rattle.low_ir.specs.declared.module_parts.LowGlobal.TheVariants as global
use Rattle.low_ir.specs.declared.module_parts.LowExport.{LowExport}
use Rattle.low_ir.specs.declared.module_parts.LowModule.{LowModule}
use Rattle.low_ir.specs.Numbering.{host_types, stable_grow, host_trap, kind_of}

abbrev pub operand_plain : Operand → Plain
operand_plain (Local x) = plain.LocalGet x
operand_plain (Word z) = plain.I32Const z
operand_plain (Long z) = plain.I64Const z

abbrev pub operand_op : Operand → Op
operand_op a = op.Plain (operand_plain a)

-- The operands of an operation, and then its own instruction, unless it is a copy.
abbrev pub operation_ops : Operation → List Op
operation_ops (Copy a) = operand_op a ∷ []
operation_ops (IsZero kind a) = operand_op a ∷ op.Plain (plain.EqualsZero kind) ∷ []
operation_ops (Compare kind o a b) = operand_op a ∷ operand_op b ∷ op.Plain (plain.Compare kind o) ∷ []
operation_ops (Unary kind o a) = operand_op a ∷ op.Plain (plain.Unary kind o) ∷ []
operation_ops (Binary kind o a b) = operand_op a ∷ operand_op b ∷ op.Plain (plain.Binary kind o) ∷ []
operation_ops (Convert o a) = operand_op a ∷ op.Plain (plain.Convert o) ∷ []
operation_ops (Load kind a offset) = operand_op a ∷ op.Plain (plain.Load kind (record { align = load_align kind; offset = offset })) ∷ []
operation_ops (Globals x) = op.Plain (plain.GlobalGet x) ∷ []
operation_ops Size = op.Plain plain.MemorySize ∷ []

abbrev pub result_ops : Option ℕ → List Op
result_ops None = []
result_ops (Some x) = op.Plain (plain.LocalSet x) ∷ []

-- What ends the execution where growing gave -1.
abbrev pub refusal_ops : ValueType → Plain → List Op
refusal_ops kind refusal = op.Plain refusal ∷ op.Plain (plain.Compare kind Eq) ∷ op.If None ∷ op.Unreachable ∷ op.End ∷ []

abbrev pub ops_of : LowOp → List Op
ops_of (low.Set x o) = operation_ops o ++ op.Plain (plain.LocalSet x) ∷ []
ops_of (low.SetGlobal x a) = operand_op a ∷ op.Plain (plain.GlobalSet x) ∷ []
ops_of (low.Store kind a offset b) = operand_op a ∷ operand_op b ∷ op.Plain (plain.Store kind (record { align = store_align kind; offset = offset })) ∷ []
ops_of (low.Grow a) = operand_op a ∷ op.Plain plain.MemoryGrow ∷ refusal_ops I32 (plain.I32Const (negsuc 0))
ops_of (low.GrowStable a) = operand_op a ∷ op.Call stable_grow ∷ refusal_ops I64 (plain.I64Const (negsuc 0))
ops_of (low.Trap a b) = operand_op a ∷ operand_op b ∷ op.Call host_trap ∷ op.Unreachable ∷ []
ops_of low.Block = op.Block None ∷ []
ops_of low.Loop = op.Loop None ∷ []
ops_of (low.If a) = operand_op a ∷ op.If None ∷ []
ops_of low.Else = op.Else ∷ []
ops_of low.End = op.End ∷ []
ops_of (low.Branch label) = op.Br label ∷ []
ops_of (low.BranchIf a label) = operand_op a ∷ op.BrIf label ∷ []
ops_of (low.Argument a) = operand_op a ∷ []
ops_of (low.Call result f) = op.Call f ∷ result_ops result
ops_of (low.CallIndirect result x a) = operand_op a ∷ op.CallIndirect x ∷ result_ops result
ops_of (low.Return None) = op.Return ∷ []
ops_of (low.Return (Some a)) = operand_op a ∷ op.Return ∷ []

-- One after another.
abbrev pub all_ops : List LowOp → List Op
all_ops [] = []
all_ops (o ∷ os) = ops_of o ++ all_ops os

abbrev pub emitted_function : LowFunction → Function
emitted_function fn = record { signature = fn.signature; locals = map (λ k. record { count = 1; kind = k }) fn.locals; body = all_ops fn.body }

-- Imported functions with types from this number on.
abbrev pub imports_from : ℕ → List (List ℕ × FunctionType) → List Import
imports_from number [] = []
imports_from number (i ∷ is) = record { «module» = codes "ic0"; name = i.0; kind = «import».Function number } ∷ imports_from (suc number) is

-- The same of functions of the host by their names.
abbrev pub imports_named : ℕ → List Ic0 → List Import
imports_named number [] = []
imports_named number (f ∷ fs) = record { «module» = codes "ic0"; name = function_name f; kind = «import».Function number } ∷ imports_named (suc number) fs

-- The whole interface of the host.
unfoldable pub host_imports : List Import
host_imports = imports_from 0 ic0

abbrev pub constant_ops : LowGlobal → List Op
constant_ops (global.Word z) = op.Plain (plain.I32Const z) ∷ []
constant_ops (global.Long z) = op.Plain (plain.I64Const z) ∷ []

abbrev pub emitted_global : LowGlobal → Global
emitted_global g = record { kind = record { mutable = true; kind = kind_of g }; init = constant_ops g }

abbrev pub emitted_export : LowExport → Export
emitted_export e = record { name = e.name; kind = export.Function e.function }

-- The place 0 of a table or a memory.
abbrev pub begin : List Op
begin = op.Plain (plain.I32Const (pos 0)) ∷ []

-- One table, which is full, one memory, which only the host bounds, and their contents.
abbrev pub emitted : LowModule → Module
emitted m = record {
  types = host_types ++ m.types;
  imports = host_imports;
  functions = map emitted_function m.functions;
  tables = record { min = length m.table; max = Some (length m.table) } ∷ [];
  memories = record { min = m.pages; max = None } ∷ [];
  globals = map emitted_global m.globals;
  exports = map emitted_export m.exports;
  start = None;
  elements = record { table = 0; offset = begin; functions = m.table } ∷ [];
  segments = record { memory = 0; offset = begin; bytes = m.bytes } ∷ [];
}
