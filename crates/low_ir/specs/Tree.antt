-- Low code as a tree: the code holds it as a flat list, so that no nesting is too deep for it.
use Rattle.std.specs.Prelude.{ℕ, List, Option}
use Rattle.wasm_tree.specs.declared.types.ValueType.{ValueType}
use Rattle.wasm_tree.specs.declared.types.FunctionType.{FunctionType}
use Rattle.wasm_tree.specs.declared.op.StoreKind.{StoreKind}
use Rattle.low_ir.specs.declared.op.Operand.{Operand}
use Rattle.low_ir.specs.declared.op.Operation.{Operation}
use Rattle.low_ir.specs.declared.module_parts.LowGlobal.{LowGlobal}
use Rattle.low_ir.specs.declared.module_parts.LowExport.{LowExport}

-- A sequence of instructions: each one comes with those after it. Nothing comes after a trap, a branch and a return. A block, a
-- loop and a choice count as labels, as in WebAssembly.
pub data Code : Type 0 where
  Stop : Code
  Return : Option Operand → Code
  Branch : ℕ → Code
  Trap : Operand → Operand → Code
  Set : ℕ → Operation → Code → Code
  SetGlobal : ℕ → Operand → Code → Code
  Store : StoreKind → Operand → ℕ → Operand → Code → Code
  Grow : Operand → Code → Code
  GrowStable : Operand → Code → Code
  Block : Code → Code → Code
  Loop : Code → Code → Code
  If : Operand → Code → Code → Code → Code
  BranchIf : Operand → ℕ → Code → Code
  Call : Option ℕ → ℕ → List Operand → Code → Code
  CallIndirect : Option ℕ → ℕ → List Operand → Operand → Code → Code

pub record Function : Type 0 where
  pub signature : ℕ
  pub locals : List ValueType
  pub body : Code

-- A low module whose bodies are trees.
pub record Module : Type 0 where
  pub types : List FunctionType
  pub functions : List Function
  pub table : List ℕ
  pub globals : List LowGlobal
  pub pages : ℕ
  pub bytes : List ℕ
  pub exports : List LowExport
