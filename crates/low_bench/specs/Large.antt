-- A large low module: one function whose body is a short part again and again.
use Rattle.std.specs.Prelude.{ℕ, zero, suc, [], ◌∷◌, Some, pos}
use Rattle.wasm_tree.specs.declared.types.ValueType.TheVariants.{I32}
use Rattle.wasm_tree.specs.declared.op.BinaryOperator.TheVariants.{Add}
use Rattle.wasm_tree.specs.declared.op.LoadKind.TheVariants as load
use Rattle.wasm_tree.specs.declared.op.StoreKind.TheVariants as store
use Rattle.low_ir.specs.declared.op.Operand.TheVariants.{Local, Word}
use Rattle.low_ir.specs.declared.op.Operation.TheVariants.{Binary, Load}
use Rattle.low_ir.specs.Tree.{Code, Return, Set, Store, Call, Module}
use Rattle.low_ir.specs.Rows.{number_type}

-- A load, a sum, a store, and a call with an argument: five instructions.
abbrev pub parts : ℕ → Code
parts zero = Return (Some (Local 0))
parts (suc n) =
    Set 1 (Load load.I32 (Local 0) 0)
    (Set 1 (Binary I32 Add (Local 1) (Word (pos 12345)))
    (Store store.I32 (Local 0) 4 (Local 1)
    (Call (Some 1) 22 (Local 1 ∷ []) (parts n))))

abbrev pub large : ℕ → Module
large n = record {
  types = number_type ∷ [];
  functions = record { signature = 22; locals = I32 ∷ []; body = parts n } ∷ [];
  table = [];
  globals = [];
  pages = 1;
  bytes = [];
  exports = [];
}
