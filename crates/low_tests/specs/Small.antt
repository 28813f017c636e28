-- A module of one function, which adds 1 to its argument.
use Rattle.std.specs.Prelude.{[], ◌∷◌, Some, pos}
use Rattle.wasm_tree.specs.declared.types.ValueType.TheVariants.{I32}
use Rattle.wasm_tree.specs.declared.op.BinaryOperator.TheVariants.{Add}
use Rattle.low_ir.specs.declared.op.Operand.TheVariants.{Local, Word}
use Rattle.low_ir.specs.declared.op.Operation.TheVariants.{Binary}
use Rattle.low_ir.specs.Tree.{Code, Return, Set, Module}
use Rattle.low_ir.specs.Rows.{number_type}

abbrev pub add_one : Code
add_one = Set 0 (Binary I32 Add (Local 0) (Word (pos 1))) (Return (Some (Local 0)))

abbrev pub small : Module
small = record {
  types = number_type ∷ [];
  functions = record { signature = 22; locals = []; body = add_one } ∷ [];
  table = [];
  globals = [];
  pages = 1;
  bytes = [];
  exports = [];
}
