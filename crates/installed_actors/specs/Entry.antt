-- The function by which the host installs an actor.
use Rattle.std.specs.Prelude.{ℕ, zero, suc, ◌+◌, ◌*◌, List, [], ◌∷◌, ◌++◌, length, replicate, Some, pos, codes}
use Rattle.wasm_tree.specs.declared.types.ValueType.TheVariants.{I32, I64}
use Rattle.wasm_tree.specs.declared.op.Conversion.TheVariants.{Wrap}
use Rattle.wasm_tree.specs.declared.op.LoadKind.TheVariants as load
use Rattle.wasm_tree.specs.declared.op.StoreKind.TheVariants as store
use Rattle.core_ir.specs.Code.{CodeProgram}
use Rattle.low_ir.specs.declared.module_parts.LowExport.{LowExport}
use Rattle.low_ir.specs.declared.op.Operand.{Operand}
use Rattle.low_ir.specs.declared.op.Operand.TheVariants.{Local, Word, Long}
use Rattle.low_ir.specs.declared.op.Operation.TheVariants.{Convert, Load}
use Rattle.low_ir.specs.Tree.{Code, Stop, Set, Store, Call, Function}
use Rattle.low_ir.specs.Numbering.{host_count}
use Rattle.low_emit.specs.Modules.{Routine, base, hidden, number_of_start}

-- The block of no group, null for what was kept of each stable variable, and false: this is no upgrade.
abbrev pub start_arguments : ℕ → List Operand
start_arguments stable = Word (pos 0) ∷ (replicate stable (Long (pos 0)) ++ Long (pos 0) ∷ [])

-- Locals: the tuple of the names' values, its address, and a word of it. So many parts from the k-th on go into the words of names from
-- the first on.
abbrev pub keeps : (first k count : ℕ) → Code
keeps first k zero = Stop
keeps first k (suc count) =
    Set 2 (Load load.I64 (Local 1) (8 * (1 + k))) (Store store.I64 (Word (pos 0)) (8 * (first + k)) (Local 2) (keeps first (suc k) count))

-- Where there are no names, the tuple is no address, and nothing is read.
abbrev pub begins : (start stable first count : ℕ) → Code
begins start stable first count = Call (Some 0) start (start_arguments stable) (Set 1 (Convert Wrap (Local 0)) (keeps first 0 count))

abbrev pub init_function : CodeProgram → List Routine → ℕ → Function
init_function p more own = record {
  signature = host_count;
  locals = I64 ∷ I32 ∷ I64 ∷ [];
  body = begins (number_of_start p more own) (length p.stable) (base p more own + hidden p more own) own;
}

-- Where it is the first of the entries.
abbrev pub init_export : CodeProgram → List Routine → ℕ → LowExport
init_export p more own = record { name = codes "canister_init"; function = suc (number_of_start p more own) }
