-- A function of the module that is exported is entered.
use Rattle.std.proofs.Common.{◌≡◌, ℕ, List, Some, slice_get, refl, suc}
use Rattle.wasm_tree.specs.declared.module_parts.Function.{Function}
use Rattle.wasm_tree.specs.declared.module_parts.Export.{Export}
use Rattle.wasm_tree.specs.declared.module_parts.ExportKind.TheVariants as export
use Rattle.wasm_tree.specs.declared.module_parts.Module.{Module}
use Rattle.wasm_tree.specs.Imports.{entry_type}
use Rattle.wasm_tree.specs.Exec.{type_of}
use Rattle.canister_host.specs.Entries.{function_in}
use Rattle.query_module.specs.Tree.{query_function, tree_of_parts}
use Rattle.query_module.proofs.Runs.{own_type}

entry_there : (m : Module) (name : List ℕ) (f : ℕ) → type_of m f ≡ Some entry_type → function_in m (Some (record { name = name; kind = export.Function f })) ≡ Some f
entry_there m name f typed = rw typed refl

pub entered : (own : List Function) (exports : List Export) (bytes name : List ℕ) (k offset size : ℕ) → slice_get own k ≡ Some (query_function offset size)
    → function_in (tree_of_parts own exports bytes) (Some (record { name = name; kind = export.Function (suc (suc k)) })) ≡ Some (suc (suc k))
entered own exports bytes name k offset size at = entry_there (tree_of_parts own exports bytes) name (suc (suc k)) (own_type own exports bytes k offset size at)
