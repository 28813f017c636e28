-- Where the host enters a low module: IC interface specification, section Entry points.
use Rattle.std.specs.Prelude.{ℕ, List, Option, Some, None, cond, find, slice_get}
use Rattle.std.specs.Str.{bytes_eq}
use Rattle.wasm_tree.specs.Imports.{entry_type}
use Rattle.wasm_tree.specs.Exec.{same_type, entry}
use Rattle.ic0_world.specs.declared.world.Callback.{Callback}
use Rattle.canister_host.specs.Entries.{callback_type}
use Rattle.low_ir.specs.declared.module_parts.LowExport.{LowExport}
use Rattle.low_ir.specs.Tree.{Module}
use Rattle.low_ir.specs.Numbering.{type_of}

abbrev pub plain_function : Module → Option LowExport → Option ℕ
plain_function m None = None
plain_function m (Some e) = cond (same_type (type_of m e.function) (Some entry_type)) (Some e.function) None

-- The function that is exported by this name, from nothing to nothing.
abbrev pub low_exported : Module → List ℕ → Option ℕ
low_exported m name = plain_function m (find (λ e. bytes_eq e.name name) m.exports)

abbrev pub typed_callback : Module → Option ℕ → Option ℕ
typed_callback m None = None
typed_callback m (Some f) = cond (same_type (type_of m f) (Some callback_type)) (Some f) None

-- The function of a callback, where the table has one of its type.
abbrev pub low_callback : Module → List (Option ℕ) → Callback → Option ℕ
low_callback m table callback = typed_callback m (entry (slice_get table callback.function))
