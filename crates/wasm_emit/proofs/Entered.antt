-- The host enters the emitted module where it enters the low module.
use Rattle.std.proofs.Common.{◌≡◌, ℕ, List, [], ◌∷◌, map, cond, Bool, true, false, find, Option, Some, None, slice_get, refl, ap, ◌∙◌}
use Rattle.std.specs.Str.{bytes_eq}
use Rattle.wasm_tree.specs.declared.module_parts.Export.{Export}
use Rattle.wasm_tree.specs.Imports.{entry_type}
use Rattle.wasm_tree.specs.Exec.{same_type, entry}
use Rattle.ic0_world.specs.declared.world.Callback.{Callback}
use Rattle.canister_host.specs.Entries.{exported, function_in, callback_entry, typed_callback, callback_type}
use Rattle.low_ir.specs.declared.module_parts.LowExport.{LowExport}
use Rattle.low_ir.specs.Tree.{Module}
use Rattle.low_execution.specs.Entries.{plain_function, low_exported, low_callback}
use Rattle.low_execution.specs.Entries as low
use Rattle.wasm_emit.specs.Emit.{emitted_export}
use Rattle.wasm_emit.proofs.Calls.{to_wasm, types_are}

abbrev emitted_exports : Option LowExport → Option Export
emitted_exports None = None
emitted_exports (Some e) = Some (emitted_export e)

finds : (name : List ℕ) (es : List LowExport) → find (λ e. bytes_eq e.name name) (map emitted_export es) ≡ emitted_exports (find (λ e. bytes_eq e.name name) es)
finds name [] = refl
finds name (e ∷ es) = by (bytes_eq e.name name) (finds name es)
  where
    by : (t : Bool) → find (λ e. bytes_eq e.name name) (map emitted_export es) ≡ emitted_exports (find (λ e. bytes_eq e.name name) es)
        → cond t (Some (emitted_export e)) (find (λ e. bytes_eq e.name name) (map emitted_export es)) ≡ emitted_exports (cond t (Some e) (find (λ e. bytes_eq e.name name) es))
    by true h = refl
    by false h = h

plain_is : (m : Module) (o : Option LowExport) → function_in (to_wasm m) (emitted_exports o) ≡ plain_function m o
plain_is m None = refl
plain_is m (Some e) = ap (λ t. cond (same_type t (Some entry_type)) (Some e.function) None) (types_are m e.function)

pub exported_is : (m : Module) (name : List ℕ) → exported (to_wasm m) name ≡ low_exported m name
exported_is m name = ap (function_in (to_wasm m)) (finds name m.exports) ∙ plain_is m (find (λ e. bytes_eq e.name name) m.exports)

typed_is : (m : Module) (o : Option ℕ) → typed_callback (to_wasm m) o ≡ low.typed_callback m o
typed_is m None = refl
typed_is m (Some f) = ap (λ t. cond (same_type t (Some callback_type)) (Some f) None) (types_are m f)

pub callback_is : (m : Module) (table : List (Option ℕ)) (callback : Callback) → callback_entry (to_wasm m) table callback ≡ low_callback m table callback
callback_is m table callback = typed_is m (entry (slice_get table callback.function))
