-- Where the host enters a module: IC interface specification, section Entry points, and what it offers there.
use Rattle.std.specs.Prelude.{ℕ, List, [], ◌∷◌, ◌++◌, Option, Some, None, Bool, ◌&&◌, cond, find, slice_get, codes}
use Rattle.std.specs.Str.{bytes_eq}
use Rattle.wasm_tree.specs.declared.types.ValueType.TheVariants.{I32}
use Rattle.wasm_tree.specs.declared.types.FunctionType.{FunctionType}
use Rattle.wasm_tree.specs.declared.module_parts.ImportKind.{ImportKind}
use Rattle.wasm_tree.specs.declared.module_parts.ImportKind.TheVariants as «import»
use Rattle.wasm_tree.specs.declared.module_parts.Import.{Import}
use Rattle.wasm_tree.specs.declared.module_parts.ExportKind.{ExportKind}
use Rattle.wasm_tree.specs.declared.module_parts.ExportKind.TheVariants as export
use Rattle.wasm_tree.specs.declared.module_parts.Export.{Export}
use Rattle.wasm_tree.specs.declared.module_parts.Module.{Module}
use Rattle.wasm_tree.specs.Imports.{function_type, entry_type}
use Rattle.wasm_tree.specs.Exec.{Host, HostAnswer, Answers, Refuses, type_of, same_type, entry}
use Rattle.ic0_world.specs.declared.function.Ic0.{Ic0}
use Rattle.ic0_world.specs.Names.{function_of}
use Rattle.ic0_world.specs.declared.world.Callback.{Callback}
use Rattle.ic0_world.specs.declared.world.World.{World}
use Rattle.ic0_world.specs.Act.{Did, Gives, Traps, call, misuse}

-- The function that the export names, if it is one that takes nothing and gives nothing.
abbrev pub function_in : Module → Option Export → Option ℕ
function_in m None = None
function_in m (Some e) = of_kind e.kind
  where
    of_kind : ExportKind → Option ℕ
    of_kind (export.Function f) = cond (same_type (type_of m f) (Some entry_type)) (Some f) None
    of_kind (export.Table t) = None
    of_kind (export.Memory x) = None
    of_kind (export.Global g) = None

abbrev pub exported : Module → List ℕ → Option ℕ
exported m name = function_in m (find (λ e. bytes_eq e.name name) m.exports)

abbrev pub update_entry : Module → List ℕ → Option ℕ
update_entry m method = exported m (codes "canister_update " ++ method)

abbrev pub query_entry : Module → List ℕ → Option ℕ
query_entry m method = exported m (codes "canister_query " ++ method)

-- A callback takes its environment number, and gives nothing.
abbrev pub callback_type : FunctionType
callback_type = function_type (I32 ∷ []) []

abbrev pub typed_callback : Module → Option ℕ → Option ℕ
typed_callback m None = None
typed_callback m (Some f) = cond (same_type (type_of m f) (Some callback_type)) (Some f) None

-- The function of a callback, where the table has one of its type.
abbrev pub callback_entry : Module → List (Option ℕ) → Callback → Option ℕ
callback_entry m table callback = typed_callback m (entry (slice_get table callback.function))

-- The names of the imported functions, in order.
abbrev pub imported_names : List Import → List (List ℕ)
imported_names [] = []
imported_names (i ∷ is) = of_kind i.kind ++ imported_names is
  where
    of_kind : ImportKind → List (List ℕ)
    of_kind («import».Function signature) = i.name ∷ []
    of_kind («import».Table l) = []
    of_kind («import».Memory l) = []
    of_kind («import».Global g) = []

abbrev pub then_named : Option (List ℕ) → Option Ic0
then_named None = None
then_named (Some name) = function_of name

abbrev pub imported_function : Module → ℕ → Option Ic0
imported_function m function = then_named (slice_get (imported_names m.imports) function)

abbrev pub answer_of : Did → HostAnswer World
answer_of (Gives result memory w) = Answers result memory w
answer_of (Traps w) = Refuses w

abbrev pub call_of : Option Ic0 → List ℕ → List ℕ → World → Did
call_of None args memory w = misuse w
call_of (Some function) args memory w = call function args memory w

-- The host that a module's executions meet.
abbrev pub host : Module → Host World
host m function args memory w = answer_of (call_of (imported_function m function) args memory w)
