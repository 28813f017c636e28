-- The translation keeps formed modules.
use Rattle.std.proofs.Common.{◌≡◌, List, [], ◌∷◌, ◌++◌, length, map, Some, None, sym, subst}
use Rattle.wasm_tree.specs.declared.types.FunctionType.{FunctionType}
use Rattle.wasm_tree.specs.declared.types.Limits.{Limits}
use Rattle.wasm_tree.specs.declared.module_parts.Import.{Import}
use Rattle.wasm_tree.specs.declared.module_parts.Function.{Function}
use Rattle.wasm_tree.specs.declared.module_parts.Global.{Global}
use Rattle.wasm_tree.specs.declared.module_parts.Export.{Export}
use Rattle.wasm_tree.specs.declared.module_parts.ElementSegment.{ElementSegment}
use Rattle.wasm_tree.specs.declared.module_parts.DataSegment.{DataSegment}
use Rattle.low_ir.specs.Numbering.{host_types}
use Rattle.wasm_tree.specs.declared.module_parts.Module.{Module as WasmModule}
use Rattle.low_ir.specs.declared.module_parts.LowModule.{LowModule}
use Rattle.low_ir.specs.Tree.{Module}
use Rattle.low_ir.specs.Flat.{flat_module}
use Rattle.low_ir.specs.Formed.{ModuleIsFormed}
use Rattle.wasm_emit.specs.Emit.{host_imports, emitted_function, emitted_global, emitted_export, begin, emitted}
use Rattle.wasm_emit.specs.Compiled.{Keeps, Compiles, EmittedModulesKeep}
use Rattle.wasm_emit.proofs.Valid.{valid}
use Rattle.wasm_emit.proofs.ModuleBytes.{spelled}
use Rattle.wasm_emit.proofs.Loads.{loads}
use Rattle.wasm_emit.proofs.Entered.{exported_is, callback_is}
use Rattle.wasm_emit.proofs.Executes.{executes}

pub emitted_keep : EmittedModulesKeep
emitted_keep m f = record {
  valid = valid m f;
  spelled = spelled m f;
  loads = λ limits. loads limits m f.fits;
  exports = exported_is m;
  callbacks = callback_is m;
  executes = λ limits i entries world all. executes limits m f.functions i entries world all;
}

kept : (m : Module) → ModuleIsFormed m → (w : WasmModule) → w ≡ emitted (flat_module m) → Keeps m w
kept m f w e = subst (Keeps m) (sym e) (emitted_keep m f)

pub compiled : (low : LowModule) (w : WasmModule) → w ≡ emitted low → Compiles low w
compiled low w e = record { is = e; keeps = λ m same f. kept m f w (subst (λ l. w ≡ emitted l) same e) }

-- By its parts.
pub compiled_parts : (low : LowModule) (types : List FunctionType) (imports : List Import) (functions : List Function) (tables memories : List Limits) (globals : List Global) (exports : List Export) (elements : List ElementSegment) (segments : List DataSegment)
    → types ≡ host_types ++ low.types → imports ≡ host_imports → functions ≡ map emitted_function low.functions → tables ≡ record { min = length low.table; max = Some (length low.table) } ∷ [] → memories ≡ record { min = low.pages; max = None } ∷ []
    → globals ≡ map emitted_global low.globals → exports ≡ map emitted_export low.exports → elements ≡ record { table = 0; offset = begin; functions = low.table } ∷ [] → segments ≡ record { memory = 0; offset = begin; bytes = low.bytes } ∷ []
    → Compiles low (record { types = types; imports = imports; functions = functions; tables = tables; memories = memories; globals = globals; exports = exports; start = None; elements = elements; segments = segments })
compiled_parts low types imports functions tables memories globals exports elements segments a b c d e f g h k =
    compiled low _ (λ i. record { types = a i; imports = b i; functions = c i; tables = d i; memories = e i; globals = f i; exports = g i; start = None; elements = h i; segments = k i })
