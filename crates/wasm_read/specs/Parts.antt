-- Reading the parts of a module: WebAssembly Core 1.0 sections 5.3 and 5.5.
use Rattle.std.specs.Prelude.{◌≡◌, ℕ, zero, suc, List, [], ◌∷◌, Bool, true, false, length, Option, Some, None, Result, Ok, Err, nat_eq, nat_lt, ◌+◌, ◌^◌, if◌then◌else◌}
use Rattle.wasm_tree.specs.declared.types.ValueType.{ValueType}
use Rattle.wasm_tree.specs.declared.types.FunctionType.{FunctionType}
use Rattle.wasm_tree.specs.declared.types.Limits.{Limits}
use Rattle.wasm_tree.specs.declared.types.GlobalType.{GlobalType}
use Rattle.wasm_tree.specs.declared.op.Op.{Op}
use Rattle.wasm_tree.specs.declared.module_parts.ImportKind.{ImportKind}
use Rattle.wasm_tree.specs.declared.module_parts.ImportKind.TheVariants as «import»
use Rattle.wasm_tree.specs.declared.module_parts.Import.{Import}
use Rattle.wasm_tree.specs.declared.module_parts.Locals.{Locals}
use Rattle.wasm_tree.specs.declared.module_parts.Function.{Function}
use Rattle.wasm_tree.specs.declared.module_parts.Global.{Global}
use Rattle.wasm_tree.specs.declared.module_parts.ExportKind.{ExportKind}
use Rattle.wasm_tree.specs.declared.module_parts.ExportKind.TheVariants as export
use Rattle.wasm_tree.specs.declared.module_parts.Export.{Export}
use Rattle.wasm_tree.specs.declared.module_parts.ElementSegment.{ElementSegment}
use Rattle.wasm_tree.specs.declared.module_parts.DataSegment.{DataSegment}
use Rattle.wasm_read.specs.declared.fault.Fault.{Fault}
use Rattle.wasm_read.specs.declared.fault.Fault.TheVariants.{Malformed, Floats}
use Rattle.exact_reading.specs.Reading.{◌>>=◌, made, both, list_at}
use Rattle.wasm_read.specs.Fields.{Reading, kept, first, behind, after_code, vector_at, byte_vector_at, sized, name_at, u32_at}
use Rattle.wasm_read.specs.Codes.{value_type_at, expression_at}

abbrev pub function_type : List ValueType × List ValueType → FunctionType
function_type x = record { params = x.0; results = x.1 }

unfoldable pub function_type_at : Reading FunctionType
function_type_at = made function_type (after_code 0x60 (both (vector_at value_type_at) (vector_at value_type_at)))

abbrev pub at_least : ℕ → Limits
at_least min = record { min = min; max = None }

abbrev pub from_to : ℕ × ℕ → Limits
from_to x = record { min = x.0; max = Some x.1 }

abbrev pub limits_by : ℕ → Reading Limits
limits_by b rest = if nat_eq b 0x00 then made at_least u32_at rest else (if nat_eq b 0x01 then made from_to (both u32_at u32_at) rest else Err Malformed)

unfoldable pub limits_at : Reading Limits
limits_at = first limits_by

unfoldable pub table_at : Reading Limits
table_at = after_code 0x70 limits_at

abbrev pub mutable_at : Reading Bool
mutable_at = first (λ b rest. if nat_eq b 0x00 then Ok (false, rest) else (if nat_eq b 0x01 then Ok (true, rest) else Err Malformed))

abbrev pub global_type : ValueType × Bool → GlobalType
global_type x = record { kind = x.0; mutable = x.1 }

unfoldable pub global_type_at : Reading GlobalType
global_type_at = made global_type (both value_type_at mutable_at)

abbrev pub import_kind_by : ℕ → Reading ImportKind
import_kind_by b rest =
    if nat_eq b 0x00 then made «import».Function u32_at rest else (if nat_eq b 0x01 then made «import».Table table_at rest else (if nat_eq b 0x02 then made «import».Memory limits_at rest else (if nat_eq b 0x03 then made «import».Global global_type_at rest else Err Malformed)))

unfoldable pub import_kind_at : Reading ImportKind
import_kind_at = first import_kind_by

abbrev pub imported : List ℕ × (List ℕ × ImportKind) → Import
imported x = record { «module» = x.0; name = x.1.0; kind = x.1.1 }

unfoldable pub import_at : Reading Import
import_at = made imported (both name_at (both name_at import_kind_at))

abbrev pub global : GlobalType × List Op → Global
global x = record { kind = x.0; init = x.1 }

unfoldable pub global_at : Reading Global
global_at = made global (both global_type_at expression_at)

abbrev pub export_kind_by : ℕ → Reading ExportKind
export_kind_by b rest =
    if nat_eq b 0x00 then made export.Function u32_at rest else (if nat_eq b 0x01 then made export.Table u32_at rest else (if nat_eq b 0x02 then made export.Memory u32_at rest else (if nat_eq b 0x03 then made export.Global u32_at rest else Err Malformed)))

unfoldable pub export_kind_at : Reading ExportKind
export_kind_at = first export_kind_by

abbrev pub exported : List ℕ × ExportKind → Export
exported x = record { name = x.0; kind = x.1 }

unfoldable pub export_at : Reading Export
export_at = made exported (both name_at export_kind_at)

abbrev pub element : ℕ × (List Op × List ℕ) → ElementSegment
element x = record { table = x.0; offset = x.1.0; functions = x.1.1 }

unfoldable pub element_at : Reading ElementSegment
element_at = made element (both u32_at (both expression_at (vector_at u32_at)))

abbrev pub segment : ℕ × (List Op × List ℕ) → DataSegment
segment x = record { memory = x.0; offset = x.1.0; bytes = x.1.1 }

unfoldable pub data_at : Reading DataSegment
data_at = made segment (both u32_at (both expression_at byte_vector_at))

-- A function has fewer than 2^32 locals: a group is malformed at a count that takes their number there.
abbrev pub locals : ℕ × ValueType → Locals
locals x = record { count = x.0; kind = x.1 }

-- how many locals a group has, behind so many others
abbrev pub count_at : ℕ → Reading ℕ
count_at before = kept (λ n. nat_lt (before + n) (2 ^ 32)) u32_at

unfoldable pub locals_at : ℕ → Reading Locals
locals_at before = made locals (both (count_at before) value_type_at)

abbrev pub with_group : ℕ → Locals → ℕ
with_group before group = before + group.count

unfoldable pub groups_at : Reading (List Locals)
groups_at = list_at Malformed Malformed locals_at with_group 0

-- The locals and the body of a function, behind their size.
unfoldable pub body_parts_at : Reading (List Locals × List Op)
body_parts_at = sized (both groups_at expression_at)

abbrev pub function : ℕ → List Locals × List Op → Function
function signature x = record { signature = signature; locals = x.0; body = x.1 }

abbrev pub code_at : ℕ → Reading Function
code_at signature = made (function signature) body_parts_at

-- The codes of the functions with these types.
abbrev pub codes_at : List ℕ → Reading (List Function)
codes_at [] bytes = Ok ([], bytes)
codes_at (s ∷ ss) bytes = code_at s bytes >>= λ f. codes_at ss f.1 >>= λ fs. Ok (f.0 ∷ fs.0, fs.1)

-- As many codes as functions.
unfoldable pub code_vector_at : List ℕ → Reading (List Function)
code_vector_at ss bytes = u32_at bytes >>= λ n. if nat_eq n.0 (length ss) then codes_at ss n.1 else Err Malformed
