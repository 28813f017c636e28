-- The check of a module besides its functions.
use Rattle.std.specs.Prelude.{ℕ, List, [], ◌∷◌, ◌-◌, ◌^◌, Bool, true, false, ◌&&◌, ◌||◌, Option, Some, None, cond, length, take, drop, codes, slice_get, nat_lt, nat_le, ◌==◌}
use Rattle.std.specs.Str.{bytes_eq}
use Rattle.wasm_tree.specs.declared.rule.Rule.TheVariants as rule
use Rattle.wasm_tree.specs.declared.types.ValueType.{ValueType}
use Rattle.wasm_tree.specs.declared.types.ValueType.TheVariants.{I32, I64}
use Rattle.wasm_tree.specs.declared.types.FunctionType.{FunctionType}
use Rattle.wasm_tree.specs.declared.types.Limits.{Limits}
use Rattle.wasm_tree.specs.declared.op.Plain.{Plain}
use Rattle.wasm_tree.specs.declared.op.Plain.TheVariants as plain
use Rattle.wasm_tree.specs.declared.op.Op.{Op}
use Rattle.wasm_tree.specs.declared.op.Op.TheVariants as op
use Rattle.wasm_tree.specs.declared.module_parts.ImportKind.{ImportKind}
use Rattle.wasm_tree.specs.declared.module_parts.ImportKind.TheVariants as «import»
use Rattle.wasm_tree.specs.declared.module_parts.Import.{Import}
use Rattle.wasm_tree.specs.declared.module_parts.ExportKind.{ExportKind}
use Rattle.wasm_tree.specs.declared.module_parts.ExportKind.TheVariants as export
use Rattle.wasm_tree.specs.declared.module_parts.Export.{Export}
use Rattle.wasm_tree.specs.declared.module_parts.Global.{Global}
use Rattle.wasm_tree.specs.declared.module_parts.ElementSegment.{ElementSegment}
use Rattle.wasm_tree.specs.declared.module_parts.DataSegment.{DataSegment}
use Rattle.wasm_tree.specs.declared.module_parts.Module.{Module}
use Rattle.wasm_tree.specs.Imports.{ic0}
use Rattle.wasm_tree.specs.Exec.{same_kind}
use Rattle.wasm_valid.specs.Verdict.{Verdict, Breaks, need, with_found}
use Rattle.wasm_valid.specs.Body.{type_at}

-- Each item in turn.
abbrev pub each : {A : Type 0} → (A → Verdict → Verdict) → List A → Verdict → Verdict
each check [] next = next
each check (item ∷ items) next = check item (each check items next)

abbrev pub max_within : ℕ → ℕ → Option ℕ → Bool
max_within bound min None = true
max_within bound min (Some max) = nat_le min max && nat_le max bound

abbrev pub within : ℕ → Limits → Bool
within bound l = nat_le l.min bound && max_within bound l.min l.max

abbrev pub table_check : Limits → Verdict → Verdict
table_check l next = need rule.Table (within (2 ^ 32 - 1) l) (need rule.Size (nat_le l.min 100000) next)

abbrev pub memory_check : Limits → Verdict → Verdict
memory_check l next = need rule.Memory (within 65536 l) next

abbrev pub type_check : FunctionType → Verdict → Verdict
type_check t next = need rule.Result (nat_le (length t.results) 1) next

abbrev pub constant_plain : ValueType → Plain → Bool
constant_plain kind (plain.I32Const z) = same_kind kind I32
constant_plain kind (plain.I64Const z) = same_kind kind I64
constant_plain kind p = false

abbrev pub is_constant : ValueType → List Op → Bool
is_constant kind (op.Plain p ∷ []) = constant_plain kind p
is_constant kind ops = false

abbrev pub global_check : Global → Verdict → Verdict
global_check g next = need rule.Constant (is_constant g.kind.kind g.init) next

abbrev pub same_kinds : List ValueType → List ValueType → Bool
same_kinds [] [] = true
same_kinds [] (k ∷ ks) = false
same_kinds (j ∷ js) [] = false
same_kinds (j ∷ js) (k ∷ ks) = same_kind j k && same_kinds js ks

-- Whether the list has the function with this type.
abbrev pub knows : List (List ℕ × FunctionType) → List ℕ → FunctionType → Bool
knows [] name t = false
knows (f ∷ functions) name t = (bytes_eq f.0 name && (same_kinds f.1.params t.params && same_kinds f.1.results t.results)) || knows functions name t

abbrev pub import_kind_check : Module → List ℕ → ImportKind → Verdict → Verdict
import_kind_check m name («import».Function x) next = with_found rule.Index (slice_get m.types x) (λ t. need rule.Import (knows ic0 name t) next)
import_kind_check m name («import».Table l) next = Breaks rule.Import
import_kind_check m name («import».Memory l) next = Breaks rule.Import
import_kind_check m name («import».Global g) next = Breaks rule.Import

abbrev pub import_check : Module → Import → Verdict → Verdict
import_check m i next = need rule.Import (bytes_eq i.«module» (codes "ic0")) (import_kind_check m i.name i.kind next)

abbrev pub is_plain : FunctionType → Bool
is_plain t = (length t.params == 0) && (length t.results == 0)

-- A function that the host enters, by this rule.
abbrev pub entry_check : Module → List ℕ → Bool → ℕ → Verdict → Verdict
entry_check m indices start f next = with_found rule.Index (type_at m indices f) (λ t. need (cond start rule.Start rule.Export) (is_plain t) next)

abbrev pub is_there : Module → List ℕ → ExportKind → Bool
is_there m indices (export.Function f) = nat_lt f (length indices)
is_there m indices (export.Table t) = nat_lt t (length m.tables)
is_there m indices (export.Memory x) = nat_lt x (length m.memories)
is_there m indices (export.Global g) = nat_lt g (length m.globals)

abbrev pub is_visible : List ℕ → Bool
is_visible [] = true
is_visible (b ∷ bytes) = (nat_le 33 b && nat_le b 126) && is_visible bytes

-- Whether some visible bytes follow the prefix.
abbrev pub is_method : List ℕ → List ℕ → Bool
is_method front name = nat_lt (length front) (length name) && (bytes_eq (take (length front) name) front && is_visible (drop (length front) name))

abbrev pub is_entry_name : List ℕ → Bool
is_entry_name name =
    (bytes_eq name (codes "canister_init") || (bytes_eq name (codes "canister_pre_upgrade") || bytes_eq name (codes "canister_post_upgrade")))
    || (is_method (codes "canister_update ") name || is_method (codes "canister_query ") name)

abbrev pub export_entry_check : Module → List ℕ → ExportKind → Verdict → Verdict
export_entry_check m indices (export.Function f) next = entry_check m indices false f next
export_entry_check m indices (export.Table t) next = Breaks rule.Export
export_entry_check m indices (export.Memory x) next = Breaks rule.Export
export_entry_check m indices (export.Global g) next = Breaks rule.Export

abbrev pub where_entry : Bool → Verdict → Verdict → Verdict
where_entry true checked next = checked
where_entry false checked next = next

abbrev pub export_check : Module → List ℕ → Export → Verdict → Verdict
export_check m indices e next = need rule.Index (is_there m indices e.kind) (where_entry (is_entry_name e.name) (export_entry_check m indices e.kind next) next)

abbrev pub start_check : Module → List ℕ → Option ℕ → Verdict → Verdict
start_check m indices None next = next
start_check m indices (Some f) next = entry_check m indices true f next

abbrev pub index_check : List ℕ → ℕ → Verdict → Verdict
index_check indices f next = need rule.Index (nat_lt f (length indices)) next

abbrev pub element_check : Module → List ℕ → ElementSegment → Verdict → Verdict
element_check m indices s next =
    need rule.Index (nat_lt s.table (length m.tables)) (need rule.Constant (is_constant I32 s.offset) (each (index_check indices) s.functions next))

abbrev pub data_check : Module → DataSegment → Verdict → Verdict
data_check m s next = need rule.Index (nat_lt s.memory (length m.memories)) (need rule.Constant (is_constant I32 s.offset) next)

abbrev pub size_check : Module → List ℕ → Verdict → Verdict
size_check m indices next = need rule.Size (nat_le (length indices) 100000) (need rule.Size (nat_le (length m.globals) 10000) next)

abbrev pub stores_check : Module → Verdict → Verdict
stores_check m next =
    need rule.Table (nat_le (length m.tables) 1) (each table_check m.tables (need rule.Memory (nat_le (length m.memories) 1) (each memory_check m.memories (each global_check m.globals next))))

-- All but that the names of exports differ.
abbrev pub parts_check : Module → List ℕ → Verdict → Verdict
parts_check m indices next =
    size_check m indices (each type_check m.types (each (import_check m) m.imports (stores_check m (each (export_check m indices) m.exports (start_check m indices m.start
    (each (element_check m indices) m.elements (each (data_check m) m.segments next)))))))
