-- The emitted module has a spelling, of at most a stated number of bytes for each of its parts.
use Rattle.std.proofs.Common.{◌≡◌, ℕ, suc, ◌+◌, ◌*◌, ◌<◌, ◌≤◌, ◌^◌, List, [], ◌∷◌, ◌++◌, length, map, Bool, true, false, ◌&&◌, nat_le, nat_lt, Some, None, refl, sym, ◌∙◌, subst, arith, length-append, codes, pos, inl, inr}
use Rattle.std.specs.Prelude.{IsUtf8}
use Rattle.std.proofs.lemmas.Bool.Decides.{nat_tests}
use Rattle.std.proofs.lemmas.List.{length-map}
use Rattle.std.proofs.lemmas.List.Sums.{sum_by-cons}
use Rattle.std.specs.List.{AllByRecursion, sum_by}
use Rattle.wasm_tree.specs.declared.types.FunctionType.{FunctionType}
use Rattle.wasm_tree.specs.declared.types.Limits.{Limits}
use Rattle.wasm_tree.specs.declared.op.Plain.TheVariants as plain
use Rattle.wasm_tree.specs.declared.module_parts.ImportKind.TheVariants as «import»
use Rattle.wasm_tree.specs.declared.module_parts.ElementSegment.{ElementSegment}
use Rattle.wasm_tree.specs.declared.module_parts.DataSegment.{DataSegment}
use Rattle.wasm_tree.specs.Imports.{ic0, IsEntryName, IsMethodName}
use Rattle.wasm_tree.specs.Bounded.{Within}
use Rattle.wasm_tree.specs.Code.{Stop, Then}
use Rattle.wasm_tree.specs.Spelling.{IsEach}
use Rattle.wasm_tree.specs.Binary.{IsExpression, IsFunctionType, IsImport, IsSignature, IsTable, IsLimits, IsGlobal, IsExport, IsElement, IsCode, IsData, IsName, Written}
use Rattle.wasm_tree.proofs.Within.{within_raised, none_within, more_within, each_within, ascii_text, name_within, function_type_within, limits_within, table_within, expression_within, import_within, signature_within, global_within, export_within, element_within, data_within}
use Rattle.module_laws.proofs.Short.{Takes, takes_each, written_in}
use Rattle.low_ir.specs.declared.module_parts.LowGlobal.{LowGlobal}
use Rattle.low_ir.specs.declared.module_parts.LowGlobal.TheVariants as global
use Rattle.low_ir.specs.declared.module_parts.LowExport.{LowExport}
use Rattle.low_ir.specs.Tree.{Function, Module}
use Rattle.low_ir.specs.Numbering.{host_types, all_types, all_signatures}
use Rattle.low_ir.specs.Flat.{flat_function}
use Rattle.low_ir.specs.Formed.{FunctionIsFormed, TypeIsFormed, ExportIsFormed, GlobalIsFormed, ModuleIsFormed, function_bytes, type_bytes, export_bytes, most_bytes}
use Rattle.wasm_emit.specs.Emit.{emitted_function, emitted_global, emitted_export, imports_from, host_imports, constant_ops, begin}
use Rattle.wasm_emit.proofs.Calls.{to_wasm}
use Rattle.low_ir.proofs.Numbers.{host_types_counted, past, type_inside}
use Rattle.wasm_emit.proofs.Smallness.{small_code}
use Rattle.wasm_emit.proofs.CodeBytes.{both_within, one_code}

-- The interface of the host, tested.

abbrev is_ascii : List ℕ → Bool
is_ascii [] = true
is_ascii (b ∷ bs) = nat_lt b 128 && is_ascii bs

both : (a b : Bool) → (a && b) ≡ true → (a ≡ true) × (b ≡ true)
both true b e = (refl, e)
both false b e = absurd (cc)

le_true : (a b : ℕ) → nat_le a b ≡ true → a ≤ b
le_true a b e = grind (arith, nat_tests)

lt_true : (a b : ℕ) → nat_lt a b ≡ true → a < b
lt_true a b e = grind (arith, nat_tests)

ascii_as : (name : List ℕ) → is_ascii name ≡ true → AllByRecursion (λ b. b < 128) name
ascii_as [] e = tt
ascii_as (b ∷ bs) e = let h = both (nat_lt b 128) (is_ascii bs) e in (lt_true b 128 h.0, ascii_as bs h.1)

abbrev are_short : List (List ℕ × FunctionType) → Bool
are_short [] = true
are_short (i ∷ is) = (is_ascii i.0 && nat_le (length i.0) 21) && are_short is

imports_within : (n : ℕ) (is : List (List ℕ × FunctionType)) → are_short is ≡ true → n + length is ≤ 1000 → AllByRecursion (λ i. Within (IsImport i) 47) (imports_from n is)
imports_within n [] e h = tt
imports_within n (i ∷ is) e h =
    let all = both (is_ascii i.0 && nat_le (length i.0) 21) (are_short is) e in
    let this = both (is_ascii i.0) (nat_le (length i.0) 21) all.0 in
    let short : length i.0 ≤ 21 = le_true (length i.0) 21 this.1 in
    let own : Within (IsName (codes "ic0")) 8 = name_within (codes "ic0") (ascii_text (codes "ic0") (ascii_as (codes "ic0") refl)) (omega arith) in
    let name : Within (IsName i.0) 26 = within_raised (IsName i.0) (5 + length i.0) 26 (omega arith) (name_within i.0 (ascii_text i.0 (ascii_as i.0 this.0)) (omega arith)) in
    (import_within (record { «module» = codes "ic0"; name = i.0; kind = «import».Function n }) 8 26 own name (omega arith), imports_within (suc n) is all.1 (omega arith))

imports_take : Takes IsImport host_imports 1034
unfolding host_imports
imports_take = takes_each IsImport (imports_from 0 ic0) 47 (omega arith) (omega arith) (imports_within 0 ic0 refl (omega arith))

abbrev are_small : List FunctionType → Bool
are_small [] = true
are_small (t ∷ ts) = nat_le (type_bytes t) 19 && are_small ts

types_small : (ts : List FunctionType) → are_small ts ≡ true → AllByRecursion (λ t. Within (IsFunctionType t) 19) ts
types_small [] e = tt
types_small (t ∷ ts) e =
    let all = both (nat_le (type_bytes t) 19) (are_small ts) e in
    let small : type_bytes t ≤ 19 = le_true (type_bytes t) 19 all.0 in
    (within_raised (IsFunctionType t) (11 + (length t.params + length t.results)) 19 small (function_type_within t (omega arith) (omega arith)), types_small ts all.1)

host_small : are_small host_types ≡ true
unfolding host_types
host_small = refl

host_types_within : Within (IsEach IsFunctionType host_types) 418
host_types_within = within_raised (IsEach IsFunctionType host_types) (19 * length host_types) 418 (omega (arith, host_types_counted)) (each_within IsFunctionType host_types 19 (types_small host_types host_small))

-- The module's own parts.

own_types : (ts : List FunctionType) → AllByRecursion TypeIsFormed ts → Within (IsEach IsFunctionType ts) (sum_by type_bytes ts)
own_types [] h = none_within IsFunctionType
own_types (t ∷ ts) h =
    within_raised (IsEach IsFunctionType (t ∷ ts)) (type_bytes t + sum_by type_bytes ts) (sum_by type_bytes (t ∷ ts)) (omega (arith, sum_by-cons type_bytes t ts))
    (more_within IsFunctionType t ts (type_bytes t) (sum_by type_bytes ts) (function_type_within t (omega (arith, h.0.params)) (omega (arith, h.0.results))) (own_types ts h.1))

types_take : (m : Module) → AllByRecursion TypeIsFormed m.types → length m.types ≤ 100000 → sum_by type_bytes m.types ≤ 67108864 → Takes IsFunctionType (all_types m) (418 + sum_by type_bytes m.types)
types_take m h few small = record {
  few = omega (arith, length-append host_types m.types, host_types_counted, few);
  small = omega (arith, small);
  each = both_within IsFunctionType host_types m.types 418 (sum_by type_bytes m.types) host_types_within (own_types m.types h);
}

module _ (m : Module) (f : ModuleIsFormed m) where
  one_signature : (fn : Function) → FunctionIsFormed m fn → Within (IsSignature (emitted_function (flat_function fn))) 5
  one_signature fn h =
      let less : fn.signature < length (all_types m) = past (all_types m) fn.signature h.type h.is in
      signature_within (emitted_function (flat_function fn)) (omega (arith, less, length-append host_types m.types, host_types_counted, f.few_types))

  signatures_within : (fns : List Function) → AllByRecursion (FunctionIsFormed m) fns → AllByRecursion (λ fn. Within (IsSignature fn) 5) (map emitted_function (map flat_function fns))
  signatures_within [] h = tt
  signatures_within (fn ∷ fns) h = (one_signature fn h.0, signatures_within fns h.1)

  own_code : (fn : Function) → FunctionIsFormed m fn → function_bytes fn ≤ 67108864 → Within (IsCode (emitted_function (flat_function fn))) (function_bytes fn)
  own_code fn h small =
      one_code fn
      (small_code m f.few_functions f.few_types f.few_globals (omega (arith, host_types_counted)) (h.type.params ++ fn.locals) h.type.results (omega (arith, h.few, length-append h.type.params fn.locals)) 0 _ fn.body h.body (omega (arith, small)))
      small

  codes_within : (fns : List Function) → AllByRecursion (FunctionIsFormed m) fns → sum_by function_bytes fns ≤ 67108864 → Within (IsEach IsCode (map emitted_function (map flat_function fns))) (sum_by function_bytes fns)
  codes_within [] h small = none_within IsCode
  codes_within (fn ∷ fns) h small =
      let whole : sum_by function_bytes (fn ∷ fns) ≡ function_bytes fn + sum_by function_bytes fns = sum_by-cons function_bytes fn fns in
      within_raised (IsEach IsCode (map emitted_function (map flat_function (fn ∷ fns)))) (function_bytes fn + sum_by function_bytes fns) (sum_by function_bytes (fn ∷ fns)) (omega (arith, whole))
      (more_within IsCode (emitted_function (flat_function fn)) (map emitted_function (map flat_function fns)) (function_bytes fn) (sum_by function_bytes fns) (own_code fn h.0 (omega (arith, whole, small))) (codes_within fns h.1 (omega (arith, whole, small))))

  one_global : (g : LowGlobal) → GlobalIsFormed g → Within (IsGlobal (emitted_global g)) 14
  one_global (global.Word z) h = global_within (emitted_global (global.Word z)) 12 (expression_within (constant_ops (global.Word z)) (Then (plain.I32Const z) Stop) refl (h, tt))
  one_global (global.Long z) h = global_within (emitted_global (global.Long z)) 12 (expression_within (constant_ops (global.Long z)) (Then (plain.I64Const z) Stop) refl (h, tt))

  globals_within : (gs : List LowGlobal) → AllByRecursion GlobalIsFormed gs → AllByRecursion (λ g. Within (IsGlobal g) 14) (map emitted_global gs)
  globals_within [] h = tt
  globals_within (g ∷ gs) h = (one_global g h.0, globals_within gs h.1)

  -- Names of entries are text.

  method_ascii : (method : List ℕ) → AllByRecursion (λ b. (33 ≤ b) × (b ≤ 126)) method → AllByRecursion (λ b. b < 128) method
  method_ascii [] h = tt
  method_ascii (b ∷ bs) h = (omega (arith, h.0), method_ascii bs h.1)

  append_ascii : (xs ys : List ℕ) → AllByRecursion (λ b. b < 128) xs → AllByRecursion (λ b. b < 128) ys → AllByRecursion (λ b. b < 128) (xs ++ ys)
  append_ascii [] ys h k = k
  append_ascii (x ∷ xs) ys h k = (h.0, append_ascii xs ys h.1 k)

  literal : (name text : List ℕ) → name ≡ text → is_ascii text ≡ true → IsUtf8 name
  literal name text e h = subst IsUtf8 (sym e) (ascii_text text (ascii_as text h))

  prefixed : (name front method : List ℕ) → name ≡ front ++ method → is_ascii front ≡ true → IsMethodName method → IsUtf8 name
  prefixed name front method e h is = subst IsUtf8 (sym e) (ascii_text (front ++ method) (append_ascii front method (ascii_as front h) (method_ascii method is.visible)))

  entry_text : (name : List ℕ) → IsEntryName name → IsUtf8 name
  entry_text name (inl e) = literal name (codes "canister_init") e refl
  entry_text name (inr (inl e)) = literal name (codes "canister_pre_upgrade") e refl
  entry_text name (inr (inr (inl e))) = literal name (codes "canister_post_upgrade") e refl
  entry_text name (inr (inr (inr (method, is, inl e)))) = prefixed name (codes "canister_update ") method e refl is
  entry_text name (inr (inr (inr (method, is, inr e)))) = prefixed name (codes "canister_query ") method e refl is

  one_export : (e : LowExport) → ExportIsFormed m e → export_bytes e ≤ 67108864 → Within (IsExport (emitted_export e)) (export_bytes e)
  one_export e h small =
      let less : e.function < length (all_signatures m) = type_inside m e.function _ h.plain in
      within_raised (IsExport (emitted_export e)) (5 + length e.name + 6) (export_bytes e) (omega arith)
      (export_within (emitted_export e) (5 + length e.name) (name_within e.name (entry_text e.name h.name) (omega (arith, small))) (omega (arith, less, f.few_functions)))

  exports_within : (es : List LowExport) → AllByRecursion (ExportIsFormed m) es → sum_by export_bytes es ≤ 67108864 → Within (IsEach IsExport (map emitted_export es)) (sum_by export_bytes es)
  exports_within [] h small = none_within IsExport
  exports_within (e ∷ es) h small =
      let whole : sum_by export_bytes (e ∷ es) ≡ export_bytes e + sum_by export_bytes es = sum_by-cons export_bytes e es in
      within_raised (IsEach IsExport (map emitted_export (e ∷ es))) (export_bytes e + sum_by export_bytes es) (sum_by export_bytes (e ∷ es)) (omega (arith, whole))
      (more_within IsExport (emitted_export e) (map emitted_export es) (export_bytes e) (sum_by export_bytes es) (one_export e h.0 (omega (arith, whole, small))) (exports_within es h.1 (omega (arith, whole, small))))

  counted : (es : List LowExport) → length es ≤ sum_by export_bytes es
  counted [] = omega arith
  counted (e ∷ es) = let rest : length es ≤ sum_by export_bytes es = counted es in omega (arith, rest, sum_by-cons export_bytes e es)

  begin_within : Within (IsExpression begin) 12
  begin_within = expression_within begin (Then (plain.I32Const (pos 0)) Stop) refl (record { sfits = omega arith }, tt)

  table_small : (fs : List ℕ) → AllByRecursion (λ f. f < length (all_signatures m)) fs → AllByRecursion (λ f. f < 2 ^ 32) fs
  table_small [] h = tt
  table_small (x ∷ fs) h = (omega (arith, h.0, f.few_functions), table_small fs h.1)

  pub spelled : Within (Written (to_wasm m)) (most_bytes m)
  spelled =
      let short : most_bytes m ≤ 67108864 = f.short in
      let functions : length (map emitted_function (map flat_function m.functions)) ≡ length m.functions = length-map (map flat_function m.functions) emitted_function ∙ length-map m.functions flat_function in
      let globals : length (map emitted_global m.globals) ≡ length m.globals = length-map m.globals emitted_global in
      let exports : length (map emitted_export m.exports) ≡ length m.exports = length-map m.exports emitted_export in
      let few_exports : length m.exports ≤ sum_by export_bytes m.exports = counted m.exports in
      let table : Limits = record { min = length m.table; max = Some (length m.table) } in
      let memory : Limits = record { min = m.pages; max = None } in
      let element : ElementSegment = record { table = 0; offset = begin; functions = m.table } in
      let segment : DataSegment = record { memory = 0; offset = begin; bytes = m.bytes } in
      within_raised (Written (to_wasm m)) _ (most_bytes m) (omega (arith, functions, globals))
      (written_in (to_wasm m) (418 + sum_by type_bytes m.types) 1034 (5 * length (map emitted_function (map flat_function m.functions))) (12 * 1) (11 * 1) (14 * length (map emitted_global m.globals)) (sum_by export_bytes m.exports) ((10 + (12 + 5 * length m.table)) * 1) (sum_by function_bytes m.functions) ((10 + (12 + length m.bytes)) * 1)
      (types_take m f.types f.few_types (omega arith))
      imports_take
      (takes_each IsSignature (map emitted_function (map flat_function m.functions)) 5 (omega (arith, functions)) (omega (arith, functions)) (signatures_within m.functions f.functions))
      (takes_each IsTable (table ∷ []) 12 (omega arith) (omega arith) (table_within table (omega (arith, f.few_entries)) (omega (arith, f.few_entries)), tt))
      (takes_each IsLimits (memory ∷ []) 11 (omega arith) (omega arith) (limits_within memory (omega (arith, f.few_pages)) tt, tt))
      (takes_each IsGlobal (map emitted_global m.globals) 14 (omega (arith, globals)) (omega (arith, globals)) (globals_within m.globals f.globals))
      (record { few = omega (arith, exports, few_exports); small = omega arith; each = exports_within m.exports f.exports (omega arith) })
      tt
      (takes_each IsElement (element ∷ []) (10 + (12 + 5 * length m.table)) (omega arith) (omega arith) (element_within element 12 (omega arith) begin_within (omega (arith, f.few_entries)) (table_small m.table f.table), tt))
      (record { few = omega (arith, functions); small = omega arith; each = codes_within m.functions f.functions (omega arith) })
      (takes_each IsData (segment ∷ []) (10 + (12 + length m.bytes)) (omega arith) (omega arith) (data_within segment 12 (omega arith) begin_within (omega arith), tt)))
