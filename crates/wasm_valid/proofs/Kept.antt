-- A module's parts keep the rules where their check passes, and cannot keep a rule that the check finds broken.
use Rattle.std.proofs.Common.{◌≡◌, ℕ, ◌<◌, ◌^◌, ◌-◌, List, [], ◌∷◌, length, map, slice_get, codes, Option, Some, None, refl, sym, ◌∙◌, true, false, Bool}
use Rattle.std.proofs.lemmas.Bool.{ltb-true, leb-true, lt-ltb, le-leb}
use Rattle.std.specs.Prelude.{IfSome, nat_lt, nat_le, ◌≢◌}
use Rattle.std.specs.List.{AllByRecursion, AllPairs}
use Rattle.std.specs.Str.{bytes_eq}
use Rattle.wasm_tree.specs.declared.rule.Rule.{Rule}
use Rattle.wasm_tree.specs.declared.rule.Rule.TheVariants as rule
use Rattle.wasm_tree.specs.declared.types.ValueType.TheVariants.{I32}
use Rattle.wasm_tree.specs.declared.types.FunctionType.{FunctionType}
use Rattle.wasm_tree.specs.declared.types.Limits.{Limits}
use Rattle.wasm_tree.specs.declared.module_parts.ImportKind.{ImportKind}
use Rattle.wasm_tree.specs.declared.module_parts.ImportKind.TheVariants as «import»
use Rattle.wasm_tree.specs.declared.module_parts.Import.{Import}
use Rattle.wasm_tree.specs.declared.module_parts.ExportKind.{ExportKind}
use Rattle.wasm_tree.specs.declared.module_parts.ExportKind.TheVariants as export
use Rattle.wasm_tree.specs.declared.module_parts.Export.{Export}
use Rattle.wasm_tree.specs.declared.module_parts.Global.{Global}
use Rattle.wasm_tree.specs.declared.module_parts.ElementSegment.{ElementSegment}
use Rattle.wasm_tree.specs.declared.module_parts.DataSegment.{DataSegment}
use Rattle.wasm_tree.specs.declared.module_parts.Module.{Module}
use Rattle.wasm_tree.specs.Rules.{every, only, signatures, type_of}
use Rattle.wasm_tree.specs.Imports.{ic0, IsEntryName}
use Rattle.wasm_tree.specs.Valid.{IsConstant, IsWithin, IsValidType, IsValidTable, IsIc0, IsValidImport, IsEntered, IsEntry, IsValidExport, IsValidElement, IsValidData, HasValidParts}
use Rattle.wasm_tree.proofs.Asked.{found}
use Rattle.wasm_valid.specs.Verdict.{Verdict, Passes, Breaks, need}
use Rattle.wasm_valid.specs.Parts.{each, within, is_constant, knows, is_plain, is_there, is_entry_name, table_check, memory_check, type_check, global_check, import_kind_check, import_check, entry_check, export_entry_check, where_entry, export_check, start_check, index_check, element_check, data_check, parts_check}
use Rattle.wasm_valid.proofs.Stacks.{need_passes, found_passes}
use Rattle.wasm_valid.proofs.Refute.{need_follows, found_follows}
use Rattle.wasm_valid.proofs.Answered.{name_eq, name_same, within_sound, within_complete, constant_sound, constant_complete, plain_sound, plain_complete, there_sound, there_complete, knows_sound, knows_complete, entry_sound, entry_complete}

each_passes : {A : Type 0} (check : A → Verdict → Verdict) (P : A → Type 0) → ((a : A) (next : Verdict) → check a next ≡ Passes → P a × (next ≡ Passes)) → (items : List A) (next : Verdict) → each check items next ≡ Passes
    → AllByRecursion P items × (next ≡ Passes)
each_passes check P passes [] next e = (tt, e)
each_passes check P passes (a ∷ items) next e =
    let h = passes a (each check items next) e in
    let g = each_passes check P passes items next h.1 in
    ((h.0, g.0), g.1)

each_follows : {A : Type 0} (check : A → Verdict → Verdict) (P : A → Type 0) (r : Rule) → ((a : A) (next : Verdict) → P a → check a next ≡ Breaks r → next ≡ Breaks r) → (items : List A) (next : Verdict) → AllByRecursion P items
    → each check items next ≡ Breaks r → next ≡ Breaks r
each_follows check P r follows [] next all e = e
each_follows check P r follows (a ∷ items) next all e = each_follows check P r follows items next all.1 (follows a (each check items next) all.0 e)

module _ (m : Module) where
  type_passes : (t : FunctionType) (next : Verdict) → type_check t next ≡ Passes → IsValidType every m t × (next ≡ Passes)
  type_passes t next e = let h = need_passes rule.Result (nat_le (length t.results) 1) next e in (λ _. leb-true (length t.results) 1 h.0, h.1)

  table_passes : (l : Limits) (next : Verdict) → table_check l next ≡ Passes → IsValidTable every m l × (next ≡ Passes)
  table_passes l next e =
      let h = need_passes rule.Table (within (2 ^ 32 - 1) l) (need rule.Size (nat_le l.min 100000) next) e in
      let g = need_passes rule.Size (nat_le l.min 100000) next h.1 in
      (record { within = λ _. within_sound (2 ^ 32 - 1) l h.0; small = λ _. leb-true l.min 100000 g.0 }, g.1)

  memory_passes : (l : Limits) (next : Verdict) → memory_check l next ≡ Passes → (every rule.Memory → IsWithin 65536 l) × (next ≡ Passes)
  memory_passes l next e = let h = need_passes rule.Memory (within 65536 l) next e in (λ _. within_sound 65536 l h.0, h.1)

  global_passes : (g : Global) (next : Verdict) → global_check g next ≡ Passes → (every rule.Constant → IsConstant g.kind.kind g.init) × (next ≡ Passes)
  global_passes g next e = let h = need_passes rule.Constant (is_constant g.kind.kind g.init) next e in (λ _. constant_sound g.kind.kind g.init h.0, h.1)

  kind_passes : (name : List ℕ) (kind : ImportKind) (next : Verdict) → import_kind_check m name kind next ≡ Passes → IsIc0 every m name kind × (next ≡ Passes)
  kind_passes name («import».Function x) next e =
      let f = found_passes rule.Index (slice_get m.types x) (λ t. need rule.Import (knows ic0 name t) next) e in
      let h = need_passes rule.Import (knows ic0 name f.0) next f.2 in
      ((f.0, found f.1, λ _. knows_sound ic0 name f.0 h.0), h.1)
  kind_passes name («import».Table l) next e = cc
  kind_passes name («import».Memory l) next e = cc
  kind_passes name («import».Global g) next e = cc

  import_passes : (i : Import) (next : Verdict) → import_check m i next ≡ Passes → IsValidImport every m i × (next ≡ Passes)
  import_passes i next e =
      let h = need_passes rule.Import (bytes_eq i.«module» (codes "ic0")) (import_kind_check m i.name i.kind next) e in
      let g = kind_passes i.name i.kind next h.1 in
      (record { of_ic0 = λ _. name_eq i.«module» (codes "ic0") h.0; function = g.0 }, g.1)

  start_entered : (f : ℕ) (next : Verdict) → entry_check m (signatures m) true f next ≡ Passes → IsEntered every m rule.Start f × (next ≡ Passes)
  start_entered f next e =
      let t = found_passes rule.Index (type_of m f) (λ t. need rule.Start (is_plain t) next) e in
      let h = need_passes rule.Start (is_plain t.0) next t.2 in
      (record { type = t.0; of_function = found t.1; plain = λ _. plain_sound t.0 h.0 }, h.1)

  export_entered : (f : ℕ) (next : Verdict) → entry_check m (signatures m) false f next ≡ Passes → IsEntered every m rule.Export f × (next ≡ Passes)
  export_entered f next e =
      let t = found_passes rule.Index (type_of m f) (λ t. need rule.Export (is_plain t) next) e in
      let h = need_passes rule.Export (is_plain t.0) next t.2 in
      (record { type = t.0; of_function = found t.1; plain = λ _. plain_sound t.0 h.0 }, h.1)

  entry_passes : (kind : ExportKind) (next : Verdict) → export_entry_check m (signatures m) kind next ≡ Passes → IsEntry every m kind × (next ≡ Passes)
  entry_passes (export.Function f) next e = export_entered f next e
  entry_passes (export.Table t) next e = cc
  entry_passes (export.Memory x) next e = cc
  entry_passes (export.Global g) next e = cc

  export_passes : (e : Export) (next : Verdict) → export_check m (signatures m) e next ≡ Passes → IsValidExport every m e × (next ≡ Passes)
  export_passes x next e =
      let h = need_passes rule.Index (is_there m (signatures m) x.kind) (where_entry (is_entry_name x.name) (export_entry_check m (signatures m) x.kind next) next) e in
      let g = by_name (is_entry_name x.name) refl h.1 in
      (record { there = λ _. there_sound m x.kind h.0; entry = g.0 }, g.1)
    where
      by_name : (b : Bool) → is_entry_name x.name ≡ b → where_entry b (export_entry_check m (signatures m) x.kind next) next ≡ Passes → (IsEntryName x.name → IsEntry every m x.kind) × (next ≡ Passes)
      by_name true is e = let g = entry_passes x.kind next e in (λ _. g.0, g.1)
      by_name false is e = (λ n. let yes : is_entry_name x.name ≡ true = entry_complete x.name n in absurd_of (sym is ∙ yes), e)
        where
          absurd_of : false ≡ true → IsEntry every m x.kind
          absurd_of impossible = cc

  start_passes : (start : Option ℕ) (next : Verdict) → start_check m (signatures m) start next ≡ Passes → IfSome start (IsEntered every m rule.Start) × (next ≡ Passes)
  start_passes None next e = (tt, e)
  start_passes (Some f) next e = start_entered f next e

  index_passes : (f : ℕ) (next : Verdict) → index_check (signatures m) f next ≡ Passes → (every rule.Index → f < length (signatures m)) × (next ≡ Passes)
  index_passes f next e = let h = need_passes rule.Index (nat_lt f (length (signatures m))) next e in (λ _. ltb-true f (length (signatures m)) h.0, h.1)

  element_passes : (s : ElementSegment) (next : Verdict) → element_check m (signatures m) s next ≡ Passes → IsValidElement every m s × (next ≡ Passes)
  element_passes s next e =
      let h = need_passes rule.Index (nat_lt s.table (length m.tables)) (need rule.Constant (is_constant I32 s.offset) (each (index_check (signatures m)) s.functions next)) e in
      let g = need_passes rule.Constant (is_constant I32 s.offset) (each (index_check (signatures m)) s.functions next) h.1 in
      let f = each_passes (index_check (signatures m)) (λ f. every rule.Index → f < length (signatures m)) index_passes s.functions next g.1 in
      (record { table = λ _. ltb-true s.table (length m.tables) h.0; offset = λ _. constant_sound I32 s.offset g.0; functions = f.0 }, f.1)

  data_passes : (s : DataSegment) (next : Verdict) → data_check m s next ≡ Passes → IsValidData every m s × (next ≡ Passes)
  data_passes s next e =
      let h = need_passes rule.Index (nat_lt s.memory (length m.memories)) (need rule.Constant (is_constant I32 s.offset) next) e in
      let g = need_passes rule.Constant (is_constant I32 s.offset) next h.1 in
      (record { memory = λ _. ltb-true s.memory (length m.memories) h.0; offset = λ _. constant_sound I32 s.offset g.0 }, g.1)

  pub parts_kept : AllPairs (λ a b. a ≢ b) (map (λ e. e.name) m.exports) → parts_check m (signatures m) Passes ≡ Passes → HasValidParts every m
  parts_kept names e =
      let n = need_passes rule.Size (nat_le (length (signatures m)) 100000) _ e in
      let n2 = need_passes rule.Size (nat_le (length m.globals) 10000) _ n.1 in
      let types = each_passes type_check (IsValidType every m) type_passes m.types _ n2.1 in
      let imports = each_passes (import_check m) (IsValidImport every m) import_passes m.imports _ types.1 in
      let one_table = need_passes rule.Table (nat_le (length m.tables) 1) _ imports.1 in
      let tables = each_passes table_check (IsValidTable every m) table_passes m.tables _ one_table.1 in
      let one_memory = need_passes rule.Memory (nat_le (length m.memories) 1) _ tables.1 in
      let memories = each_passes memory_check (λ l. every rule.Memory → IsWithin 65536 l) memory_passes m.memories _ one_memory.1 in
      let globals = each_passes global_check (λ g. every rule.Constant → IsConstant g.kind.kind g.init) global_passes m.globals _ memories.1 in
      let exports = each_passes (export_check m (signatures m)) (IsValidExport every m) export_passes m.exports _ globals.1 in
      let start = start_passes m.start _ exports.1 in
      let elements = each_passes (element_check m (signatures m)) (IsValidElement every m) element_passes m.elements _ start.1 in
      let segments = each_passes (data_check m) (IsValidData every m) data_passes m.segments _ elements.1 in
      record {
        types = types.0;
        imports = imports.0;
        one_table = λ _. leb-true (length m.tables) 1 one_table.0;
        tables = tables.0;
        one_memory = λ _. leb-true (length m.memories) 1 one_memory.0;
        memories = memories.0;
        globals = globals.0;
        exports = exports.0;
        names = λ _. names;
        start = start.0;
        elements = elements.0;
        segments = segments.0;
        small = λ _. record { functions = leb-true (length (signatures m)) 100000 n.0; globals = leb-true (length m.globals) 10000 n2.0 };
      }

-- The conditions of each check hold where the rule is asked for, so that what it finds broken lies behind it.
module _ (m : Module) (r : Rule) where
  kept : (q : Rule) (b : Bool) (next : Verdict) → (only r q → b ≡ true) → need q b next ≡ Breaks r → next ≡ Breaks r
  kept q b next holds e = need_follows (only r) r refl q b next holds e

  type_follows : (t : FunctionType) (next : Verdict) → IsValidType (only r) m t → type_check t next ≡ Breaks r → next ≡ Breaks r
  type_follows t next v e = kept rule.Result (nat_le (length t.results) 1) next (λ a. le-leb (length t.results) 1 (v a)) e

  table_follows : (l : Limits) (next : Verdict) → IsValidTable (only r) m l → table_check l next ≡ Breaks r → next ≡ Breaks r
  table_follows l next v e =
      kept rule.Size (nat_le l.min 100000) next (λ a. le-leb l.min 100000 (v.small a))
      (kept rule.Table (within (2 ^ 32 - 1) l) (need rule.Size (nat_le l.min 100000) next) (λ a. within_complete (2 ^ 32 - 1) l (v.within a)) e)

  memory_follows : (l : Limits) (next : Verdict) → (only r rule.Memory → IsWithin 65536 l) → memory_check l next ≡ Breaks r → next ≡ Breaks r
  memory_follows l next v e = kept rule.Memory (within 65536 l) next (λ a. within_complete 65536 l (v a)) e

  global_follows : (g : Global) (next : Verdict) → (only r rule.Constant → IsConstant g.kind.kind g.init) → global_check g next ≡ Breaks r → next ≡ Breaks r
  global_follows g next v e = kept rule.Constant (is_constant g.kind.kind g.init) next (λ a. constant_complete g.kind.kind g.init (v a)) e

  kind_follows : (name : List ℕ) (kind : ImportKind) (next : Verdict) → IsIc0 (only r) m name kind → import_kind_check m name kind next ≡ Breaks r → next ≡ Breaks r
  kind_follows name («import».Function x) next v e =
      kept rule.Import (knows ic0 name v.0) next (λ a. let c = v.2 a in knows_complete ic0 name v.0 c.0 c.1 c.2)
      (found_follows (only r) r refl rule.Index (slice_get m.types x) (λ t. need rule.Import (knows ic0 name t) next) v.0 v.1 e)
  kind_follows name («import».Table l) next v e = absurd (v cc)
  kind_follows name («import».Memory l) next v e = absurd (v cc)
  kind_follows name («import».Global g) next v e = absurd (v cc)

  import_follows : (i : Import) (next : Verdict) → IsValidImport (only r) m i → import_check m i next ≡ Breaks r → next ≡ Breaks r
  import_follows i next v e =
      kind_follows i.name i.kind next v.function
      (kept rule.Import (bytes_eq i.«module» (codes "ic0")) (import_kind_check m i.name i.kind next) (λ a. name_same i.«module» (codes "ic0") (v.of_ic0 a)) e)

  start_entered_follows : (f : ℕ) (next : Verdict) → IsEntered (only r) m rule.Start f → entry_check m (signatures m) true f next ≡ Breaks r → next ≡ Breaks r
  start_entered_follows f next v e =
      kept rule.Start (is_plain v.type) next (λ a. plain_complete v.type (v.plain a))
      (found_follows (only r) r refl rule.Index (type_of m f) (λ t. need rule.Start (is_plain t) next) v.type v.of_function e)

  export_entered_follows : (f : ℕ) (next : Verdict) → IsEntered (only r) m rule.Export f → entry_check m (signatures m) false f next ≡ Breaks r → next ≡ Breaks r
  export_entered_follows f next v e =
      kept rule.Export (is_plain v.type) next (λ a. plain_complete v.type (v.plain a))
      (found_follows (only r) r refl rule.Index (type_of m f) (λ t. need rule.Export (is_plain t) next) v.type v.of_function e)

  entry_follows : (kind : ExportKind) (next : Verdict) → IsEntry (only r) m kind → export_entry_check m (signatures m) kind next ≡ Breaks r → next ≡ Breaks r
  entry_follows (export.Function f) next v e = export_entered_follows f next v e
  entry_follows (export.Table t) next v e = absurd (v cc)
  entry_follows (export.Memory x) next v e = absurd (v cc)
  entry_follows (export.Global g) next v e = absurd (v cc)

  export_follows : (e : Export) (next : Verdict) → IsValidExport (only r) m e → export_check m (signatures m) e next ≡ Breaks r → next ≡ Breaks r
  export_follows x next v e =
      by_name (is_entry_name x.name) refl
      (kept rule.Index (is_there m (signatures m) x.kind) (where_entry (is_entry_name x.name) (export_entry_check m (signatures m) x.kind next) next) (λ a. there_complete m x.kind (v.there a)) e)
    where
      by_name : (b : Bool) → is_entry_name x.name ≡ b → where_entry b (export_entry_check m (signatures m) x.kind next) next ≡ Breaks r → next ≡ Breaks r
      by_name true is e = entry_follows x.kind next (v.entry (entry_sound x.name is)) e
      by_name false is e = e

  start_follows : (start : Option ℕ) (next : Verdict) → IfSome start (IsEntered (only r) m rule.Start) → start_check m (signatures m) start next ≡ Breaks r → next ≡ Breaks r
  start_follows None next v e = e
  start_follows (Some f) next v e = start_entered_follows f next v e

  index_follows : (f : ℕ) (next : Verdict) → (only r rule.Index → f < length (signatures m)) → index_check (signatures m) f next ≡ Breaks r → next ≡ Breaks r
  index_follows f next v e = kept rule.Index (nat_lt f (length (signatures m))) next (λ a. lt-ltb f (length (signatures m)) (v a)) e

  element_follows : (s : ElementSegment) (next : Verdict) → IsValidElement (only r) m s → element_check m (signatures m) s next ≡ Breaks r → next ≡ Breaks r
  element_follows s next v e =
      each_follows (index_check (signatures m)) (λ f. only r rule.Index → f < length (signatures m)) r index_follows s.functions next v.functions
      (kept rule.Constant (is_constant I32 s.offset) (each (index_check (signatures m)) s.functions next) (λ a. constant_complete I32 s.offset (v.offset a))
      (kept rule.Index (nat_lt s.table (length m.tables)) (need rule.Constant (is_constant I32 s.offset) (each (index_check (signatures m)) s.functions next)) (λ a. lt-ltb s.table (length m.tables) (v.table a)) e))

  data_follows : (s : DataSegment) (next : Verdict) → IsValidData (only r) m s → data_check m s next ≡ Breaks r → next ≡ Breaks r
  data_follows s next v e =
      kept rule.Constant (is_constant I32 s.offset) next (λ a. constant_complete I32 s.offset (v.offset a))
      (kept rule.Index (nat_lt s.memory (length m.memories)) (need rule.Constant (is_constant I32 s.offset) next) (λ a. lt-ltb s.memory (length m.memories) (v.memory a)) e)

  pub parts_follow : (next : Verdict) → HasValidParts (only r) m → parts_check m (signatures m) next ≡ Breaks r → next ≡ Breaks r
  parts_follow next v e =
      let size = kept rule.Size (nat_le (length m.globals) 10000) _ (λ a. let s = v.small a in le-leb (length m.globals) 10000 s.globals)
      (kept rule.Size (nat_le (length (signatures m)) 100000) _ (λ a. let s = v.small a in le-leb (length (signatures m)) 100000 s.functions) e) in
      let types = each_follows type_check (IsValidType (only r) m) r type_follows m.types _ v.types size in
      let imports = each_follows (import_check m) (IsValidImport (only r) m) r import_follows m.imports _ v.imports types in
      let one_table = kept rule.Table (nat_le (length m.tables) 1) _ (λ a. le-leb (length m.tables) 1 (v.one_table a)) imports in
      let tables = each_follows table_check (IsValidTable (only r) m) r table_follows m.tables _ v.tables one_table in
      let one_memory = kept rule.Memory (nat_le (length m.memories) 1) _ (λ a. le-leb (length m.memories) 1 (v.one_memory a)) tables in
      let memories = each_follows memory_check (λ l. only r rule.Memory → IsWithin 65536 l) r memory_follows m.memories _ v.memories one_memory in
      let globals = each_follows global_check (λ g. only r rule.Constant → IsConstant g.kind.kind g.init) r global_follows m.globals _ v.globals memories in
      let exports = each_follows (export_check m (signatures m)) (IsValidExport (only r) m) r export_follows m.exports _ v.exports globals in
      let start = start_follows m.start _ v.start exports in
      let elements = each_follows (element_check m (signatures m)) (IsValidElement (only r) m) r element_follows m.elements _ v.elements start in
      each_follows (data_check m) (IsValidData (only r) m) r data_follows m.segments next v.segments elements
