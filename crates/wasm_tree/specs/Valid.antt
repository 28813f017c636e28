-- The rules of validation: WebAssembly Core 1.0 section 3, within the profile, and what the host asks of imports
-- and exports.
use Rattle.std.specs.Prelude.{◌≡◌, ◌≢◌, ◌<◌, ◌≤◌, ◌⊎◌, ◌^◌, ◌-◌, ◌+◌, ℕ, List, [], ◌∷◌, ◌++◌, length, map, reverse, slice_get, Option, Some, None, IfSome, Contains, AllPairs, codes, ℤ}
use Rattle.std.specs.List.{AllByRecursion}
use Rattle.wasm_tree.specs.declared.rule.Rule.{Rule}
use Rattle.wasm_tree.specs.declared.rule.Rule.TheVariants as rule
use Rattle.wasm_tree.specs.declared.types.ValueType.{ValueType}
use Rattle.wasm_tree.specs.declared.types.ValueType.TheVariants.{I32, I64}
use Rattle.wasm_tree.specs.declared.types.FunctionType.{FunctionType}
use Rattle.wasm_tree.specs.declared.types.Limits.{Limits}
use Rattle.wasm_tree.specs.declared.op.Plain.TheVariants as plain
use Rattle.wasm_tree.specs.declared.op.Op.{Op}
use Rattle.wasm_tree.specs.declared.op.Op.TheVariants as op
use Rattle.wasm_tree.specs.declared.module_parts.ImportKind.{ImportKind}
use Rattle.wasm_tree.specs.declared.module_parts.ImportKind.TheVariants as «import»
use Rattle.wasm_tree.specs.declared.module_parts.Import.{Import}
use Rattle.wasm_tree.specs.declared.module_parts.Function.{Function}
use Rattle.wasm_tree.specs.declared.module_parts.ExportKind.{ExportKind}
use Rattle.wasm_tree.specs.declared.module_parts.ExportKind.TheVariants as export
use Rattle.wasm_tree.specs.declared.module_parts.Export.{Export}
use Rattle.wasm_tree.specs.declared.module_parts.ElementSegment.{ElementSegment}
use Rattle.wasm_tree.specs.declared.module_parts.DataSegment.{DataSegment}
use Rattle.wasm_tree.specs.declared.module_parts.Module.{Module}
use Rattle.wasm_tree.specs.Code.{Code, IsFlat}
use Rattle.wasm_tree.specs.Imports.{ic0, entry_type, IsEntryName}
pub use Rattle.wasm_tree.specs.Rules.{imported_signatures, signatures, grouped, results_of}
use Rattle.wasm_tree.specs.Rules.{Context, every, only, IsFound, type_of}
use Rattle.wasm_tree.specs.Typing.{IsTyped}

-- A constant of this type (section 3.3.7). A `global.get` would name an imported global, and none is imported.
abbrev pub IsConstant : ValueType → List Op → Type 0
IsConstant kind ops =
    ((z : ℤ) × (ops ≡ op.Plain (plain.I32Const z) ∷ []) × (kind ≡ I32)) ⊎ ((z : ℤ) × (ops ≡ op.Plain (plain.I64Const z) ∷ []) × (kind ≡ I64))

abbrev pub ic0_name : List ℕ
ic0_name = codes "ic0"

-- The least size is at most the greatest, and neither passes the bound (section 3.2.1).
pub record IsWithin (bound : ℕ) (l : Limits) : Type 0 where
  pub min : l.min ≤ bound
  pub max : IfSome l.max (λ max. (l.min ≤ max) × (max ≤ bound))

-- What is exported is there (section 3.4.4).
abbrev pub IsThere : Module → ExportKind → Type 0
IsThere m (export.Function f) = f < length (signatures m)
IsThere m (export.Table t) = t < length m.tables
IsThere m (export.Memory x) = x < length m.memories
IsThere m (export.Global g) = g < length m.globals

-- The sizes that the profile admits.
pub record IsSmall (m : Module) : Type 0 where
  pub functions : length (signatures m) ≤ 100000
  pub globals : length m.globals ≤ 10000

-- What a body may use: its parameters and locals, and the label of the body, which takes its results (section 3.4.1).
abbrev pub body_context : Module → FunctionType → Function → Context
body_context m t f = record { within = m; locals = t.params ++ grouped f.locals; labels = reverse t.results ∷ []; results = reverse t.results }

module _ (asked : Rule → Type 0) (m : Module) where
  -- A body takes its parameters and gives its results (section 3.4.1).
  pub record IsValidFunction (f : Function) : Type 0 where
    pub type : FunctionType
    pub of_type : IsFound (asked rule.Index) (slice_get m.types f.signature) type
    pub tree : Code
    pub nested : IsFlat f.body tree
    pub typed : IsTyped asked (body_context m type f) [] tree (reverse type.results)

  -- A type has at most one result (section 3.2.2).
  abbrev pub IsValidType : FunctionType → Type 0
  IsValidType t = asked rule.Result → length t.results ≤ 1

  -- The profile admits so many entries at first.
  pub record IsValidTable (l : Limits) : Type 0 where
    pub within : asked rule.Table → IsWithin (2 ^ 32 - 1) l
    pub small : asked rule.Size → l.min ≤ 100000

  -- A function of `ic0` with its type.
  abbrev pub IsIc0 : List ℕ → ImportKind → Type 0
  IsIc0 name («import».Function signature) =
      (t : FunctionType) × IsFound (asked rule.Index) (slice_get m.types signature) t × (asked rule.Import → Contains ic0 (name, t))
  IsIc0 name («import».Table l) = asked rule.Import → ⊥
  IsIc0 name («import».Memory l) = asked rule.Import → ⊥
  IsIc0 name («import».Global g) = asked rule.Import → ⊥

  pub record IsValidImport (i : Import) : Type 0 where
    pub of_ic0 : asked rule.Import → i.«module» ≡ ic0_name
    pub function : IsIc0 i.name i.kind

  -- A function that the host enters is from nothing to nothing, by this rule.
  pub record IsEntered (r : Rule) (function : ℕ) : Type 0 where
    pub type : FunctionType
    pub of_function : IsFound (asked rule.Index) (type_of m function) type
    pub plain : asked r → type ≡ entry_type

  -- The host enters only functions.
  abbrev pub IsEntry : ExportKind → Type 0
  IsEntry (export.Function f) = IsEntered rule.Export f
  IsEntry (export.Table t) = asked rule.Export → ⊥
  IsEntry (export.Memory x) = asked rule.Export → ⊥
  IsEntry (export.Global g) = asked rule.Export → ⊥

  pub record IsValidExport (e : Export) : Type 0 where
    pub there : asked rule.Index → IsThere m e.kind
    pub entry : IsEntryName e.name → IsEntry e.kind

  pub record IsValidElement (s : ElementSegment) : Type 0 where
    pub table : asked rule.Index → s.table < length m.tables
    pub offset : asked rule.Constant → IsConstant I32 s.offset
    pub functions : AllByRecursion (λ f. asked rule.Index → f < length (signatures m)) s.functions

  pub record IsValidData (s : DataSegment) : Type 0 where
    pub memory : asked rule.Index → s.memory < length m.memories
    pub offset : asked rule.Constant → IsConstant I32 s.offset

  -- What is asked of a module besides its functions (section 3.4.10).
  pub record HasValidParts : Type 0 where
    pub types : AllByRecursion IsValidType m.types
    pub imports : AllByRecursion IsValidImport m.imports
    pub one_table : asked rule.Table → length m.tables ≤ 1
    pub tables : AllByRecursion IsValidTable m.tables
    pub one_memory : asked rule.Memory → length m.memories ≤ 1
    pub memories : AllByRecursion (λ l. asked rule.Memory → IsWithin 65536 l) m.memories
    pub globals : AllByRecursion (λ g. asked rule.Constant → IsConstant g.kind.kind g.init) m.globals
    pub exports : AllByRecursion IsValidExport m.exports
    pub names : asked rule.Export → AllPairs (λ a b. a ≢ b) (map (λ e. e.name) m.exports)
    pub start : IfSome m.start (IsEntered rule.Start)
    pub elements : AllByRecursion IsValidElement m.elements
    pub segments : AllByRecursion IsValidData m.segments
    pub small : asked rule.Size → IsSmall m

-- Every rule holds of the module (section 3.4.10).
pub record ValidModule (m : Module) : Type 0 where
  pub parts : HasValidParts every m
  pub functions : AllByRecursion (IsValidFunction every m) m.functions

-- The function with this number, which the module defines, cannot keep the rule, even where no other is asked for.
-- Numbers count all functions, the imported ones first.
pub record FunctionFails (m : Module) (number : ℕ) (r : Rule) : Type 0 where
  pub place : ℕ
  pub counted : number ≡ length (imported_signatures m.imports) + place
  pub function : Function
  pub there : slice_get m.functions place ≡ Some function
  pub broken : IsValidFunction (only r) m function → ⊥

-- The rule is broken in this function, or outside the functions.
abbrev pub Fails : Module → Option ℕ → Rule → Type 0
Fails m None r = HasValidParts (only r) m → ⊥
Fails m (Some number) r = FunctionFails m number r
