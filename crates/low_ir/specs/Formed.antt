-- Low code that is formed: what it uses is there with its kind, and its numbers are small enough to be spelled.
use Rattle.std.specs.Prelude.{◌≡◌, ◌≢◌, ◌+◌, ◌*◌, ◌<◌, ◌≤◌, ◌^◌, ℕ, suc, List, [], ◌∷◌, ◌++◌, length, map, reverse, Option, Some, None, slice_get, AllPairs, FitsSigned}
use Rattle.std.specs.Int.{w32, w64}
use Rattle.std.specs.List.{AllByRecursion, AllZip, sum_by}
use Rattle.wasm_tree.specs.declared.types.ValueType.{ValueType}
use Rattle.wasm_tree.specs.declared.types.ValueType.TheVariants.{I32, I64}
use Rattle.wasm_tree.specs.declared.types.FunctionType.{FunctionType}
use Rattle.wasm_tree.specs.declared.op.Conversion.TheVariants.{Wrap, ExtendS, ExtendU}
use Rattle.wasm_tree.specs.Rules.{load_type, store_type}
use Rattle.wasm_tree.specs.Imports.{entry_type, IsEntryName}
use Rattle.low_ir.specs.declared.op.Operand.{Operand}
use Rattle.low_ir.specs.declared.op.Operand.TheVariants.{Local, Word, Long}
use Rattle.low_ir.specs.declared.op.Operation.{Operation}
use Rattle.low_ir.specs.declared.op.Operation.TheVariants.{Copy, IsZero, Compare, Unary, Binary, Convert, Load, Global, Size}
use Rattle.low_ir.specs.declared.module_parts.LowGlobal.{LowGlobal}
use Rattle.low_ir.specs.declared.module_parts.LowGlobal.TheVariants as global
use Rattle.low_ir.specs.declared.module_parts.LowExport.{LowExport}
use Rattle.low_ir.specs.Tree.{Code, Stop, Return, Branch, Trap, Set, SetGlobal, Store, Grow, GrowStable, Block, Loop, If, BranchIf, Call, CallIndirect, Function, Module}
use Rattle.low_ir.specs.declared.module_parts.LowModule.{LowModule}
use Rattle.low_ir.specs.Flat.{flat, flat_module}
use Rattle.low_ir.specs.Numbering.{type_of, all_types, all_signatures, kind_of}

abbrev pub OperandIs : List ValueType → Operand → ValueType → Type 0
OperandIs locals (Local x) kind = slice_get locals x ≡ Some kind
OperandIs locals (Word z) kind = (kind ≡ I32) × FitsSigned w32 z
OperandIs locals (Long z) kind = (kind ≡ I64) × FitsSigned w64 z

abbrev pub global_kind : Module → ℕ → Option ValueType
global_kind m x = slice_get (map kind_of m.globals) x

-- The operation gives a value of this kind.
abbrev pub OperationIs : Module → List ValueType → Operation → ValueType → Type 0
OperationIs m locals (Copy a) kind = OperandIs locals a kind
OperationIs m locals (IsZero of a) kind = OperandIs locals a of × (kind ≡ I32)
OperationIs m locals (Compare of o a b) kind = OperandIs locals a of × OperandIs locals b of × (kind ≡ I32)
OperationIs m locals (Unary of o a) kind = OperandIs locals a of × (kind ≡ of)
OperationIs m locals (Binary of o a b) kind = OperandIs locals a of × OperandIs locals b of × (kind ≡ of)
OperationIs m locals (Convert Wrap a) kind = OperandIs locals a I64 × (kind ≡ I32)
OperationIs m locals (Convert ExtendS a) kind = OperandIs locals a I32 × (kind ≡ I64)
OperationIs m locals (Convert ExtendU a) kind = OperandIs locals a I32 × (kind ≡ I64)
OperationIs m locals (Load of a offset) kind = OperandIs locals a I32 × (offset < 2 ^ 32) × (kind ≡ load_type of)
OperationIs m locals (Global x) kind = global_kind m x ≡ Some kind
OperationIs m locals Size kind = kind ≡ I32

-- There is a local for what a function gives, exactly where it gives something.
abbrev pub ResultIs : List ValueType → Option ℕ → List ValueType → Type 0
ResultIs locals None results = results ≡ []
ResultIs locals (Some x) results = (kind : ValueType) × (results ≡ kind ∷ []) × (slice_get locals x ≡ Some kind)

pub record CallIs (locals : List ValueType) (found : Option FunctionType) (args : List Operand) (result : Option ℕ) : Type 0 where
  pub type : FunctionType
  pub is : found ≡ Some type
  pub kinds : AllZip (OperandIs locals) args type.params
  pub gives : ResultIs locals result type.results

-- Code inside so many constructs of a function with these results. Where its end is reached, a value is owed that no code
-- leaves, so that there is none.
module _ (m : Module) (locals results : List ValueType) where
  abbrev pub IsFormed : ℕ → List ValueType → Code → Type 0
  IsFormed labels owed Stop = [] ≡ owed
  IsFormed labels owed (Return None) = results ≡ []
  IsFormed labels owed (Return (Some a)) = (kind : ValueType) × OperandIs locals a kind × (results ≡ kind ∷ [])
  IsFormed labels owed (Branch label) = label < labels
  IsFormed labels owed (Trap a b) = OperandIs locals a I32 × OperandIs locals b I32
  IsFormed labels owed (Set x o rest) = (kind : ValueType) × (slice_get locals x ≡ Some kind) × OperationIs m locals o kind × IsFormed labels owed rest
  IsFormed labels owed (SetGlobal x a rest) = (kind : ValueType) × (global_kind m x ≡ Some kind) × OperandIs locals a kind × IsFormed labels owed rest
  IsFormed labels owed (Store kind a offset b rest) = OperandIs locals a I32 × (offset < 2 ^ 32) × OperandIs locals b (store_type kind) × IsFormed labels owed rest
  IsFormed labels owed (Grow a rest) = OperandIs locals a I32 × IsFormed labels owed rest
  IsFormed labels owed (GrowStable a rest) = OperandIs locals a I64 × IsFormed labels owed rest
  IsFormed labels owed (Block body rest) = IsFormed (suc labels) [] body × IsFormed labels owed rest
  IsFormed labels owed (Loop body rest) = IsFormed (suc labels) [] body × IsFormed labels owed rest
  IsFormed labels owed (If a first second rest) = OperandIs locals a I32 × IsFormed (suc labels) [] first × IsFormed (suc labels) [] second × IsFormed labels owed rest
  IsFormed labels owed (BranchIf a label rest) = OperandIs locals a I32 × (label < labels) × IsFormed labels owed rest
  IsFormed labels owed (Call result f args rest) = CallIs locals (type_of m f) args result × IsFormed labels owed rest
  IsFormed labels owed (CallIndirect result x args a rest) = CallIs locals (slice_get (all_types m) x) args result × OperandIs locals a I32 × IsFormed labels owed rest

pub record FunctionIsFormed (m : Module) (fn : Function) : Type 0 where
  pub type : FunctionType
  pub is : slice_get (all_types m) fn.signature ≡ Some type
  pub few : length type.params + length fn.locals ≤ 50000
  pub body : IsFormed m (type.params ++ fn.locals) type.results 0 (reverse type.results) fn.body

pub record TypeIsFormed (t : FunctionType) : Type 0 where
  pub results : length t.results ≤ 1
  pub params : length t.params ≤ 50000

-- An export has a name by which the host enters, and its function takes nothing and gives nothing.
pub record ExportIsFormed (m : Module) (e : LowExport) : Type 0 where
  pub name : IsEntryName e.name
  pub plain : type_of m e.function ≡ Some entry_type

abbrev pub GlobalIsFormed : LowGlobal → Type 0
GlobalIsFormed (global.Word z) = FitsSigned w32 z
GlobalIsFormed (global.Long z) = FitsSigned w64 z

-- At most so many bytes spell the module: 2,500 for the host's interface and for what surrounds the parts, and a stated number
-- for each part, of which 33 for each instruction.
abbrev pub function_bytes : Function → ℕ
function_bytes f = 11 + (6 * length f.locals + 33 * length (flat f.body))

abbrev pub type_bytes : FunctionType → ℕ
type_bytes t = 11 + (length t.params + length t.results)

abbrev pub export_bytes : LowExport → ℕ
export_bytes e = 11 + length e.name

abbrev pub most_bytes : Module → ℕ
most_bytes m =
    2500 + sum_by type_bytes m.types + 5 * length m.functions + sum_by function_bytes m.functions + 5 * length m.table + 14 * length m.globals
    + sum_by export_bytes m.exports + length m.bytes

pub record ModuleIsFormed (m : Module) : Type 0 where
  pub types : AllByRecursion TypeIsFormed m.types
  pub functions : AllByRecursion (FunctionIsFormed m) m.functions
  pub table : AllByRecursion (λ f. f < length (all_signatures m)) m.table
  pub globals : AllByRecursion GlobalIsFormed m.globals
  pub exports : AllByRecursion (ExportIsFormed m) m.exports
  pub names : AllPairs (λ a b. a ≢ b) (map (λ e. e.name) m.exports)
  pub few_types : length m.types ≤ 100000
  pub few_functions : length (all_signatures m) ≤ 100000
  pub few_entries : length m.table ≤ 100000
  pub few_globals : length m.globals ≤ 10000
  pub few_pages : m.pages ≤ 65536
  pub fits : length m.bytes ≤ 65536 * m.pages
  pub short : most_bytes m ≤ 67108864

-- The module as the code holds it is that of a formed one.
pub record IsFormedModule (low : LowModule) : Type 0 where
  pub tree : Module
  pub is : low ≡ flat_module tree
  pub formed : ModuleIsFormed tree
