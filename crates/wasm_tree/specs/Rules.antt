-- What a validation asks for, and what instructions find: WebAssembly Core 1.0 sections 3.1 to 3.3.
use Rattle.std.specs.Prelude.{◌≡◌, ◌≤◌, ℕ, List, [], ◌∷◌, ◌++◌, length, map, drop, replicate, slice_get, Option, Some, None, IfSome, ⊤}
use Rattle.wasm_tree.specs.declared.rule.Rule.{Rule}
use Rattle.wasm_tree.specs.declared.rule.Rule.TheVariants as rule
use Rattle.wasm_tree.specs.declared.types.ValueType.{ValueType}
use Rattle.wasm_tree.specs.declared.types.ValueType.TheVariants.{I32, I64}
use Rattle.wasm_tree.specs.declared.types.FunctionType.{FunctionType}
use Rattle.wasm_tree.specs.declared.types.GlobalType.{GlobalType}
use Rattle.wasm_tree.specs.declared.op.LoadKind.{LoadKind}
use Rattle.wasm_tree.specs.declared.op.LoadKind.TheVariants as load
use Rattle.wasm_tree.specs.declared.op.StoreKind.{StoreKind}
use Rattle.wasm_tree.specs.declared.op.StoreKind.TheVariants as store
use Rattle.wasm_tree.specs.declared.module_parts.ImportKind.{ImportKind}
use Rattle.wasm_tree.specs.declared.module_parts.ImportKind.TheVariants as «import»
use Rattle.wasm_tree.specs.declared.module_parts.Import.{Import}
use Rattle.wasm_tree.specs.declared.module_parts.Locals.{Locals}
use Rattle.wasm_tree.specs.declared.module_parts.Module.{Module}

-- Which rules are asked for. A condition that belongs to a rule holds where that rule is asked for, and what is not
-- asked for is still determined wherever it can be, so that a rule that cannot be kept alone is itself at fault.

abbrev pub every : Rule → Type 0
every r = ⊤

abbrev pub only : Rule → Rule → Type 0
only r other = other ≡ r

-- The item is the one that was found. Where it is asked for, one was found.
pub record IsFound {A : Type 0} (asked : Type 0) (found : Option A) (item : A) : Type 0 where
  pub there : asked → found ≡ Some item
  pub same : IfSome found (λ other. other ≡ item)

-- The index of an imported function's type, if it is a function.
abbrev pub imported_signature : ImportKind → List ℕ
imported_signature («import».Function signature) = signature ∷ []
imported_signature («import».Table l) = []
imported_signature («import».Memory l) = []
imported_signature («import».Global g) = []

abbrev pub imported_signatures : List Import → List ℕ
imported_signatures [] = []
imported_signatures (i ∷ is) = imported_signature i.kind ++ imported_signatures is

-- The types' indices of all functions, the imported ones first.
abbrev pub signatures : Module → List ℕ
signatures m = imported_signatures m.imports ++ map (λ f. f.signature) m.functions

abbrev pub or_no : {A B : Type 0} → Option A → (A → Option B) → Option B
or_no None f = None
or_no (Some a) f = f a

-- The type of the function with this index.
abbrev pub type_of : Module → ℕ → Option FunctionType
type_of m f = or_no (slice_get (signatures m) f) (slice_get m.types)

-- The type of the global with this index. Only functions are imported, so that indices of globals, tables and
-- memories are those of the module's own.
abbrev pub global_of : Module → ℕ → Option GlobalType
global_of m x = slice_get (map (λ global. global.kind) m.globals) x

abbrev pub HasMemory : Module → Type 0
HasMemory m = 1 ≤ length m.memories

abbrev pub HasTable : Module → Type 0
HasTable m = 1 ≤ length m.tables

abbrev pub results_of : Option ValueType → List ValueType
results_of None = []
results_of (Some kind) = kind ∷ []

-- The types of the locals, the parameters first.
abbrev pub grouped : List Locals → List ValueType
grouped [] = []
grouped (l ∷ ls) = replicate l.count l.kind ++ grouped ls

-- What instructions may use: the module, the types of the locals, the results that each label takes, the innermost
-- label first, and the results of the function (section 3.1.1).
pub record Context : Type 0 where
  pub within : Module
  pub locals : List ValueType
  pub labels : List (List ValueType)
  pub results : List ValueType

-- Inside a block whose label takes these results.
abbrev pub inside : Context → List ValueType → Context
inside c results = record { within = c.within; locals = c.locals; labels = results ∷ c.labels; results = c.results }

pub record StartsWith (front whole : List ValueType) : Type 0 where
  pub rest : List ValueType
  pub split : whole ≡ front ++ rest

-- The operands before are those taken, and others below, and after it those given, and the same others. The topmost
-- operand comes first. Where an operand is missing nothing is taken.
pub record Takes (asked : Rule → Type 0) (takes gives before after : List ValueType) : Type 0 where
  pub found : asked rule.Operand → StartsWith takes before
  pub left : after ≡ gives ++ drop (length takes) before

abbrev pub load_type : LoadKind → ValueType
load_type load.I32 = I32
load_type load.I64 = I64
load_type load.I32From8S = I32
load_type load.I32From8U = I32
load_type load.I32From16S = I32
load_type load.I32From16U = I32
load_type load.I64From8S = I64
load_type load.I64From8U = I64
load_type load.I64From16S = I64
load_type load.I64From16U = I64
load_type load.I64From32S = I64
load_type load.I64From32U = I64

abbrev pub store_type : StoreKind → ValueType
store_type store.I32 = I32
store_type store.I64 = I64
store_type store.I32To8 = I32
store_type store.I32To16 = I32
store_type store.I64To8 = I64
store_type store.I64To16 = I64
store_type store.I64To32 = I64

-- The bytes of an access are 2 to the power of this, its greatest alignment.
abbrev pub load_align : LoadKind → ℕ
load_align load.I32 = 2
load_align load.I64 = 3
load_align load.I32From8S = 0
load_align load.I32From8U = 0
load_align load.I32From16S = 1
load_align load.I32From16U = 1
load_align load.I64From8S = 0
load_align load.I64From8U = 0
load_align load.I64From16S = 1
load_align load.I64From16U = 1
load_align load.I64From32S = 2
load_align load.I64From32U = 2

abbrev pub store_align : StoreKind → ℕ
store_align store.I32 = 2
store_align store.I64 = 3
store_align store.I32To8 = 0
store_align store.I32To16 = 1
store_align store.I64To8 = 0
store_align store.I64To16 = 1
store_align store.I64To32 = 2
