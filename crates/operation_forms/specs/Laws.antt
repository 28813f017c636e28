-- The laws, as statements: the codes of primitives, and the routines that they call, are formed.
use Rattle.std.specs.Prelude.{⊤, ◌≡◌, ◌≤◌, ◌*◌, ◌^◌, ◌+◌, ℕ, List, [], ◌∷◌, true, Some, FitsSigned, slice_get}
use Rattle.std.specs.Int.{w32}
use Rattle.mo_num.specs.declared.kind.Kind.{Kind}
use Rattle.mo_num.specs.declared.operator.NumTrap.{NumTrap}
use Rattle.mo_num.specs.declared.operator.Operator.{Operator}
use Rattle.mo_types.specs.declared.node.Node.{Node}
use Rattle.mo_types.specs.declared.node.TypeId.{TypeId}
use Rattle.wasm_tree.specs.declared.types.ValueType.{ValueType}
use Rattle.wasm_tree.specs.declared.types.ValueType.TheVariants.{I32, I64}
use Rattle.wasm_tree.specs.declared.types.FunctionType.{FunctionType}
use Rattle.core_ir.specs.declared.primitive.Primitive.{Primitive}
use Rattle.low_ir.specs.declared.op.Operand.{Operand}
use Rattle.low_ir.specs.Tree.{Code, Module}
use Rattle.low_ir.specs.Numbering.{type_of, all_types}
use Rattle.low_ir.specs.Formed.{OperandIs, IsFormed, FunctionIsFormed}
use Rattle.code_sequences.specs.Sequences.{seq}
use Rattle.heap_layout.specs.Heaps.{Plan}
use Rattle.number_routines.specs.declared.places.TrapPlaces.{TrapPlaces}
use Rattle.number_routines.specs.Codes.{place}
use Rattle.number_lines.specs.Laws.{arithmetic_routine}
use Rattle.operation_codes.specs.Links.{Links, failing_routine}
use Rattle.operation_codes.specs.Codes.{Way, Inline, Spare, Calls, way, code_of}
use Rattle.operation_codes.specs.Treated.{is_treated}

abbrev pub of_words : FunctionType
of_words = record { params = I64 ∷ I64 ∷ []; results = I64 ∷ [] }

abbrev pub of_address : FunctionType
of_address = record { params = I32 ∷ []; results = I32 ∷ [] }

abbrev pub of_text : FunctionType
of_text = record { params = I32 ∷ []; results = [] }

-- Literals of addresses are words of 32 bits with a sign.
abbrev pub TrapsFit : TrapPlaces → Type 0
TrapsFit at = (t : NumTrap) → FitsSigned w32 (place at t)

abbrev pub IsCalled : Way → Type 0
IsCalled Inline = ⊥
IsCalled Spare = ⊤
IsCalled Calls = ⊤

-- The routines that codes call have their types in the module.
pub record TypesFit (m : Module) (links : Links) : Type 0 where
  pub calculation : (o : Operator) (k : Kind) → IsCalled (way o k) → type_of m (links.calculation o k) ≡ Some of_words
  pub allocation : type_of m links.allocation ≡ Some of_address
  pub failing : type_of m links.failing ≡ Some of_text

-- The locals of a code: that of its value, and the three free ones.
pub record LocalsFit (locals : List ValueType) (to free : ℕ) : Type 0 where
  pub value : slice_get locals to ≡ Some I64
  pub first : slice_get locals free ≡ Some I32
  pub second : slice_get locals (1 + free) ≡ Some I32
  pub third : slice_get locals (2 + free) ≡ Some I64

-- operands that are words of 64 bits
abbrev pub AreWords : List ValueType → List Operand → Type 0
AreWords locals [] = ⊤
AreWords locals (x ∷ xs) = OperandIs locals x I64 × AreWords locals xs

-- The code of a primitive that is treated is formed, in a module that has the types of the routines, where the texts stand below 2 ^ 31.
abbrev pub CodesAreFormed : Type 0
CodesAreFormed =
    (m : Module) (head : TypeId → Node TypeId) (plan : Plan) (links : Links) → TypesFit m links → TrapsFit links.traps → 8 * plan.base ≤ 2 ^ 31
    → (p : Primitive) → is_treated head plan links p ≡ true → (locals results : List ValueType) (labels to free : ℕ) (xs : List Operand) → LocalsFit locals to free → AreWords locals xs → IsFormed m locals results labels [] (code_of links p to free xs)

-- Code that has more behind it.
abbrev pub SequencesAreFormed : Type 0
SequencesAreFormed =
    (m : Module) (locals results : List ValueType) (labels : ℕ) (owed : List ValueType) (code more : Code) → IsFormed m locals results labels [] code → IsFormed m locals results labels owed more → IsFormed m locals results labels owed (seq code more)

-- The routines, in a module that has their types.
abbrev pub RoutinesAreFormed : Type 0
RoutinesAreFormed =
    (m : Module) (signature : ℕ)
    → ((at : TrapPlaces) → TrapsFit at → (o : Operator) (k : Kind) → IsCalled (way o k) → slice_get (all_types m) signature ≡ Some of_words → FunctionIsFormed m (arithmetic_routine signature at o k))
    × (slice_get (all_types m) signature ≡ Some of_text → FunctionIsFormed m (failing_routine signature))
