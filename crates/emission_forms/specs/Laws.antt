-- The law, as a statement.
use Rattle.std.specs.Prelude.{◌≡◌, ℕ, ◌+◌, ◌≤◌, List, [], ◌∷◌, replicate, true, Some, slice_get}
use Rattle.wasm_tree.specs.declared.types.ValueType.{ValueType}
use Rattle.wasm_tree.specs.declared.types.ValueType.TheVariants.{I32, I64}
use Rattle.wasm_tree.specs.declared.types.FunctionType.{FunctionType}
use Rattle.core_ir.specs.declared.primitive.Primitive.{Primitive}
use Rattle.core_ir.specs.Code.{Body}
use Rattle.core_ir.specs.CodeMachine.{first_of}
use Rattle.core_ir.specs.FormedCode.{most_of, most_operands}
use Rattle.low_ir.specs.declared.op.Operand.{Operand}
use Rattle.low_ir.specs.Tree.{Module}
use Rattle.low_ir.specs.Numbering.{type_of, all_types}
use Rattle.low_ir.specs.Formed.{IsFormed, FunctionIsFormed}
use Rattle.heap_layout.specs.Heaps.{Plan}
use Rattle.flat_emission.specs.Emission.{Linkage, here_of, function_of}
use Rattle.operation_forms.specs.Laws.{of_address, LocalsFit, AreWords}
use Rattle.emission_forms.specs.Spelled.{Spelled}

-- A function with so many parameters, behind the block of its group.
abbrev pub arity_type : ℕ → FunctionType
arity_type n = record { params = I32 ∷ replicate n I64; results = I64 ∷ [] }

-- The module has the types of functions of so many parameters at most, and that of allocation; the codes of primitives are formed.
pub record LinkFits (m : Module) (link : Linkage) (most : ℕ) : Type 0 where
  pub types : (n : ℕ) → n ≤ most → slice_get (all_types m) (link.type_of n) ≡ Some (arity_type n)
  pub allocation : type_of m link.allocation ≡ Some of_address
  pub operations : (p : Primitive) → link.treated p ≡ true → (locals results : List ValueType) (labels to free : ℕ) (xs : List Operand) → LocalsFit locals to free → AreWords locals xs → IsFormed m locals results labels [] (link.operation p to free xs)

-- An emitted function is formed, where its body is spelled, and has not too many slots and places.
abbrev pub EmittedFunctionsAreFormed : Type 0
EmittedFunctionsAreFormed =
    (m : Module) (plan : Plan) (link : Linkage) (most : ℕ) → LinkFits m link most → (members : ℕ) (b : Body) → b.parameters ≤ most → b.parameters ≤ b.slots → b.slots + most_of most_operands b.segments ≤ 49000
    → Spelled plan link most (here_of members b) 0 (first_of b.segments) → FunctionIsFormed m (function_of plan link members b)
