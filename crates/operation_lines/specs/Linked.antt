-- A module that has what the codes of primitives call and read.
use Rattle.std.specs.Prelude.{⊤, ◌≡◌, ◌≤◌, ℕ, [], ◌∷◌, Some}
use Rattle.mo_num.specs.declared.kind.Kind.{Kind}
use Rattle.mo_num.specs.declared.operator.Operator.{Operator}
use Rattle.wasm_tree.specs.declared.types.ValueType.TheVariants.{I32, I64}
use Rattle.low_ir.specs.Tree.{Module}
use Rattle.low_ir.specs.Numbering.{type_of, defined}
use Rattle.memory_routines.specs.Allocation.{allocation}
use Rattle.memory_routines.specs.Heaps.{heap_end, pages_for}
use Rattle.memory_routines.specs.Laws as memory
use Rattle.number_routines.specs.Laws as numbers
use Rattle.number_lines.specs.Laws.{HaveTexts, arithmetic_routine}
use Rattle.heap_layout.specs.Heaps.{Plan}
use Rattle.operation_codes.specs.Links.{Links, failing_routine}
use Rattle.operation_codes.specs.Codes.{Way, Inline, Spare, Calls, way}

-- the operators that may be called at a kind
abbrev pub MayBeCalled : Way → Type 0
MayBeCalled Inline = ⊥
MayBeCalled Spare = ⊤
MayBeCalled Calls = ⊤

-- The heap may grow up to this address; the texts of traps stand where the code says, and the routines are there with their types.
pub record Linked (plan : Plan) (pages roof : ℕ) (m : Module) (links : Links) : Type 0 where
  pub low_roof : roof ≤ heap_end
  pub few_pages : pages_for roof ≤ pages
  pub texts : HaveTexts plan links.traps
  pub calculates : (o : Operator) (k : Kind) → MayBeCalled (way o k) → (signature : ℕ) × numbers.IsThere m (links.calculation o k) (I64 ∷ I64 ∷ []) (arithmetic_routine signature links.traps o k)
  pub allocates : (signature : ℕ) × memory.IsThere m links.allocation (I32 ∷ []) (allocation signature)
  pub fails : (signature : ℕ) × (type_of m links.failing ≡ Some (record { params = I32 ∷ []; results = [] })) × (defined m links.failing ≡ Some (failing_routine signature))
