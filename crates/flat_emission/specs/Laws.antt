-- The laws, as statements.
use Rattle.std.specs.Prelude.{◌≡◌, ℕ, suc, ◌+◌, ◌*◌, ◌≤◌, List, length}
use Rattle.wasm_tree.specs.declared.types.FunctionType.{FunctionType}
use Rattle.core_ir.specs.declared.primitive.Primitive.{Primitive}
use Rattle.core_ir.specs.Code.{Body}
use Rattle.core_ir.specs.FormedCode.{most_of, most_operands, nesting}
use Rattle.low_ir.specs.declared.op.Operand as low
use Rattle.low_ir.specs.Frames.{height, depth, words}
use Rattle.heap_layout.specs.Heaps.{Plan}
use Rattle.flat_emission.specs.Emission.{Linkage, function_of}

-- Codes of primitives with so many constructs one in another, and few operands at once.
pub record Shallow (link : Linkage) (extra : ℕ) : Type 0 where
  pub high : (p : Primitive) (to free : ℕ) (xs : List low.Operand) → height (link.operation p to free xs) ≤ suc (length xs)
  pub deep : (p : Primitive) (to free : ℕ) (xs : List low.Operand) → depth (link.operation p to free xs) ≤ extra

-- A function's frame: its slots, twice the operands of an instruction, the open constructs, and 13.
abbrev pub FramesArePaid : Type 0
FramesArePaid =
    (plan : Plan) (link : Linkage) (extra : ℕ) → Shallow link extra → (members : ℕ) (b : Body) → b.parameters ≤ b.slots → (t : FunctionType) → length t.params ≡ suc b.parameters
    → words t (function_of plan link members b) ≤ b.slots + 2 * most_of most_operands b.segments + most_of nesting b.segments + 13 + extra
