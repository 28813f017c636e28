-- The law, as a statement.
use Rattle.std.specs.Prelude.{◌≡◌, ℕ, List, true}
use Rattle.mo_types.specs.declared.node.Node.{Node}
use Rattle.mo_types.specs.declared.node.TypeId.{TypeId}
use Rattle.mo_values.specs.Shapes.{Bytes}
use Rattle.wasm_tree.specs.Exec.{Host}
use Rattle.core_ir.specs.declared.primitive.Primitive.{Primitive}
use Rattle.low_ir.specs.declared.op.Operand.{Operand}
use Rattle.low_ir.specs.Tree.{Module}
use Rattle.heap_layout.specs.Heaps.{Plan}
use Rattle.emitted_steps.specs.Operations.{HostShows, CodeKeeps}
use Rattle.operation_codes.specs.Links.{Links}
use Rattle.operation_codes.specs.Codes.{code_of}
use Rattle.operation_codes.specs.Treated.{is_treated}
use Rattle.operation_lines.specs.Linked.{Linked}

-- What the code of a primitive takes, in steps for each unit of weight.
abbrev pub operation_steps : ℕ
operation_steps = 128

-- In a module that is linked so, the code of each primitive that is treated does what the primitive does, or ends for want of memory
-- where the heap would be beyond the roof.
abbrev pub OperationsKeep : Type 0 → Type 0
OperationsKeep W =
    (head : TypeId → Node TypeId) (plan : Plan) (pages roof : ℕ) (m : Module) (host : Host W) (told fell : W → Bytes → W) → HostShows host told fell → (links : Links) → Linked plan pages roof m links
    → (deep room : ℕ) (p : Primitive) (to free : ℕ) (xs : List Operand) → is_treated head plan links p ≡ true → CodeKeeps plan told fell operation_steps head pages roof m host deep room p to free xs (code_of links p to free xs)
