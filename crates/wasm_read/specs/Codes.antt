-- Reading types and instructions: WebAssembly Core 1.0 sections 5.3 and 5.4.
use Rattle.std.specs.Prelude.{◌≡◌, ℕ, zero, suc, List, [], ◌∷◌, Bool, true, false, length, Option, Some, None, Result, Ok, Err, nat_eq, if◌then◌else◌}
use Rattle.wasm_tree.specs.declared.types.ValueType.{ValueType}
use Rattle.wasm_tree.specs.declared.types.ValueType.TheVariants.{I32, I64}
use Rattle.wasm_tree.specs.declared.op.MemoryArgument.{MemoryArgument}
use Rattle.wasm_tree.specs.declared.op.Plain.TheVariants as plain
use Rattle.wasm_tree.specs.declared.op.Op.{Op}
use Rattle.wasm_tree.specs.declared.op.Op.TheVariants as op
use Rattle.wasm_read.specs.declared.fault.Fault.{Fault}
use Rattle.wasm_read.specs.declared.fault.Fault.TheVariants.{Malformed, Floats}
use Rattle.exact_reading.specs.declared.stop.Stop.{Stop}
use Rattle.exact_reading.specs.declared.stop.Stop.TheVariants as stop
use Rattle.wasm_read.specs.declared.shape.Shape.{Shape}
use Rattle.wasm_read.specs.declared.shape.Shape.TheVariants as shape
use Rattle.wasm_read.specs.declared.expression.Place.{Place}
use Rattle.wasm_read.specs.declared.expression.Place.TheVariants as place
use Rattle.exact_reading.specs.Reading.{◌>>=◌, made, both}
use Rattle.wasm_read.specs.Fields.{Reading, first, behind, u32_at, s32_at, s64_at}
use Rattle.wasm_read.specs.Shapes.{shape_at}

-- the type of a value, of which two are of floats
abbrev pub value_type_by : ℕ → Reading ValueType
value_type_by b rest =
    if nat_eq b 0x7f then Ok (I32, rest) else (if nat_eq b 0x7e then Ok (I64, rest) else (if nat_eq b 0x7d then Err Floats else (if nat_eq b 0x7c then Err Floats else Err Malformed)))

abbrev pub value_type_at : Reading ValueType
value_type_at = first value_type_by

-- no result, or one
abbrev pub block_type_by : ℕ → Reading (Option ValueType)
block_type_by b rest = if nat_eq b 0x40 then Ok (None, rest) else made Some (value_type_by b) rest

abbrev pub block_type_at : Reading (Option ValueType)
block_type_at = first block_type_by

abbrev pub argument : ℕ × ℕ → MemoryArgument
argument a = record { align = a.0; offset = a.1 }

-- a number, and the byte 0
abbrev pub indirect_at : Reading ℕ
indirect_at bytes = u32_at bytes >>= λ t. behind 0x00 t.1 >>= λ rest. Ok (t.0, rest)

-- the instruction whose first byte has this shape
abbrev pub op_by : Shape → Reading Op
op_by (shape.Whole o) rest = Ok (o, rest)
op_by (shape.Load kind) rest = made (λ a. op.Plain (plain.Load kind (argument a))) (both u32_at u32_at) rest
op_by (shape.Store kind) rest = made (λ a. op.Plain (plain.Store kind (argument a))) (both u32_at u32_at) rest
op_by shape.Block rest = made op.Block block_type_at rest
op_by shape.Loop rest = made op.Loop block_type_at rest
op_by shape.If rest = made op.If block_type_at rest
op_by shape.Br rest = made op.Br u32_at rest
op_by shape.BrIf rest = made op.BrIf u32_at rest
op_by shape.BrTable rest = made op.BrTable u32_at rest
op_by shape.Call rest = made op.Call u32_at rest
op_by shape.LocalGet rest = made (λ x. op.Plain (plain.LocalGet x)) u32_at rest
op_by shape.LocalSet rest = made (λ x. op.Plain (plain.LocalSet x)) u32_at rest
op_by shape.LocalTee rest = made (λ x. op.Plain (plain.LocalTee x)) u32_at rest
op_by shape.GlobalGet rest = made (λ x. op.Plain (plain.GlobalGet x)) u32_at rest
op_by shape.GlobalSet rest = made (λ x. op.Plain (plain.GlobalSet x)) u32_at rest
op_by shape.CallIndirect rest = made op.CallIndirect indirect_at rest
op_by shape.MemorySize rest = behind 0x00 rest >>= λ left. Ok (op.Plain plain.MemorySize, left)
op_by shape.MemoryGrow rest = behind 0x00 rest >>= λ left. Ok (op.Plain plain.MemoryGrow, left)
op_by shape.I32Const rest = made (λ z. op.Plain (plain.I32Const z)) s32_at rest
op_by shape.I64Const rest = made (λ z. op.Plain (plain.I64Const z)) s64_at rest
op_by shape.Float rest = Err Floats
op_by shape.Unknown rest = Err Malformed

unfoldable pub op_at : Reading Op
op_at = first (λ b rest. op_by (shape_at b) rest)

-- An instruction, or one of the labels that a `br_table` still owes.
abbrev pub next_at : ℕ → Reading Op
next_at zero bytes = op_at bytes
next_at (suc owed) bytes = made op.Target u32_at bytes

-- Where an expression goes on: at its end, or inside blocks, the innermost first, each with whether an `else` may come,
-- with so many labels owed.
pub data After : Type 0 where
  Closed : After
  Open : ℕ → List Bool → After
  Bad : After

abbrev pub after_end : List Bool → After
after_end [] = Closed
after_end (o ∷ os) = Open 0 os

abbrev pub after_else : List Bool → After
after_else [] = Bad
after_else (true ∷ os) = Open 0 (false ∷ os)
after_else (false ∷ os) = Bad

abbrev pub after_op : Op → List Bool → After
after_op (op.Plain p) os = Open 0 os
after_op op.Unreachable os = Open 0 os
after_op (op.Block kind) os = Open 0 (false ∷ os)
after_op (op.Loop kind) os = Open 0 (false ∷ os)
after_op (op.If kind) os = Open 0 (true ∷ os)
after_op op.Else os = after_else os
after_op op.End os = after_end os
after_op (op.Br l) os = Open 0 os
after_op (op.BrIf l) os = Open 0 os
after_op (op.BrTable count) os = Open (suc count) os
after_op (op.Target l) os = Bad
after_op op.Return os = Open 0 os
after_op (op.Call f) os = Open 0 os
after_op (op.CallIndirect t) os = Open 0 os

abbrev pub after : Op → ℕ → List Bool → After
after o zero os = after_op o os
after o (suc owed) os = Open owed os

abbrev pub body_by : After → Op → List ℕ → (ℕ → List Bool → Reading (List Op)) → Result (List Op × List ℕ) Fault
body_by Closed o rest next = Ok ([], rest)
body_by (Open owed os) o rest next = next owed os rest >>= λ ops. Ok (o ∷ ops.0, ops.1)
body_by Bad o rest next = Err Malformed

-- at most n instructions and labels
unfoldable pub body_at : ℕ → ℕ → List Bool → Reading (List Op)
body_at zero owed os bytes = Err Malformed
body_at (suc n) owed os bytes = next_at owed bytes >>= λ o. body_by (after o.0 owed os) o.0 o.1 (body_at n)

-- Expressions, section 5.4.7: up to the `end` that closes them.
unfoldable pub expression_at : Reading (List Op)
expression_at bytes = body_at (length bytes) 0 [] bytes

-- What keeping the open blocks answers.
abbrev pub Tracks : After → Result Place (Stop Fault) → List Bool → Type 0
Tracks next (Ok place.Closed) os = next ≡ Closed
Tracks next (Ok (place.Open owed)) os = next ≡ Open owed os
Tracks next (Err stop.Memory) os = Unit {0}
Tracks next (Err (stop.Fault f)) os = (next ≡ Bad) × (f ≡ Malformed)
