-- The law, as a statement.
use Rattle.std.specs.Prelude.{ℕ, suc, ◌≤◌, List, length}
use Rattle.core_ir.specs.declared.primitive.Primitive.{Primitive}
use Rattle.low_ir.specs.declared.op.Operand.{Operand}
use Rattle.low_ir.specs.Frames.{height, depth}
use Rattle.operation_codes.specs.Links.{Links}
use Rattle.operation_codes.specs.Codes.{code_of}

-- The code of a primitive takes one operand at once more than the primitive has, at most, and has a construct in another, but no third.
abbrev pub CodesAreShallow : Type 0
CodesAreShallow = (links : Links) (p : Primitive) (to free : ℕ) (xs : List Operand) → (height (code_of links p to free xs) ≤ suc (length xs)) × (depth (code_of links p to free xs) ≤ 2)
