-- How many operands primitives take.
use Rattle.std.specs.Prelude.{◌≡◌, ℕ, length, Bool, true, false, Option, Some, None}
use Rattle.mo_values.specs.declared.operation.Operation.{Operation}
use Rattle.mo_values.specs.declared.operation.Operation.TheVariants as op
use Rattle.core_ir.specs.declared.primitive.Primitive.{Primitive}
use Rattle.core_ir.specs.declared.primitive.Primitive.TheVariants as primitive

-- none where any number will do
abbrev pub operation_arity : Operation → Option ℕ
operation_arity (op.Arithmetic o k) = Some 2
operation_arity (op.Wrap o k) = Some 2
operation_arity (op.Compare c s) = Some 2
operation_arity (op.Same s) = Some 2
operation_arity (op.Equal t) = Some 2
operation_arity (op.Unequal t) = Some 2
operation_arity op.Concat = Some 2
operation_arity op.Element = Some 2
operation_arity op.MakeTuple = None
operation_arity op.MakeArray = None
operation_arity (op.MakeObject ls) = Some (length ls)
operation_arity (op.Fail t) = Some 0
operation_arity _ = Some 1

abbrev pub arity : Primitive → Option ℕ
arity (primitive.Operate o) = operation_arity o
arity primitive.Write = Some 2
arity primitive.WriteElement = Some 3
arity primitive.ArrayInit = Some 2
arity primitive.NextChar = Some 2
arity _ = Some 1

abbrev pub Takes : Option ℕ → ℕ → Type 0
Takes None n = Unit {0}
Takes (Some m) n = n ≡ m

-- a test shows nothing
abbrev pub is_silent : Primitive → Bool
is_silent primitive.Print = false
is_silent _ = true
