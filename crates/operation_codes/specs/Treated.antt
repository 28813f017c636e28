-- Which primitives have code here.
use Rattle.std.specs.Prelude.{◌^◌, [], Bool, true, false, nat_lt, ◌-◌, ◌&&◌, int_le, ℤ, pos, negsuc}
use Rattle.mo_types.specs.declared.datum.Datum.{Datum}
use Rattle.mo_types.specs.declared.datum.Datum.TheVariants as part
use Rattle.mo_types.specs.declared.node.Node.{Node}
use Rattle.mo_types.specs.declared.node.Node.TheVariants as node
use Rattle.mo_types.specs.declared.node.TypeId.{TypeId}
use Rattle.mo_values.specs.declared.operation.Operation.{Operation}
use Rattle.mo_values.specs.declared.operation.Operation.TheVariants as op
use Rattle.mo_values.specs.declared.operation.Scalar.{Scalar}
use Rattle.mo_values.specs.declared.operation.Scalar.TheVariants as scalar
use Rattle.mo_values.specs.Operations.{assertion_failed}
use Rattle.core_ir.specs.declared.primitive.Primitive.{Primitive}
use Rattle.core_ir.specs.declared.primitive.Primitive.TheVariants as primitive
use Rattle.heap_layout.specs.Heaps.{Plan}
use Rattle.operation_codes.specs.Links.{Links, stands_ready}

-- Values of the type are words that are the same where the values are.
abbrev pub is_word : Node TypeId → Bool
is_word (node.Number k) = true
is_word node.Bool = true
is_word node.Char = true
is_word node.Null = true
is_word (node.Tuple []) = true
is_word t = false

abbrev pub is_word_scalar : Scalar → Bool
is_word_scalar (scalar.Number k) = true
is_word_scalar scalar.Bool = true
is_word_scalar scalar.Char = true
is_word_scalar s = false

abbrev pub is_ordered_word : Scalar → Bool
is_ordered_word (scalar.Number k) = true
is_ordered_word scalar.Char = true
is_ordered_word s = false

-- Numbers of some kind, each of which has a word.
abbrev pub is_long : ℤ → Bool
is_long n = int_le (negsuc (2 ^ 63 - 1)) n && int_le n (pos (2 ^ 64 - 1))

abbrev pub is_word_literal : Datum → Bool
is_word_literal (part.Number n) = is_long n
is_word_literal (part.Flag b) = true
is_word_literal (part.Char c) = nat_lt c (2 ^ 32)
is_word_literal p = false

module _ (head : TypeId → Node TypeId) (plan : Plan) (links : Links) where
  abbrev pub is_treated_operation : Operation → Bool
  is_treated_operation (op.Arithmetic o k) = true
  is_treated_operation (op.Negate k) = true
  is_treated_operation (op.Wrap w k) = true
  is_treated_operation (op.Compare o s) = is_ordered_word s
  is_treated_operation (op.Same s) = is_word_scalar s
  is_treated_operation (op.Equal t) = is_word (head t)
  is_treated_operation (op.Unequal t) = is_word (head t)
  is_treated_operation op.Not = true
  is_treated_operation op.Assert = stands_ready plan (links.bytes_at assertion_failed) assertion_failed
  is_treated_operation op.MakeTuple = true
  is_treated_operation op.MakeOption = true
  is_treated_operation (op.MakeTag l) = true
  -- an offset is a word of 32 bits
  is_treated_operation (op.Project i) = nat_lt i (2 ^ 28)
  is_treated_operation op.Trap = true
  is_treated_operation (op.Fail t) = stands_ready plan (links.bytes_at t) t
  is_treated_operation o = false

  abbrev pub is_treated : Primitive → Bool
  is_treated (primitive.Operate o) = is_treated_operation o
  is_treated primitive.Copy = true
  is_treated (primitive.Is c) = is_word_literal c
  is_treated primitive.New = true
  is_treated primitive.Read = true
  is_treated primitive.Write = true
  is_treated primitive.Print = true
  is_treated p = false
