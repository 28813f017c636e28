-- Which operators stand on which types (Motoko language manual, sections "Unary operators", "Binary operators", "Relational operators" and "Numeric types").
use Rattle.std.specs.Prelude.{Bool, true, false, Option, Some, None}
use Rattle.std.specs.Option.{option_and_then}
use Rattle.mo_num.specs.declared.kind.Kind.{Kind}
use Rattle.mo_num.specs.declared.kind.Kind.TheVariants as kind
use Rattle.mo_syntax.specs.declared.operators.BinaryOperator.{BinaryOperator}
use Rattle.mo_syntax.specs.declared.operators.BinaryOperator.TheVariants as op
use Rattle.mo_types.specs.declared.node.Node.{Node}
use Rattle.mo_types.specs.declared.node.Node.TheVariants as node
use Rattle.mo_types.specs.Heads.{number_of}
use Rattle.typing_rules.specs.Terms.{Term}

pub data Family : Type 0 where
  -- `+ - * / % **`
  Arithmetic : Family
  -- `+% -% *%`
  Wrapping : Family
  -- `#`
  Concatenation : Family
  -- `== !=`
  Equality : Family
  -- `< > <= >=`
  Ordering : Family
  -- `and or`
  Logical : Family

abbrev pub family : BinaryOperator → Family
family op.Or = Logical
family op.And = Logical
family op.Equal = Equality
family op.NotEqual = Equality
family op.Less = Ordering
family op.Greater = Ordering
family op.LessEqual = Ordering
family op.GreaterEqual = Ordering
family op.Add = Arithmetic
family op.Subtract = Arithmetic
family op.Concat = Concatenation
family op.AddWrap = Wrapping
family op.SubtractWrap = Wrapping
family op.Multiply = Arithmetic
family op.Divide = Arithmetic
family op.Remainder = Arithmetic
family op.MultiplyWrap = Wrapping
family op.Power = Arithmetic

-- the kinds with a width
abbrev pub fixed : Kind → Option Kind
fixed kind.Nat = None
fixed kind.Int = None
fixed k = Some k

-- the kinds on which the operators of a family stand
abbrev pub standing : Family → Kind → Option Kind
standing Arithmetic k = Some k
standing Wrapping k = fixed k
standing _ k = None

-- the number type on which they stand
abbrev pub number_with : Family → Node Term → Option Kind
number_with f y = option_and_then (standing f) (number_of y)

-- what `-` gives: Nat or Int gives Int; a signed type with a width gives itself
abbrev pub negated : Kind → Option Kind
negated kind.Nat = Some kind.Int
negated kind.Int = Some kind.Int
negated kind.Int8 = Some kind.Int8
negated kind.Int16 = Some kind.Int16
negated kind.Int32 = Some kind.Int32
negated kind.Int64 = Some kind.Int64
negated _ = None

-- the signed kinds
abbrev pub signed : Kind → Option Kind
signed kind.Nat = None
signed k = negated k

abbrev pub negated_of : Node Term → Option Kind
negated_of y = option_and_then negated (number_of y)

abbrev pub signed_of : Node Term → Option Kind
signed_of y = option_and_then signed (number_of y)

-- numbers, Char and Text are ordered
abbrev pub is_ordered : Node Term → Bool
is_ordered (node.Number k) = true
is_ordered node.Char = true
is_ordered node.Text = true
is_ordered _ = false
