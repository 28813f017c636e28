-- Operators with the types as they are in the table and in the graph.
use Rattle.std.specs.Prelude.{Bool, true, false, [], ◌∷◌, Option, Some, None}
use Rattle.mo_num.specs.declared.kind.Kind.{Kind}
use Rattle.mo_syntax.specs.declared.operators.BinaryOperator.{BinaryOperator}
use Rattle.mo_syntax.specs.declared.operators.BinaryOperator.TheVariants as sign
use Rattle.mo_types.specs.declared.node.Node.{Node}
use Rattle.mo_types.specs.declared.node.Node.TheVariants as node
use Rattle.mo_values.specs.declared.operation.Comparison.TheVariants as comparison
use Rattle.mo_values.specs.declared.operation.Operation.{Operation}
use Rattle.mo_values.specs.declared.operation.Operation.TheVariants as op
use Rattle.mo_values.specs.declared.operation.Scalar.{Scalar}
use Rattle.mo_values.specs.declared.operation.Scalar.TheVariants as scalar
use Rattle.typed_tree.specs.declared.expression.Form.TheOpen as F
use Rattle.typed_tree.specs.declared.expression.TypedExpression.{TypedExpression}
use Rattle.type_terms.specs.declared.form.TermId.{TermId}
use Rattle.type_definitions.specs.Meanings.{term}
use Rattle.met_types.specs.States.{State}
use Rattle.desugaring.specs.Nodes as nodes
use Rattle.kernel_types.specs.Numbers.{definitions, head_of, number, number_of}
use Rattle.kernel_nodes.specs.Made.{at_type, flag_in, operates_at}

-- the type without parts of a head
abbrev pub scalar_at : {A : Type 0} → Node A → Scalar
scalar_at (node.Number k) = scalar.Number k
scalar_at node.Bool = scalar.Bool
scalar_at node.Char = scalar.Char
scalar_at node.Blob = scalar.Blob
scalar_at _ = scalar.Text

-- what the first operand of `or` or `and` is where the second is not looked at
abbrev pub choice_of : BinaryOperator → Option Bool
choice_of sign.Or = Some true
choice_of sign.And = Some false
choice_of _ = None

module _ (s : State) where
  abbrev pub kind_in : TermId → Kind
  kind_in u = nodes.kind_of (definitions s) (number s) (term s.forms u)

  abbrev pub operation_in : BinaryOperator → TermId → Operation
  operation_in o u = nodes.operation (definitions s) (number s) o (term s.forms u)

  abbrev pub relation_in : BinaryOperator → TermId → TermId → Operation
  relation_in sign.Equal u v = op.Equal (number_of s v)
  relation_in sign.NotEqual u v = op.Unequal (number_of s v)
  relation_in sign.Less u v = op.Compare comparison.Less (nodes.scalar_of (head_of s v))
  relation_in sign.Greater u v = op.Compare comparison.Greater (nodes.scalar_of (head_of s v))
  relation_in sign.LessEqual u v = op.Compare comparison.LessOrEqual (nodes.scalar_of (head_of s v))
  relation_in sign.GreaterEqual u v = op.Compare comparison.GreaterOrEqual (nodes.scalar_of (head_of s v))
  relation_in o u v = operation_in o u

  abbrev pub either_in : TermId → TypedExpression → TypedExpression → TypedExpression
  either_in u a b = at_type s u (F.If a (flag_in s true) b)

  abbrev pub both_in : TermId → TypedExpression → TypedExpression → TypedExpression
  both_in u a b = at_type s u (F.If a b (flag_in s false))

  abbrev pub binary_in : BinaryOperator → TermId → TermId → TypedExpression → TypedExpression → TypedExpression
  binary_in o u v a b = nodes.binary (definitions s) (number s) o (term s.forms u) (term s.forms v) a b

  abbrev pub negated_in : TermId → TypedExpression → TypedExpression
  negated_in u a = operates_at s u (op.Negate (kind_in u)) (a ∷ [])
