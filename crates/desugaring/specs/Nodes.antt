-- Nodes of typed trees, by the types that they have.
use Rattle.std.specs.Prelude.{ℕ, ℤ, pos, neg_ℤ, Bool, true, false, List, [], ◌∷◌, Option, Some, None, cond, codes}
use Rattle.std.specs.Str.{bytes_eq}
use Rattle.mo_num.specs.declared.kind.Kind.{Kind}
use Rattle.mo_num.specs.declared.kind.Kind.TheVariants as kind
use Rattle.mo_num.specs.declared.operator.Operator.TheVariants as operator
use Rattle.mo_scopes.specs.declared.library.Member.TheVariants as library
use Rattle.mo_scopes.specs.declared.library.Member as library_member
use Rattle.typing_rules.specs.AbstractSyntax as written
use Rattle.mo_syntax.specs.declared.operators.BinaryOperator.{BinaryOperator}
use Rattle.mo_syntax.specs.declared.operators.BinaryOperator.TheVariants as sign
use Rattle.mo_types.specs.declared.node.Node.{Node}
use Rattle.mo_types.specs.declared.node.Node.TheVariants as node
use Rattle.mo_types.specs.declared.node.TypeId.{TypeId}
use Rattle.mo_types.specs.Heads.{number_of, is_blob}
use Rattle.mo_values.specs.declared.operation.Operation.{Operation}
use Rattle.mo_values.specs.declared.operation.Operation.TheVariants as op
use Rattle.mo_values.specs.declared.operation.Comparison.TheVariants as comparison
use Rattle.mo_values.specs.declared.operation.Scalar.{Scalar}
use Rattle.mo_values.specs.declared.operation.Scalar.TheVariants as scalar
use Rattle.mo_values.specs.declared.operation.Wrapping.TheVariants as wrapping
use Rattle.typed_tree.specs.declared.action.Action.{Action}
use Rattle.typed_tree.specs.declared.action.Action.TheVariants as action
use Rattle.typed_tree.specs.declared.action.Member.{Member}
use Rattle.typed_tree.specs.declared.action.Member.TheVariants as member
use Rattle.typed_tree.specs.declared.literal.Literal.{Literal}
use Rattle.typed_tree.specs.declared.literal.Literal.TheVariants as literal
use Rattle.typed_tree.specs.declared.expression.Form.{Form, roll-Form}
use Rattle.typed_tree.specs.declared.expression.Form.TheOpen as F
use Rattle.typed_tree.specs.declared.expression.Step.{Step}
use Rattle.typed_tree.specs.declared.expression.Case.{Case}
use Rattle.typed_tree.specs.declared.expression.Function.{Function}
use Rattle.typed_tree.specs.declared.expression.TypedExpression.{TypedExpression, roll-TypedExpression}
use Rattle.typing_rules.specs.AbstractSyntax.{Bytes}
use Rattle.typing_rules.specs.Terms.{Term, unit}
use Rattle.typing_rules.specs.Terms as t
use Rattle.typing_rules.specs.Definitions.{Definitions}
use Rattle.typing_rules.specs.Heads.{head}
use Rattle.desugaring.specs.Frames.{Use}

abbrev pub Layer : Type 0
Layer = F.Form-F Form Step Case Function TypedExpression

abbrev pub node_of : TypeId → Layer → TypedExpression
node_of u x = roll-TypedExpression (record { of_type = u; form = roll-Form x })

-- the built-in function that a member of a module is
abbrev pub built_in : library_member.Member → Member
built_in library.DebugPrint = member.DebugPrint
built_in library.DebugTrap = member.DebugTrap
built_in library.ErrorReject = member.ErrorReject
built_in library.ErrorMessage = member.ErrorMessage
built_in library.ErrorCode = member.ErrorCode
built_in library.NatToText = member.NatToText
built_in library.IntToText = member.IntToText
built_in library.ArrayTabulate = member.ArrayTabulate
built_in library.ArrayInit = member.ArrayInit
built_in library.ArrayFreeze = member.ArrayFreeze
built_in library.ArrayThaw = member.ArrayThaw
built_in library.PrincipalFromActor = member.PrincipalFromActor

-- a method of arrays, or of texts, by its name
abbrev pub array_method : Bytes → Member
array_method x = cond (bytes_eq x (codes "size")) member.ArraySize (cond (bytes_eq x (codes "vals")) member.ArrayVals member.ArrayKeys)

abbrev pub text_method : Bytes → Member
text_method x = cond (bytes_eq x (codes "size")) member.TextSize member.TextChars

abbrev pub signed : Bool → ℕ → ℤ
signed false n = pos n
signed true n = neg_ℤ (pos n)

-- a literal at a type of this head; a text is one of a Blob there
abbrev pub literal_at : Bool → written.Literal → Node Term → Literal
literal_at minus (written.Number n) y = literal.Number (signed minus n)
literal_at minus (written.Character c) y = literal.Character c
literal_at minus (written.Text x) y = cond (is_blob y) (literal.Blob x) (literal.Text x)
literal_at minus written.True y = literal.Flag true
literal_at minus written.False y = literal.Flag false
literal_at minus written.Null y = literal.Null

abbrev pub kind_or : Option Kind → Kind
kind_or None = kind.Nat
kind_or (Some k) = k

-- the type without parts of this head
abbrev pub scalar_of : Node Term → Scalar
scalar_of (node.Number k) = scalar.Number k
scalar_of node.Bool = scalar.Bool
scalar_of node.Char = scalar.Char
scalar_of node.Blob = scalar.Blob
scalar_of _ = scalar.Text

module _ (defs : Definitions) (number : Term → TypeId) where
  abbrev pub at : Term → Layer → TypedExpression
  at u x = node_of (number u) x

  abbrev pub acts : Term → Action → List TypedExpression → TypedExpression
  acts u a es = at u (F.Do a es)

  abbrev pub operates : Term → Operation → List TypedExpression → TypedExpression
  operates u o es = acts u (action.Operate o) es

  abbrev pub constant : Term → Literal → TypedExpression
  constant u l = at u (F.Constant l)

  abbrev pub unit_value : TypedExpression
  unit_value = constant unit literal.Unit

  abbrev pub flag : Bool → TypedExpression
  flag b = constant t.Boolean (literal.Flag b)

  abbrev pub kind_of : Term → Kind
  kind_of u = kind_or (number_of (head defs u))

  -- what a name stands for, which is what its cell holds where it is one of a cell
  abbrev pub held : Term → Bool → TypedExpression → TypedExpression
  held u false e = e
  held u true e = acts u action.Read (e ∷ [])

  abbrev pub named : Term → Use → TypedExpression
  named u x = held u x.cell (at u (F.Name x.index))

  -- an operator of numbers or texts, at the type that it gives
  abbrev pub operation : BinaryOperator → Term → Operation
  operation sign.Subtract w = op.Arithmetic operator.Sub (kind_of w)
  operation sign.Multiply w = op.Arithmetic operator.Mul (kind_of w)
  operation sign.Divide w = op.Arithmetic operator.Div (kind_of w)
  operation sign.Remainder w = op.Arithmetic operator.Rem (kind_of w)
  operation sign.Power w = op.Arithmetic operator.Pow (kind_of w)
  operation sign.AddWrap w = op.Wrap wrapping.AddWrap (kind_of w)
  operation sign.SubtractWrap w = op.Wrap wrapping.SubWrap (kind_of w)
  operation sign.MultiplyWrap w = op.Wrap wrapping.MulWrap (kind_of w)
  operation sign.Concat w = op.Concat
  operation _ w = op.Arithmetic operator.Add (kind_of w)

  -- `a op b` at type u, of operands of type v. `and` and `or` look at the second operand only where they have to.
  abbrev pub binary : BinaryOperator → Term → Term → TypedExpression → TypedExpression → TypedExpression
  binary sign.Or u v a b = at u (F.If a (flag true) b)
  binary sign.And u v a b = at u (F.If a b (flag false))
  binary sign.Equal u v a b = operates u (op.Equal (number v)) (a ∷ b ∷ [])
  binary sign.NotEqual u v a b = operates u (op.Unequal (number v)) (a ∷ b ∷ [])
  binary sign.Less u v a b = operates u (op.Compare comparison.Less (scalar_of (head defs v))) (a ∷ b ∷ [])
  binary sign.Greater u v a b = operates u (op.Compare comparison.Greater (scalar_of (head defs v))) (a ∷ b ∷ [])
  binary sign.LessEqual u v a b = operates u (op.Compare comparison.LessOrEqual (scalar_of (head defs v))) (a ∷ b ∷ [])
  binary sign.GreaterEqual u v a b = operates u (op.Compare comparison.GreaterOrEqual (scalar_of (head defs v))) (a ∷ b ∷ [])
  binary o u v a b = operates u (operation o u) (a ∷ b ∷ [])
