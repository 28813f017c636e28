-- Operators.
use Rattle.std.proofs.Common.{◌≡◌, true, [], ◌∷◌, Option, Some, None, refl, sym, ap, ◌∙◌}
use Rattle.std.specs.Option.{option_and_then}
use Rattle.mo_num.specs.declared.kind.Kind.{Kind}
use Rattle.mo_num.specs.declared.kind.Kind.TheVariants as kind
use Rattle.mo_num.specs.declared.operator.Operator.{Operator}
use Rattle.mo_num.specs.declared.operator.Operator.TheVariants as operator
use Rattle.mo_syntax.specs.declared.operators.BinaryOperator.{BinaryOperator}
use Rattle.mo_syntax.specs.declared.operators.BinaryOperator.TheVariants as sign
use Rattle.mo_types.specs.declared.node.Node.{Node}
use Rattle.mo_types.specs.declared.node.Node.TheVariants as node
use Rattle.mo_types.specs.Graph.{head_at}
use Rattle.mo_types.specs.Heads.{number_of}
use Rattle.mo_values.specs.declared.operation.Operation.{Operation}
use Rattle.mo_values.specs.declared.operation.Operation.TheVariants as op
use Rattle.mo_values.specs.declared.operation.Wrapping.{Wrapping}
use Rattle.mo_values.specs.declared.operation.Wrapping.TheVariants as wrapping
use Rattle.mo_values.specs.Numbers.{has_width}
use Rattle.subtype_laws.specs.Reached.{Among}
use Rattle.typed_tree.specs.declared.action.Action.TheVariants as action
use Rattle.typed_tree.specs.declared.expression.TypedExpression.{TypedExpression}
use Rattle.typed_tree.specs.OperationTypes.{OperationTyped}
use Rattle.typed_tree.specs.Typing.{Typed}
use Rattle.typed_tree.specs.Wants.{Of}
use Rattle.typing_rules.specs.Heads.{head}
use Rattle.typing_rules.specs.Operators.{Family, number_with, fixed}
use Rattle.typing_rules.specs.Operators as family
use Rattle.typing_rules.specs.Terms.{Term}
use Rattle.desugaring.specs.Nodes.{kind_or, kind_of, operation, operates, binary}
use Rattle.desugaring_laws.proofs.HeadForms.{is_number}
use Rattle.expression_laws.proofs.Ending.{Setting, Place, there, Known, Value, acts}

-- a number type on which the operators of a family stand
number_is : (f : Family) (y : Node Term) (k : Kind) → number_with f y ≡ Some k → (j : Kind) × (number_of y ≡ Some j) × (family.standing f j ≡ Some k)
number_is f y k e = by (number_of y) refl e where
  by : (o : Option Kind) → number_of y ≡ o → option_and_then (family.standing f) o ≡ Some k → (j : Kind) × (number_of y ≡ Some j) × (family.standing f j ≡ Some k)
  by None g h = cc
  by (Some j) g h = (j, g, h)

width_is : (j k : Kind) → fixed j ≡ Some k → (j ≡ k) × (has_width k ≡ true)
width_is kind.Nat k e = cc
width_is kind.Int k e = cc
width_is kind.Nat8 k e = let g : kind.Nat8 ≡ k = cc in (g, ap has_width (sym g))
width_is kind.Nat16 k e = let g : kind.Nat16 ≡ k = cc in (g, ap has_width (sym g))
width_is kind.Nat32 k e = let g : kind.Nat32 ≡ k = cc in (g, ap has_width (sym g))
width_is kind.Nat64 k e = let g : kind.Nat64 ≡ k = cc in (g, ap has_width (sym g))
width_is kind.Int8 k e = let g : kind.Int8 ≡ k = cc in (g, ap has_width (sym g))
width_is kind.Int16 k e = let g : kind.Int16 ≡ k = cc in (g, ap has_width (sym g))
width_is kind.Int32 k e = let g : kind.Int32 ≡ k = cc in (g, ap has_width (sym g))
width_is kind.Int64 k e = let g : kind.Int64 ≡ k = cc in (g, ap has_width (sym g))

nothing_on : (k : Kind) → None ≡ Some k → ⊥
nothing_on k e = cc

module _ (S : Setting) (A : Place S) where
  -- operands and result of one type
  abbrev Alike : Operation → Term → Type 0
  Alike o u = OperationTyped (head_at S.slots) o (Of (S.number u) ∷ Of (S.number u) ∷ []) (Of (S.number u))

  pub alike_value : (o : Operation) (u : Term) → Known S A u → Alike o u → (x y : TypedExpression) → Typed S.slots x A.context (Of (S.number u)) → Typed S.slots y A.context (Of (S.number u))
      → Value S A u (operates S.defs S.number u o (x ∷ y ∷ []))
  alike_value o u k h x y hx hy = acts S A u k (action.Operate o) (x ∷ y ∷ []) (Of (S.number u) ∷ Of (S.number u) ∷ []) h (hx, (hy, tt))

  number_at : (u : Term) → Among u S.terms → (j : Kind) → number_of (head S.defs u) ≡ Some j → head_at S.slots (S.number u) ≡ node.Number (kind_of S.defs S.number u)
  number_at u m j e = there S u m (node.Number j) (is_number (head S.defs u) j e) ∙ ap (λ o. node.Number (kind_or o)) (sym e)

  arithmetic_at : (o : Operator) (u : Term) → Among u S.terms → (j : Kind) → number_of (head S.defs u) ≡ Some j → Alike (op.Arithmetic o (kind_of S.defs S.number u)) u
  arithmetic_at o u m j e = (S.number u, number_at u m j e, refl, refl)

  wrap_at : (o : Wrapping) (u : Term) → Among u S.terms → (j k : Kind) → number_of (head S.defs u) ≡ Some j → fixed j ≡ Some k → Alike (op.Wrap o (kind_of S.defs S.number u)) u
  wrap_at o u m j k e f =
      let g = width_is j k f in
      (S.number u, ap (λ z. has_width (kind_or z)) e ∙ (ap has_width g.0 ∙ g.1), number_at u m j e, refl, refl)

  -- an operator of numbers that stands on the type
  abbrev pub StandsOn : BinaryOperator → Term → Type 0
  StandsOn o u = (k : Kind) × (number_with (family.family o) (head S.defs u) ≡ Some k)

  -- the operation that it is
  pub operation_at : (o : BinaryOperator) (u : Term) → Among u S.terms → StandsOn o u → Alike (operation S.defs S.number o u) u
  operation_at sign.Or u m h = let n = number_is family.Logical (head S.defs u) h.0 h.1 in absurd (nothing_on h.0 n.2)
  operation_at sign.And u m h = let n = number_is family.Logical (head S.defs u) h.0 h.1 in absurd (nothing_on h.0 n.2)
  operation_at sign.Equal u m h = let n = number_is family.Equality (head S.defs u) h.0 h.1 in absurd (nothing_on h.0 n.2)
  operation_at sign.NotEqual u m h = let n = number_is family.Equality (head S.defs u) h.0 h.1 in absurd (nothing_on h.0 n.2)
  operation_at sign.Less u m h = let n = number_is family.Ordering (head S.defs u) h.0 h.1 in absurd (nothing_on h.0 n.2)
  operation_at sign.Greater u m h = let n = number_is family.Ordering (head S.defs u) h.0 h.1 in absurd (nothing_on h.0 n.2)
  operation_at sign.LessEqual u m h = let n = number_is family.Ordering (head S.defs u) h.0 h.1 in absurd (nothing_on h.0 n.2)
  operation_at sign.GreaterEqual u m h = let n = number_is family.Ordering (head S.defs u) h.0 h.1 in absurd (nothing_on h.0 n.2)
  operation_at sign.Add u m h = let n = number_is family.Arithmetic (head S.defs u) h.0 h.1 in arithmetic_at operator.Add u m n.0 n.1
  operation_at sign.Subtract u m h = let n = number_is family.Arithmetic (head S.defs u) h.0 h.1 in arithmetic_at operator.Sub u m n.0 n.1
  operation_at sign.Concat u m h = let n = number_is family.Concatenation (head S.defs u) h.0 h.1 in absurd (nothing_on h.0 n.2)
  operation_at sign.AddWrap u m h = let n = number_is family.Wrapping (head S.defs u) h.0 h.1 in wrap_at wrapping.AddWrap u m n.0 h.0 n.1 n.2
  operation_at sign.SubtractWrap u m h = let n = number_is family.Wrapping (head S.defs u) h.0 h.1 in wrap_at wrapping.SubWrap u m n.0 h.0 n.1 n.2
  operation_at sign.Multiply u m h = let n = number_is family.Arithmetic (head S.defs u) h.0 h.1 in arithmetic_at operator.Mul u m n.0 n.1
  operation_at sign.Divide u m h = let n = number_is family.Arithmetic (head S.defs u) h.0 h.1 in arithmetic_at operator.Div u m n.0 n.1
  operation_at sign.Remainder u m h = let n = number_is family.Arithmetic (head S.defs u) h.0 h.1 in arithmetic_at operator.Rem u m n.0 n.1
  operation_at sign.MultiplyWrap u m h = let n = number_is family.Wrapping (head S.defs u) h.0 h.1 in wrap_at wrapping.MulWrap u m n.0 h.0 n.1 n.2
  operation_at sign.Power u m h = let n = number_is family.Arithmetic (head S.defs u) h.0 h.1 in arithmetic_at operator.Pow u m n.0 n.1

  pub binary_value : (o : BinaryOperator) (u v : Term) → Known S A u → StandsOn o u → (x y : TypedExpression) → Typed S.slots x A.context (Of (S.number u)) → Typed S.slots y A.context (Of (S.number u))
      → Value S A u (binary S.defs S.number o u v x y)
  binary_value sign.Or u v k h x y hx hy = let n = number_is family.Logical (head S.defs u) h.0 h.1 in absurd (nothing_on h.0 n.2)
  binary_value sign.And u v k h x y hx hy = let n = number_is family.Logical (head S.defs u) h.0 h.1 in absurd (nothing_on h.0 n.2)
  binary_value sign.Equal u v k h x y hx hy = let n = number_is family.Equality (head S.defs u) h.0 h.1 in absurd (nothing_on h.0 n.2)
  binary_value sign.NotEqual u v k h x y hx hy = let n = number_is family.Equality (head S.defs u) h.0 h.1 in absurd (nothing_on h.0 n.2)
  binary_value sign.Less u v k h x y hx hy = let n = number_is family.Ordering (head S.defs u) h.0 h.1 in absurd (nothing_on h.0 n.2)
  binary_value sign.Greater u v k h x y hx hy = let n = number_is family.Ordering (head S.defs u) h.0 h.1 in absurd (nothing_on h.0 n.2)
  binary_value sign.LessEqual u v k h x y hx hy = let n = number_is family.Ordering (head S.defs u) h.0 h.1 in absurd (nothing_on h.0 n.2)
  binary_value sign.GreaterEqual u v k h x y hx hy = let n = number_is family.Ordering (head S.defs u) h.0 h.1 in absurd (nothing_on h.0 n.2)
  binary_value sign.Add u v k h x y hx hy = alike_value (operation S.defs S.number sign.Add u) u k (operation_at sign.Add u k.there h) x y hx hy
  binary_value sign.Subtract u v k h x y hx hy = alike_value (operation S.defs S.number sign.Subtract u) u k (operation_at sign.Subtract u k.there h) x y hx hy
  binary_value sign.Concat u v k h x y hx hy = let n = number_is family.Concatenation (head S.defs u) h.0 h.1 in absurd (nothing_on h.0 n.2)
  binary_value sign.AddWrap u v k h x y hx hy = alike_value (operation S.defs S.number sign.AddWrap u) u k (operation_at sign.AddWrap u k.there h) x y hx hy
  binary_value sign.SubtractWrap u v k h x y hx hy = alike_value (operation S.defs S.number sign.SubtractWrap u) u k (operation_at sign.SubtractWrap u k.there h) x y hx hy
  binary_value sign.Multiply u v k h x y hx hy = alike_value (operation S.defs S.number sign.Multiply u) u k (operation_at sign.Multiply u k.there h) x y hx hy
  binary_value sign.Divide u v k h x y hx hy = alike_value (operation S.defs S.number sign.Divide u) u k (operation_at sign.Divide u k.there h) x y hx hy
  binary_value sign.Remainder u v k h x y hx hy = alike_value (operation S.defs S.number sign.Remainder u) u k (operation_at sign.Remainder u k.there h) x y hx hy
  binary_value sign.MultiplyWrap u v k h x y hx hy = alike_value (operation S.defs S.number sign.MultiplyWrap u) u k (operation_at sign.MultiplyWrap u k.there h) x y hx hy
  binary_value sign.Power u v k h x y hx hy = alike_value (operation S.defs S.number sign.Power u) u k (operation_at sign.Power u k.there h) x y hx hy
