-- Operators as they are made.
use Rattle.std.proofs.Common.{◌≡◌, ◌∙◌, Bool, true, false, List, [], ◌∷◌, Option, Some, None, refl, sym, ap}
use Rattle.std.specs.Prelude.{Result, IfOk}
use Rattle.mo_num.specs.declared.kind.Kind.{Kind}
use Rattle.mo_syntax.specs.declared.operators.BinaryOperator.{BinaryOperator}
use Rattle.mo_syntax.specs.declared.operators.BinaryOperator.TheVariants as sign
use Rattle.mo_types.specs.declared.node.Node.{Node}
use Rattle.mo_types.specs.declared.node.Node.TheVariants as node
use Rattle.mo_types.specs.declared.node.TypeId.{TypeId}
use Rattle.mo_types.specs.Heads.{number_of}
use Rattle.mo_subtype.specs.Renamed.{on_node}
use Rattle.mo_values.specs.declared.operation.Operation.{Operation}
use Rattle.mo_values.specs.declared.operation.Scalar.{Scalar}
use Rattle.typed_tree.specs.declared.expression.Form.TheOpen as F
use Rattle.typed_tree.specs.declared.expression.Form.TheVariants as f
use Rattle.typed_tree.specs.declared.expression.TypedExpression.{TypedExpression}
use Rattle.typing_rules.specs.Terms.{Term}
use Rattle.type_terms.specs.declared.form.TermId.{TermId}
use Rattle.met_types.specs.States.{State}
use Rattle.desugaring.specs.Nodes as nodes
use Rattle.kernel_types.specs.Numbers.{IsHead, head_of, type_at}
use Rattle.kernel_types.specs.Numbers as numbers
use Rattle.kernel_nodes.specs.Made.{flag_in, on, operates_at}
use Rattle.kernel_nodes.proofs.Rolling.{if_same, made_as}
use Rattle.kernel_operators.specs.Operations.{binary_in, both_in, choice_of, either_in, kind_in, relation_in, scalar_at}

number_seen : (g : TypeId → Term) (y : Node TypeId) → number_of (on_node g y) ≡ number_of y
number_seen g (node.Number k) = refl
number_seen g _ = refl

scalar_seen : (g : TypeId → Term) (y : Node TypeId) → nodes.scalar_of (on_node g y) ≡ scalar_at y
scalar_seen g (node.Number k) = refl
scalar_seen g node.Bool = refl
scalar_seen g node.Char = refl
scalar_seen g node.Blob = refl
scalar_seen g _ = refl

module _ (s : State) (id : TermId) (y : Node TypeId) (h : IsHead s id y) where
  pub kind_found : (o : Option Kind) → o ≡ number_of y → nodes.kind_or o ≡ kind_in s id
  kind_found o e = ap nodes.kind_or (e ∙ (sym (number_seen (type_at s) y) ∙ ap number_of (sym h.is)))

  pub scalar_found : (v : Scalar) → v ≡ scalar_at y → v ≡ nodes.scalar_of (head_of s id)
  scalar_found v e = e ∙ (sym (scalar_seen (type_at s) y) ∙ ap nodes.scalar_of (sym h.is))

-- ---- operators by what they are

related : (s : State) (o : BinaryOperator) (u v : TermId) (a b : TypedExpression) → choice_of o ≡ None → operates_at s u (relation_in s o u v) (a ∷ b ∷ []) ≡ binary_in s o u v a b
related s sign.Or u v a b h = cc
related s sign.And u v a b h = cc
related s _ u v a b h = refl

as_either : (s : State) (o : BinaryOperator) (u v : TermId) (a b : TypedExpression) → choice_of o ≡ Some true → either_in s u a b ≡ binary_in s o u v a b
as_either s sign.Or u v a b h = refl
as_either s sign.And u v a b h = cc
as_either s _ u v a b h = cc

as_both : (s : State) (o : BinaryOperator) (u v : TermId) (a b : TypedExpression) → choice_of o ≡ Some false → both_in s u a b ≡ binary_in s o u v a b
as_both s sign.Or u v a b h = cc
as_both s sign.And u v a b h = refl
as_both s _ u v a b h = cc

module _ {E : Type 0} (r : Result TypedExpression E) (s : State) (u : TermId) (a b : TypedExpression) where
  pub either_made : (t : TypedExpression) → t ≡ flag_in s true → IfOk r (λ m. m ≡ on (numbers.number_of s u) (f.If a t b)) → IfOk r (λ m. m ≡ either_in s u a b)
  either_made t e =
      made_as r (numbers.number_of s u) (numbers.number_of s u) (f.If a t b) (F.If a (flag_in s true) b) refl
      (f.rolls-If a (flag_in s true) b ∙ ap (λ (z : TypedExpression). f.If a z b) (sym e))

  pub both_made : (t : TypedExpression) → t ≡ flag_in s false → IfOk r (λ m. m ≡ on (numbers.number_of s u) (f.If a b t)) → IfOk r (λ m. m ≡ both_in s u a b)
  both_made t e =
      made_as r (numbers.number_of s u) (numbers.number_of s u) (f.If a b t) (F.If a b (flag_in s false)) refl
      (f.rolls-If a b (flag_in s false) ∙ ap (λ (z : TypedExpression). f.If a b z) (sym e))

  pub operated : (o w : Operation) (es fs : List TypedExpression) → o ≡ w → es ≡ fs → IfOk r (λ m. m ≡ operates_at s u o es) → IfOk r (λ m. m ≡ operates_at s u w fs)
  operated o w es fs e h = if_same r (operates_at s u o es) (operates_at s u w fs) (ap (λ (z : Operation). operates_at s u z es) e ∙ ap (operates_at s u w) h)

  module _ (o : BinaryOperator) (v : TermId) where
    pub binary_either : choice_of o ≡ Some true → IfOk r (λ m. m ≡ either_in s u a b) → IfOk r (λ m. m ≡ binary_in s o u v a b)
    binary_either h = if_same r (either_in s u a b) (binary_in s o u v a b) (as_either s o u v a b h)

    pub binary_both : choice_of o ≡ Some false → IfOk r (λ m. m ≡ both_in s u a b) → IfOk r (λ m. m ≡ binary_in s o u v a b)
    binary_both h = if_same r (both_in s u a b) (binary_in s o u v a b) (as_both s o u v a b h)

    pub binary_related : (w : Operation) → choice_of o ≡ None → w ≡ relation_in s o u v → IfOk r (λ m. m ≡ operates_at s u w (a ∷ b ∷ [])) → IfOk r (λ m. m ≡ binary_in s o u v a b)
    binary_related w h e = if_same r (operates_at s u w (a ∷ b ∷ [])) (binary_in s o u v a b) (ap (λ (z : Operation). operates_at s u z (a ∷ b ∷ [])) e ∙ related s o u v a b h)
