-- Members, elements and calls as they are made.
use Rattle.std.proofs.Common.{◌≡◌, ◌∙◌, ℕ, Bool, List, [], ◌∷◌, Option, Some, None, refl, sym, ap}
use Rattle.std.specs.Prelude.{Result, IfOk}
use Rattle.mo_types.specs.declared.node.Field.{Field}
use Rattle.mo_types.specs.declared.node.Node.{Node}
use Rattle.mo_types.specs.declared.node.Node.TheVariants as node
use Rattle.mo_types.specs.declared.node.Sort.TheVariants as sort
use Rattle.mo_types.specs.Sub.{find}
use Rattle.mo_values.specs.declared.operation.Operation.TheVariants as op
use Rattle.typed_tree.specs.declared.action.Action.{Action}
use Rattle.typed_tree.specs.declared.expression.TypedExpression.{TypedExpression}
use Rattle.typing_rules.specs.Terms.{Term}
use Rattle.type_terms.specs.declared.form.TermId.{TermId}
use Rattle.type_definitions.specs.Meanings.{term}
use Rattle.met_types.specs.States.{State}
use Rattle.desugaring.specs.Expressions as expressions
use Rattle.kernel_types.specs.Numbers.{definitions, members_head_of, number}
use Rattle.kernel_nodes.specs.Made.{acts_at, held_at, operates_at}
use Rattle.kernel_nodes.proofs.Rolling.{if_same}
use Rattle.kernel_members.specs.declared.members.Access.{Access}
use Rattle.kernel_members.specs.Accesses.{access_at, accessed_in, call_in, callee_in, element_in, is_mutable_at, is_var, member_in}

module _ (s : State) (kind : TermId) where
  var_is : (o : Option (Field Term)) → expressions.is_mutable o ≡ is_var o
  var_is None = refl
  var_is (Some f) = refl

  member_seen : (x : List ℕ) (y : Node Term) (a : TypedExpression) → accessed_in s kind x (access_at x y) a ≡ expressions.member_of (definitions s) (number s) (term s.forms kind) x y a
  member_seen x (node.Object fs) a = ap (λ (b : Bool). held_at s kind b (operates_at s kind (op.Field x) (a ∷ []))) (sym (var_is (find x fs)))
  member_seen x (node.Actor fs) a = refl
  member_seen x node.Text a = refl
  member_seen x _ a = refl

  element_seen : (y : Node Term) (a i : TypedExpression) → held_at s kind (is_mutable_at y) (operates_at s kind op.Element (a ∷ i ∷ [])) ≡ expressions.element_at (definitions s) (number s) (term s.forms kind) y a i
  element_seen (node.MutArray v) a i = refl
  element_seen _ a i = refl

  call_seen : (y : Node Term) (es : List TypedExpression) → acts_at s kind (callee_in (number s) y) es ≡ expressions.call_of (definitions s) (number s) (term s.forms kind) y es
  call_seen (node.Func sort.Local ps rs) es = refl
  call_seen (node.Func sort.Shared ps rs) es = refl
  call_seen (node.Func sort.Query ps rs) es = refl
  call_seen _ es = refl

  module _ {E : Type 0} (r : Result TypedExpression E) (v : TermId) where
    pub member_made : (x : List ℕ) (c : Access) (a : TypedExpression) → c ≡ access_at x (members_head_of s v) → IfOk r (λ m. m ≡ accessed_in s kind x c a) → IfOk r (λ m. m ≡ member_in s kind x v a)
    member_made x c a e = if_same r (accessed_in s kind x c a) (member_in s kind x v a) (ap (λ (d : Access). accessed_in s kind x d a) e ∙ member_seen x (members_head_of s v) a)

    pub element_made : (b : Bool) (p a i : TypedExpression) → b ≡ is_mutable_at (members_head_of s v) → p ≡ operates_at s kind op.Element (a ∷ i ∷ []) → IfOk r (λ m. m ≡ held_at s kind b p) → IfOk r (λ m. m ≡ element_in s kind v a i)
    element_made b p a i e h = if_same r (held_at s kind b p) (element_in s kind v a i) (ap (λ (c : Bool). held_at s kind c p) e ∙ (ap (held_at s kind (is_mutable_at (members_head_of s v))) h ∙ element_seen (members_head_of s v) a i))

    pub call_made : (c : Action) (es : List TypedExpression) → c ≡ callee_in (number s) (members_head_of s v) → IfOk r (λ m. m ≡ acts_at s kind c es) → IfOk r (λ m. m ≡ call_in s kind v es)
    call_made c es e = if_same r (acts_at s kind c es) (call_in s kind v es) (ap (λ (d : Action). acts_at s kind d es) e ∙ call_seen (members_head_of s v) es)
