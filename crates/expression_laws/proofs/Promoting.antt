-- The type that a value's members go by.
use Rattle.std.proofs.Common.{◌≡◌, inl, inr, ℕ, zero, suc, Bool, true, false, length, Option, Some, None, refl, sym, ap, subst}
use Rattle.std.specs.Prelude.{nat_eq}
use Rattle.mo_types.specs.declared.node.Node.{Node}
use Rattle.mo_types.specs.declared.node.Node.TheVariants as node
use Rattle.mo_types.specs.declared.node.TypeId.{TypeId}
use Rattle.mo_types.specs.Graph.{head_at}
use Rattle.mo_types.specs.Heads.{variable_of}
use Rattle.mo_types.specs.Sub.{Unless, Sub, NodeBelow, VariableBelow}
use Rattle.typed_tree.specs.declared.expression.TypedExpression.{TypedExpression}
use Rattle.typed_tree.specs.Typing.{Typed}
use Rattle.typed_tree.specs.Wants.{Of, Below}
use Rattle.typing_rules.specs.Heads.{head, bound_of, promoted, promoted_once, members_head}
use Rattle.typing_rules.specs.Terms.{Term}
use Rattle.expression_laws.proofs.Ending.{Setting, Place, self, trans, there, inside, Known, Value}

is_variable : (y : Node Term) (b : Term) → bound_of y ≡ Some b → (v : ℕ) × (y ≡ node.Variable v b)
is_variable (node.Variable v c) b e = let g : c ≡ b = cc in (v, ap (λ z. node.Variable v z) g)
is_variable (node.Number k) b e = cc
is_variable node.Bool b e = cc
is_variable node.Char b e = cc
is_variable node.Text b e = cc
is_variable node.Blob b e = cc
is_variable node.Principal b e = cc
is_variable node.Error b e = cc
is_variable node.Null b e = cc
is_variable node.Any b e = cc
is_variable node.Bottom b e = cc
is_variable (node.Opt a) b e = cc
is_variable (node.Array a) b e = cc
is_variable (node.MutArray a) b e = cc
is_variable (node.Tuple ts) b e = cc
is_variable (node.Object fs) b e = cc
is_variable (node.Actor fs) b e = cc
is_variable (node.Variant fs) b e = cc
is_variable (node.Func s ps rs) b e = cc
is_variable (node.Async a) b e = cc

-- a type parameter is below its bound
module _ (S : Setting) where
  to_bound : (b : TypeId) (v : ℕ) (o : Option ℕ) (n : ℕ) → VariableBelow (Sub (head_at S.slots) n) b b o v
  to_bound b v None n = (self S b).by n
  to_bound b v (Some w) n = by (nat_eq v w) where
    by : (t : Bool) → Unless t (Sub (head_at S.slots) n b b)
    by true = tt
    by false = (self S b).by n

  under_bound : (t b : TypeId) (v : ℕ) → head_at S.slots t ≡ node.Variable v b → (n : ℕ) → Sub (head_at S.slots) n t b
  unfolding Sub
  under_bound t b v e zero = tt
  under_bound t b v e (suc n) = subst (λ x. NodeBelow (Sub (head_at S.slots) n) b x (head_at S.slots b)) (sym e) (inr (to_bound b v (variable_of (head_at S.slots b)) n))

  bound_above : (t b : TypeId) (v : ℕ) → head_at S.slots t ≡ node.Variable v b → Below (head_at S.slots) t b
  bound_above t b v e = record { by = under_bound t b v e }

  module _ (A : Place S) where
    -- a known type above u
    pub record Above (u v : Term) : Type 0 where
      pub known : Known S A v
      pub below : Below (head_at S.slots) (S.number u) (S.number v)

    once : (u : Term) → Known S A u → Above u (promoted_once (bound_of (head S.defs u)) u)
    once u k = by (bound_of (head S.defs u)) refl where
      by : (o : Option Term) → bound_of (head S.defs u) ≡ o → Above u (promoted_once o u)
      by None e = record { known = k; below = self S (S.number u) }
      by (Some b) e =
          let h = is_variable (head S.defs u) b e in
          record { known = inside S A.context.parameters u b k (node.Variable h.0 b) h.1 (inl refl); below = bound_above (S.number u) (S.number b) h.0 (there S u k.there (node.Variable h.0 b) h.1) }

    several : (n : ℕ) (u : Term) → Known S A u → Above u (promoted S.defs n u)
    several zero u k = record { known = k; below = self S (S.number u) }
    several (suc n) u k =
        let o = once u k in
        let r = several n (promoted_once (bound_of (head S.defs u)) u) o.known in
        record { known = r.known; below = trans S (S.number u) (S.number (promoted_once (bound_of (head S.defs u)) u)) (S.number (promoted S.defs n (promoted_once (bound_of (head S.defs u)) u))) o.below r.below }

    -- a value at the type that its members go by
    pub record Promoted (u : Term) (y : Node Term) (x : TypedExpression) : Type 0 where
      pub type : Term
      pub known : Known S A type
      pub head_is : head S.defs type ≡ y
      pub typed : Typed S.slots x A.context (Of (S.number type))

    pub promotes : (u : Term) (x : TypedExpression) → Value S A u x → Promoted u (members_head S.defs u) x
    unfolding members_head
    promotes u x h =
        let n = suc (length S.defs.parameters) in
        let r = several n u h.known in
        record { type = promoted S.defs n u; known = r.known; head_is = refl; typed = h.typed (S.number (promoted S.defs n u)) r.below }
