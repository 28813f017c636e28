-- Nodes as they are made.
use Rattle.std.proofs.Common.{◌≡◌, ◌∙◌, Bool, true, false, List, [], ◌∷◌, length, nat_eq, refl, sym, ap, arith}
use Rattle.std.specs.Prelude.{Result, Ok, Err, IfOk}
use Rattle.std.specs.Cmp.{unsigned_Decides}
use Rattle.mo_types.specs.declared.node.TypeId.{TypeId}
use Rattle.mo_values.specs.declared.operation.Operation.{Operation}
use Rattle.mo_values.specs.declared.operation.Operation.TheVariants as op
use Rattle.typed_tree.specs.declared.action.Action.{Action}
use Rattle.typed_tree.specs.declared.literal.Literal.TheVariants as literal
use Rattle.typed_tree.specs.declared.expression.Form.{Form, roll-Form}
use Rattle.typed_tree.specs.declared.expression.Form.TheOpen as F
use Rattle.typed_tree.specs.declared.expression.Form.TheVariants as f
use Rattle.typed_tree.specs.declared.expression.Function.{Function}
use Rattle.typed_tree.specs.declared.expression.Step.{Step}
use Rattle.typed_tree.specs.declared.expression.TypedExpression.{TypedExpression}
use Rattle.type_terms.specs.declared.form.TermId.{TermId}
use Rattle.met_types.specs.States.{State}
use Rattle.desugaring.specs.Nodes as nodes
use Rattle.kernel_types.specs.Numbers.{number_of}
use Rattle.kernel_nodes.specs.Made.{acts_at, alone_at, at_type, constant_at, functions_step, held_at, name_at, on, operates_at, tuple_at}

pub if_ok : {A E : Type 0} (r : Result A E) (P Q : A → Type 0) → IfOk r P → ((a : A) → P a → Q a) → IfOk r Q
if_ok (Ok a) P Q h k = k a h
if_ok (Err x) P Q h k = tt

-- what is made of the one is what is made of the other
pub if_same : {A E : Type 0} (r : Result A E) (a b : A) → a ≡ b → IfOk r (λ m. m ≡ a) → IfOk r (λ m. m ≡ b)
if_same r a b e h = if_ok r (λ m. m ≡ a) (λ m. m ≡ b) h (λ m g. g ∙ e)

module _ {E : Type 0} (r : Result TypedExpression E) where
  pub made_as : (u v : TypeId) (g : Form) (x : nodes.Layer) → u ≡ v → roll-Form x ≡ g → IfOk r (λ m. m ≡ on u g) → IfOk r (λ m. m ≡ nodes.node_of v x)
  made_as u v g x e h = if_same r (on u g) (nodes.node_of v x) (ap (λ (w : TypeId). on w g) e ∙ ap (on v) (sym h))

  pub acted : (u v : TypeId) (a : Action) (es fs : List TypedExpression) → u ≡ v → es ≡ fs → IfOk r (λ m. m ≡ on u (f.Do a es)) → IfOk r (λ m. m ≡ nodes.node_of v (F.Do a fs))
  acted u v a es fs e h = made_as u v (f.Do a es) (F.Do a fs) e (f.rolls-Do a fs ∙ ap (λ (l : List TypedExpression). f.Do a l) (sym h))

module _ (s : State) (kind : TermId) {E : Type 0} (r : Result TypedExpression E) where
  pub acts_on : (a : Action) (es fs : List TypedExpression) → es ≡ fs → IfOk r (λ m. m ≡ acts_at s kind a es) → IfOk r (λ m. m ≡ acts_at s kind a fs)
  acts_on a es fs e = if_same r (acts_at s kind a es) (acts_at s kind a fs) (ap (acts_at s kind a) e)

  pub operates_on : (o w : Operation) (es fs : List TypedExpression) → o ≡ w → es ≡ fs → IfOk r (λ m. m ≡ operates_at s kind o es) → IfOk r (λ m. m ≡ operates_at s kind w fs)
  operates_on o w es fs e h = if_same r (operates_at s kind o es) (operates_at s kind w fs) (ap (λ (z : Operation). operates_at s kind z es) e ∙ ap (operates_at s kind w) h)

  pub block_is : (steps more : List Step) (value last : TypedExpression) → steps ≡ more → value ≡ last → IfOk r (λ m. m ≡ on (number_of s kind) (f.Block steps value)) → IfOk r (λ m. m ≡ at_type s kind (F.Block more last))
  block_is steps more value last e h =
      made_as r (number_of s kind) (number_of s kind) (f.Block steps value) (F.Block more last) refl
      (f.rolls-Block more last ∙ (ap (λ (l : List Step). f.Block l last) (sym e) ∙ ap (λ (v : TypedExpression). f.Block steps v) (sym h)))

  pub held_true : (b : Bool) (e : TypedExpression) (a : TypedExpression) → b ≡ true → a ≡ held_at s kind true e → IfOk r (λ m. m ≡ a) → IfOk r (λ m. m ≡ held_at s kind b e)
  held_true b e a h g = if_same r a (held_at s kind b e) (g ∙ ap (λ (c : Bool). held_at s kind c e) (sym h))

  pub held_on : (b : Bool) (d e : TypedExpression) → d ≡ e → IfOk r (λ m. m ≡ held_at s kind b d) → IfOk r (λ m. m ≡ held_at s kind b e)
  held_on b d e h = if_same r (held_at s kind b d) (held_at s kind b e) (ap (held_at s kind b) h)

  empty_is : {A : Type 0} (xs : List A) (b : Bool) → b ≡ nat_eq (length xs) 0 → b ≡ true → xs ≡ []
  empty_is [] b e h = refl
  empty_is (x ∷ xs) b e h = let m : length (x ∷ xs) ≡ 0 = (unsigned_Decides (length (x ∷ xs)) 0).0 (sym e ∙ h) in absurd (omega (arith, m))

  pub tuple_of_none : (es : List TypedExpression) (b : Bool) → b ≡ nat_eq (length es) 0 → b ≡ true → IfOk r (λ m. m ≡ constant_at s kind literal.Unit) → IfOk r (λ m. m ≡ tuple_at s kind es)
  tuple_of_none es b e h = if_same r (constant_at s kind literal.Unit) (tuple_at s kind es) (ap (tuple_at s kind) (sym (empty_is es b e h)))

  pub tuple_of_several : (es : List TypedExpression) (b : Bool) → b ≡ nat_eq (length es) 0 → b ≡ false → IfOk r (λ m. m ≡ operates_at s kind op.MakeTuple es) → IfOk r (λ m. m ≡ tuple_at s kind es)
  tuple_of_several [] b e h g = cc
  tuple_of_several (x ∷ es) b e h g = g

  pub alone_is : (g : Function) (steps : List Step) (value : TypedExpression) → steps ≡ functions_step (g ∷ []) ∷ [] → value ≡ name_at s kind 0 → IfOk r (λ m. m ≡ on (number_of s kind) (f.Block steps value)) → IfOk r (λ m. m ≡ alone_at s kind g)
  alone_is g steps value = block_is steps (functions_step (g ∷ []) ∷ []) value (name_at s kind 0)
