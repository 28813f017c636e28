-- The rules of typing at each layer of a tree.
use Rattle.std.proofs.Common.{◌≡◌, List, [], ◌∷◌, map, refl}
use Rattle.mo_types.specs.declared.node.Node.{Node}
use Rattle.mo_types.specs.declared.node.Sort.TheVariants as sort
use Rattle.mo_types.specs.declared.node.TypeId.{TypeId}
use Rattle.mo_types.specs.Graph.{Slot, head_at}
use Rattle.typed_tree.specs.declared.expression.Form.{Form, roll-Form, rec-roll-Form, map-Form}
use Rattle.typed_tree.specs.declared.expression.Form.TheOpen as F
use Rattle.typed_tree.specs.declared.expression.Step.{Step, roll-Step, rec-roll-Step, map-Step}
use Rattle.typed_tree.specs.declared.expression.Case.{Case, roll-Case, rec-roll-Case, map-Case}
use Rattle.typed_tree.specs.declared.expression.Function.{Function, roll-Function, rec-roll-Function, map-Function}
use Rattle.typed_tree.specs.declared.expression.TypedExpression.{TypedExpression, roll-TypedExpression, rec-roll-TypedExpression, map-TypedExpression}
use Rattle.typed_tree.specs.ActionTypes.{Context, ActionTyped}
use Rattle.typed_tree.specs.Typing.{Giving, Declaring, Choosing, Being, Signature, NameOf, with_names, EachGives, CasesGive, BlockGives, GroupStands, form_rule, step_rule, case_rule, function_rule, expression_rule, Typed, Declares, IsFunctionOf, FormTyped, CaseTyped}
use Rattle.typed_tree.specs.TypingLaws.{form_typing, step_typing, case_typing, function_typing, expression_typing}
use Rattle.typed_tree.specs.Wants.{Want, Of}

-- ---- lists of parts

each_gives : {X Y : Type 0} (v : X → Y) (q : Y → Giving) (c : Context) (es : List X) (ws : List (Want TypeId)) → EachGives (λ x. q (v x)) c es ws ≡ EachGives q c (map v es) ws
each_gives v q c [] [] = refl
each_gives v q c [] (w ∷ ws) = refl
each_gives v q c (e ∷ es) [] = refl
each_gives v q c (e ∷ es) (w ∷ ws) = λ i. q (v e) c w × each_gives v q c es ws i

cases_give : {X Y : Type 0} (v : X → Y) (q : Y → Choosing) (c : Context) (xs : List X) (t : TypeId) (w : Want TypeId) → CasesGive (λ x. q (v x)) c xs t w ≡ CasesGive q c (map v xs) t w
cases_give v q c [] t w = refl
cases_give v q c (x ∷ xs) t w = λ i. q (v x) c t w × cases_give v q c xs t w i

block_gives : {X Y Z W : Type 0} (v : X → Y) (u : Z → W) (q : Y → Declaring) (r : W → Giving) (c : Context) (ss : List X) (e : Z) (w : Want TypeId) →
    BlockGives (λ x. q (v x)) (λ z. r (u z)) c ss e w ≡ BlockGives q r c (map v ss) (u e) w
block_gives v u q r c [] e w = refl
block_gives v u q r c (s ∷ ss) e w = λ i. (ns : List (Want TypeId)) × q (v s) c ns × block_gives v u q r (with_names ns c) ss e w i

group_stands : {X Y : Type 0} (head : TypeId → Node TypeId) (v : X → Y) (q : Y → Being) (c : Context) (fs : List X) (ws : List (Want TypeId)) →
    GroupStands head (λ x. q (v x)) c fs ws ≡ GroupStands head q c (map v fs) ws
group_stands head v q c [] [] = refl
group_stands head v q c [] (w ∷ ws) = refl
group_stands head v q c (f ∷ fs) [] = refl
group_stands head v q c (f ∷ fs) (w ∷ ws) = λ i. ((s : Signature) × (s.sort ≡ sort.Local) × (s.context ≡ []) × q (v f) c s × NameOf head s w) × group_stands head v q c fs ws i

-- ---- layers

module _ (types : List Slot) where
  module _ (A B C D E : Type 0) (v0 : A → Form) (v1 : B → Step) (v2 : C → Case) (v3 : D → Function) (v4 : E → TypedExpression) (q0 : Form → Giving) (q1 : Step → Declaring) (q2 : Case → Choosing) (q3 : Function → Being) (q4 : TypedExpression → Giving) where
    form_steps : (x : F.Form-F A B C D E) → form_rule types A B C D E v4 (λ p. q0 (v0 p)) (λ p. q1 (v1 p)) (λ p. q2 (v2 p)) (λ p. q3 (v3 p)) (λ p. q4 (v4 p)) x ≡ form_rule types Form Step Case Function TypedExpression (λ e. e) q0 q1 q2 q3 q4 (map-Form A B C D E Form Step Case Function TypedExpression v0 v1 v2 v3 v4 x)
    form_steps (F.Constant l) = refl
    form_steps (F.Name x) = refl
    form_steps (F.Do a es) = λ i c w. (ws : List (Want TypeId)) × ActionTyped (head_at types) c a ws w × each_gives v4 q4 c es ws i
    form_steps (F.If e a b) = refl
    form_steps (F.Switch token e xs) = λ i c w. (t s : TypeId) × (w ≡ Of t) × q4 (v4 e) c (Of s) × cases_give v2 q2 c xs s w i
    form_steps (F.While e b) = refl
    form_steps (F.Loop b) = refl
    form_steps (F.Repeat b e) = refl
    form_steps (F.For p e b) = refl
    form_steps (F.Label e) = refl
    form_steps (F.Try e p b) = refl
    form_steps (F.Update o e f) = refl
    form_steps (F.Block ss e) = λ i c w. (t : TypeId) × (w ≡ Of t) × block_gives v1 v4 q1 q4 c ss e w i

    step_steps : (x : F.Step-F A B C D E) → step_rule types A B C D E v4 (λ p. q0 (v0 p)) (λ p. q1 (v1 p)) (λ p. q2 (v2 p)) (λ p. q3 (v3 p)) (λ p. q4 (v4 p)) x ≡ step_rule types Form Step Case Function TypedExpression (λ e. e) q0 q1 q2 q3 q4 (map-Step A B C D E Form Step Case Function TypedExpression v0 v1 v2 v3 v4 x)
    step_steps (F.Let p e) = refl
    step_steps (F.Var e) = refl
    step_steps (F.Stable x e) = refl
    step_steps (F.Functions fs) = λ i c ns. group_stands (head_at types) v3 q3 (with_names ns c) fs ns i
    step_steps (F.Evaluate e) = refl

    case_steps : (x : F.Case-F A B C D E) → case_rule types A B C D E v4 (λ p. q0 (v0 p)) (λ p. q1 (v1 p)) (λ p. q2 (v2 p)) (λ p. q3 (v3 p)) (λ p. q4 (v4 p)) x ≡ case_rule types Form Step Case Function TypedExpression (λ e. e) q0 q1 q2 q3 q4 (map-Case A B C D E Form Step Case Function TypedExpression v0 v1 v2 v3 v4 x)
    case_steps x = refl

    function_steps : (x : F.Function-F A B C D E) → function_rule types A B C D E v4 (λ p. q0 (v0 p)) (λ p. q1 (v1 p)) (λ p. q2 (v2 p)) (λ p. q3 (v3 p)) (λ p. q4 (v4 p)) x ≡ function_rule types Form Step Case Function TypedExpression (λ e. e) q0 q1 q2 q3 q4 (map-Function A B C D E Form Step Case Function TypedExpression v0 v1 v2 v3 v4 x)
    function_steps x = refl

    expression_steps : (x : F.TypedExpression-F A B C D E) → expression_rule types A B C D E v4 (λ p. q0 (v0 p)) (λ p. q1 (v1 p)) (λ p. q2 (v2 p)) (λ p. q3 (v3 p)) (λ p. q4 (v4 p)) x ≡ expression_rule types Form Step Case Function TypedExpression (λ e. e) q0 q1 q2 q3 q4 (map-TypedExpression A B C D E Form Step Case Function TypedExpression v0 v1 v2 v3 v4 x)
    expression_steps x = refl

  pub form_is : (x : F.Form-F Form Step Case Function TypedExpression) → FormTyped types (roll-Form x) ≡ form_typing types x
  unfolding Typed Declares IsFunctionOf FormTyped CaseTyped
  form_is = rec-roll-Form Giving Declaring Choosing Being Giving
      (λ A B C D E _ _ _ _ whole. form_rule types A B C D E whole) (λ A B C D E _ _ _ _ whole. step_rule types A B C D E whole) (λ A B C D E _ _ _ _ whole. case_rule types A B C D E whole)
      (λ A B C D E _ _ _ _ whole. function_rule types A B C D E whole) (λ A B C D E _ _ _ _ whole. expression_rule types A B C D E whole) form_steps

  pub step_is : (x : F.Step-F Form Step Case Function TypedExpression) → Declares types (roll-Step x) ≡ step_typing types x
  unfolding Typed Declares IsFunctionOf FormTyped CaseTyped
  step_is = rec-roll-Step Giving Declaring Choosing Being Giving
      (λ A B C D E _ _ _ _ whole. form_rule types A B C D E whole) (λ A B C D E _ _ _ _ whole. step_rule types A B C D E whole) (λ A B C D E _ _ _ _ whole. case_rule types A B C D E whole)
      (λ A B C D E _ _ _ _ whole. function_rule types A B C D E whole) (λ A B C D E _ _ _ _ whole. expression_rule types A B C D E whole) step_steps

  pub case_is : (x : F.Case-F Form Step Case Function TypedExpression) → CaseTyped types (roll-Case x) ≡ case_typing types x
  unfolding Typed Declares IsFunctionOf FormTyped CaseTyped
  case_is = rec-roll-Case Giving Declaring Choosing Being Giving
      (λ A B C D E _ _ _ _ whole. form_rule types A B C D E whole) (λ A B C D E _ _ _ _ whole. step_rule types A B C D E whole) (λ A B C D E _ _ _ _ whole. case_rule types A B C D E whole)
      (λ A B C D E _ _ _ _ whole. function_rule types A B C D E whole) (λ A B C D E _ _ _ _ whole. expression_rule types A B C D E whole) case_steps

  pub function_is : (x : F.Function-F Form Step Case Function TypedExpression) → IsFunctionOf types (roll-Function x) ≡ function_typing types x
  unfolding Typed Declares IsFunctionOf FormTyped CaseTyped
  function_is = rec-roll-Function Giving Declaring Choosing Being Giving
      (λ A B C D E _ _ _ _ whole. form_rule types A B C D E whole) (λ A B C D E _ _ _ _ whole. step_rule types A B C D E whole) (λ A B C D E _ _ _ _ whole. case_rule types A B C D E whole)
      (λ A B C D E _ _ _ _ whole. function_rule types A B C D E whole) (λ A B C D E _ _ _ _ whole. expression_rule types A B C D E whole) function_steps

  pub expression_is : (x : F.TypedExpression-F Form Step Case Function TypedExpression) → Typed types (roll-TypedExpression x) ≡ expression_typing types x
  unfolding Typed Declares IsFunctionOf FormTyped CaseTyped
  expression_is = rec-roll-TypedExpression Giving Declaring Choosing Being Giving
      (λ A B C D E _ _ _ _ whole. form_rule types A B C D E whole) (λ A B C D E _ _ _ _ whole. step_rule types A B C D E whole) (λ A B C D E _ _ _ _ whole. case_rule types A B C D E whole)
      (λ A B C D E _ _ _ _ whole. function_rule types A B C D E whole) (λ A B C D E _ _ _ _ whole. expression_rule types A B C D E whole) expression_steps
