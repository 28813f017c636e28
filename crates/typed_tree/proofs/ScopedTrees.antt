-- The expression of a typed tree has no names but those around it.
use Rattle.std.proofs.Common.{◌≡◌, ℕ, zero, suc, ◌+◌, ◌<◌, List, [], ◌∷◌, ◌++◌, length, length-append, map, Some, slice_get, arith, inl, inr, refl, sym, ap, ap₂, ◌∙◌, subst}
use Rattle.mo_types.specs.declared.node.TypeId.{TypeId}
use Rattle.mo_types.specs.Graph.{Slot, head_at}
use Rattle.typed_tree.specs.declared.expression.Form.{Form, roll-Form, map-Form, fold-roll-Form}
use Rattle.typed_tree.specs.declared.expression.Form.TheOpen as F
use Rattle.typed_tree.specs.declared.expression.Step.{Step, roll-Step, map-Step, ind-Step, fold-roll-Step}
use Rattle.typed_tree.specs.declared.expression.Case.{Case, roll-Case, map-Case, fold-roll-Case}
use Rattle.typed_tree.specs.declared.expression.Function.{Function, roll-Function, map-Function, ind-Function, fold-roll-Function}
use Rattle.typed_tree.specs.declared.expression.TypedExpression.{TypedExpression, roll-TypedExpression, map-TypedExpression, fold-roll-TypedExpression}
use Rattle.typed_tree.specs.declared.pattern.TypedPattern.{TypedPattern}
use Rattle.typed_tree.specs.ActionTypes.{Context}
use Rattle.typed_tree.specs.Language.{Exp}
use Rattle.typed_tree.specs.Patterns.{names, names_all}
use Rattle.typed_tree.specs.PatternView.{pattern, patterns}
use Rattle.typed_tree.specs.Scoped.{Scoped, ScopedAll, ScopedCases, ScopedFunctions}
use Rattle.typed_tree.specs.Substitution.{count}
use Rattle.typed_tree.specs.Typing.{Signature, with_names, in_body, EachGives, CasesGive, BlockGives, GroupStands, Typed, Declares, IsFunctionOf, FormTyped, CaseTyped}
use Rattle.typed_tree.specs.TypingLaws.{form_typing, step_typing, case_typing, function_typing, expression_typing}
use Rattle.typed_tree.specs.View.{CaseView, FunctionView, StepView, exps, cases, group, block, form_step, step_step, case_step, function_step, expression_step, expression, form, declaration, case_view, function}
use Rattle.typed_tree.specs.Wants.{Want, in_function}
use Rattle.typed_tree.proofs.PatternNames.{names_counted, all_counted}
use Rattle.typed_tree.proofs.Rules as rules

-- ---- what a layer stands for

abbrev form_view : F.Form-F Form Step Case Function TypedExpression → Exp
form_view x = form_step (map-Form Form Step Case Function TypedExpression Exp StepView CaseView FunctionView Exp form declaration case_view function expression x)

abbrev step_view : F.Step-F Form Step Case Function TypedExpression → StepView
step_view x = step_step (map-Step Form Step Case Function TypedExpression Exp StepView CaseView FunctionView Exp form declaration case_view function expression x)

form_viewed : (x : F.Form-F Form Step Case Function TypedExpression) → form (roll-Form x) ≡ form_view x
unfolding form declaration case_view function expression
form_viewed x = fold-roll-Form Exp StepView CaseView FunctionView Exp form_step step_step case_step function_step expression_step x

step_viewed : (x : F.Step-F Form Step Case Function TypedExpression) → declaration (roll-Step x) ≡ step_view x
unfolding form declaration case_view function expression
step_viewed x = fold-roll-Step Exp StepView CaseView FunctionView Exp form_step step_step case_step function_step expression_step x

case_viewed : (x : F.Case-F Form Step Case Function TypedExpression) → case_view (roll-Case x) ≡ record { pattern = pattern x.pattern; body = expression x.body }
unfolding form declaration case_view function expression
case_viewed x = fold-roll-Case Exp StepView CaseView FunctionView Exp form_step step_step case_step function_step expression_step x

function_viewed : (x : F.Function-F Form Step Case Function TypedExpression) → function (roll-Function x) ≡ record { how = x.sort; nodes = x.nodes; parameters = patterns x.parameters; body = expression x.body }
unfolding form declaration case_view function expression
function_viewed x = fold-roll-Function Exp StepView CaseView FunctionView Exp form_step step_step case_step function_step expression_step x

expression_viewed : (x : F.TypedExpression-F Form Step Case Function TypedExpression) → expression (roll-TypedExpression x) ≡ form x.form
unfolding form declaration case_view function expression
expression_viewed x = fold-roll-TypedExpression Exp StepView CaseView FunctionView Exp form_step step_step case_step function_step expression_step x

-- ---- lists

pub within : {A : Type 0} (xs : List A) (n : ℕ) (x : A) → slice_get xs n ≡ Some x → n < length xs
within [] n x e = cc
within (y ∷ ys) zero x e = omega arith
within (y ∷ ys) (suc n) x e = let i : n < length ys = within ys n x e in omega arith

zero_sum : (k : ℕ) → 0 + k ≡ k
zero_sum k = omega arith

pub at : (m n : ℕ) (e : Exp) → m ≡ n → Scoped m e → Scoped n e
at m n e h s = subst (λ k. Scoped k e) h s

-- so many names more
pub under : (k : ℕ) (ns ms : List (Want TypeId)) (e : Exp) → length ns ≡ k → Scoped (length (ns ++ ms)) e → Scoped (k + length ms) e
under k ns ms e h s = subst (λ n. Scoped n e) (length-append ns ms ∙ ap (λ n. n + length ms) h) s

-- no names more
pub without : (k : ℕ) (ns : List (Want TypeId)) (n : ℕ) (e : Exp) → ns ≡ [] → Scoped ((length ns + k) + n) e → Scoped (k + n) e
without k ns n e h s = subst (λ m. Scoped m e) (ap (λ ms. (length ms + k) + n) h ∙ ap (λ m. m + n) (zero_sum k)) s

pub length_map : {A B : Type 0} (f : A → B) (xs : List A) → length (map f xs) ≡ length xs
length_map f [] = refl
length_map f (x ∷ xs) = ap suc (length_map f xs)

module _ (types : List Slot) where
  abbrev FormClaim : Form → Type 0
  FormClaim f = (c : Context) (w : Want TypeId) → FormTyped types f c w → Scoped (length c.names) (form f)

  abbrev pub StepClaim : Step → Type 0
  StepClaim s = (c : Context) (ns : List (Want TypeId)) → Declares types s c ns → (b : Exp) → Scoped (length ns + length c.names) b → Scoped (length c.names) (declaration s b)

  abbrev CaseClaim : Case → Type 0
  CaseClaim x = (c : Context) (t : TypeId) (w : Want TypeId) → CaseTyped types x c t w → Scoped (names (case_view x).pattern + length c.names) (case_view x).body

  abbrev pub FunctionClaim : Function → Type 0
  FunctionClaim f = (c : Context) (s : Signature) → IsFunctionOf types f c s → Scoped ((length s.context + names_all (function f).parameters) + length c.names) (function f).body

  abbrev ExpressionClaim : TypedExpression → Type 0
  ExpressionClaim e = (c : Context) (w : Want TypeId) → Typed types e c w → Scoped (length c.names) (expression e)

  abbrev K0 : Type 0
  K0 = (x : Form) × FormClaim x

  abbrev K1 : Type 0
  K1 = (x : Step) × StepClaim x

  abbrev K2 : Type 0
  K2 = (x : Case) × CaseClaim x

  abbrev K3 : Type 0
  K3 = (x : Function) × FunctionClaim x

  abbrev K4 : Type 0
  K4 = (x : TypedExpression) × ExpressionClaim x

  each_scoped : (es : List K4) (c : Context) (ws : List (Want TypeId)) → EachGives (Typed types) c (map (λ z. z.0) es) ws → ScopedAll (length c.names) (exps (map expression (map (λ z. z.0) es)))
  each_scoped [] c ws h = tt
  each_scoped (e ∷ es) c [] h = absurd h
  each_scoped (e ∷ es) c (w ∷ ws) h = (e.1 c w h.0, each_scoped es c ws h.1)

  cases_scoped : (xs : List K2) (c : Context) (t : TypeId) (w : Want TypeId) → CasesGive (CaseTyped types) c (map (λ z. z.0) xs) t w → ScopedCases (length c.names) (cases (map case_view (map (λ z. z.0) xs)))
  cases_scoped [] c t w h = tt
  cases_scoped (x ∷ xs) c t w h = (x.1 c t w h.0, cases_scoped xs c t w h.1)

  block_scoped : (ss : List K1) (e : K4) (c : Context) (w : Want TypeId) → BlockGives (Declares types) (Typed types) c (map (λ z. z.0) ss) e.0 w → Scoped (length c.names) (block (map declaration (map (λ z. z.0) ss)) (expression e.0))
  block_scoped [] e c w h = e.1 c w h
  block_scoped (s ∷ ss) e c w h =
      s.1 c h.0 h.1 (block (map declaration (map (λ z. z.0) ss)) (expression e.0))
      (under (length h.0) h.0 c.names (block (map declaration (map (λ z. z.0) ss)) (expression e.0)) refl (block_scoped ss e (with_names h.0 c) w h.2))

  counted : (fs : List K3) (c : Context) (ws : List (Want TypeId)) → GroupStands (head_at types) (IsFunctionOf types) c (map (λ z. z.0) fs) ws → count (group (map function (map (λ z. z.0) fs))) ≡ length ws
  counted [] c [] h = refl
  counted [] c (w ∷ ws) h = absurd h
  counted (f ∷ fs) c [] h = absurd h
  counted (f ∷ fs) c (w ∷ ws) h = ap suc (counted fs c ws h.1)

  -- in the scope of the group
  functions_scoped : (fs : List K3) (c : Context) (ws : List (Want TypeId)) → GroupStands (head_at types) (IsFunctionOf types) c (map (λ z. z.0) fs) ws → ScopedFunctions (length c.names) (group (map function (map (λ z. z.0) fs)))
  functions_scoped [] c ws h = tt
  functions_scoped (f ∷ fs) c [] h = absurd h
  functions_scoped (f ∷ fs) c (w ∷ ws) h =
      (without (names_all (function f.0).parameters) h.0.0.context (length c.names) (function f.0).body h.0.2 (f.1 c h.0.0 h.0.3), functions_scoped fs c ws h.1)

  form_scoped : (y : F.Form-F K0 K1 K2 K3 K4) (c : Context) (w : Want TypeId) → form_typing types (map-Form K0 K1 K2 K3 K4 Form Step Case Function TypedExpression (λ z. z.0) (λ z. z.0) (λ z. z.0) (λ z. z.0) (λ z. z.0) y) c w →
      Scoped (length c.names) (form_view (map-Form K0 K1 K2 K3 K4 Form Step Case Function TypedExpression (λ z. z.0) (λ z. z.0) (λ z. z.0) (λ z. z.0) (λ z. z.0) y))
  form_scoped (F.Constant l) c w h = tt
  form_scoped (F.Name x) c w h = within c.names x h.0 h.1
  form_scoped (F.Do a es) c w h = each_scoped es c h.0 h.2
  form_scoped (F.If e a b) c w h = (e.1 c _ h.4, a.1 c w h.5, b.1 c w h.6)
  form_scoped (F.Switch token e xs) c w h = (e.1 c _ h.3, cases_scoped xs c h.1 w h.4)
  form_scoped (F.While e b) c w h = (e.1 c _ h.5, b.1 c w h.6)
  form_scoped (F.Loop b) c w h = ((tt, b.1 c _ h.5), (tt, tt))
  form_scoped (F.Repeat b e) c w h = (b.1 c w h.5, e.1 c _ h.6)
  form_scoped (F.For p e b) c w h = (e.1 c _ h.7, under (names (pattern p)) h.3 c.names (expression b.0) (names_counted types c.parameters p h.2 h.3 h.8) (b.1 (with_names h.3 c) w h.9))
  form_scoped (F.Label e) c w h = e.1 _ w h.2
  form_scoped (F.Try e p b) c w h = (e.1 c w h.6, under (names (pattern p)) h.2 c.names (expression b.0) (names_counted types c.parameters p h.1 h.2 h.7) (b.1 (with_names h.2 c) w h.8))
  form_scoped (F.Update o e f) c w h = (e.1 c _ h.8, f.1 c _ h.10)
  form_scoped (F.Block ss e) c w h = block_scoped ss e c w h.2

  one_name : (ns : List (Want TypeId)) (x : Want TypeId) (n : ℕ) (b : Exp) → ns ≡ x ∷ [] → Scoped (length ns + n) b → Scoped (1 + n) b
  one_name ns x n b h s = subst (λ m. Scoped (length m + n) b) h s

  no_name : (ns : List (Want TypeId)) (n : ℕ) (b : Exp) → ns ≡ [] → Scoped (length ns + n) b → Scoped (0 + n) b
  no_name ns n b h s = subst (λ m. Scoped (length m + n) b) h s

  bound : (p : TypedPattern) (ns : List (Want TypeId)) (n : ℕ) (b : Exp) → length ns ≡ names (pattern p) → Scoped (length ns + n) b → Scoped (names (pattern p) + n) b
  bound p ns n b h s = subst (λ m. Scoped (m + n) b) h s

  let_scoped : (p : TypedPattern) (e : K4) (c : Context) (ns : List (Want TypeId)) → step_typing types (F.Let p e.0) c ns → length ns ≡ names (pattern p)
  let_scoped p e c ns (inl h) = names_counted types c.parameters p h.0 ns h.2
  let_scoped p e c ns (inr h) = ap length h.3 ∙ ap names (sym h.2)

  let_typed : (p : TypedPattern) (e : K4) (c : Context) (ns : List (Want TypeId)) → step_typing types (F.Let p e.0) c ns → Scoped (length c.names) (expression e.0)
  let_typed p e c ns (inl h) = e.1 c _ h.1
  let_typed p e c ns (inr h) = e.1 c _ h.1

  step_scoped : (y : F.Step-F K0 K1 K2 K3 K4) (c : Context) (ns : List (Want TypeId)) → step_typing types (map-Step K0 K1 K2 K3 K4 Form Step Case Function TypedExpression (λ z. z.0) (λ z. z.0) (λ z. z.0) (λ z. z.0) (λ z. z.0) y) c ns → (b : Exp) →
      Scoped (length ns + length c.names) b → Scoped (length c.names) (step_view (map-Step K0 K1 K2 K3 K4 Form Step Case Function TypedExpression (λ z. z.0) (λ z. z.0) (λ z. z.0) (λ z. z.0) (λ z. z.0) y) b)
  step_scoped (F.Let p e) c ns h b s = (let_typed p e c ns h, (bound p ns (length c.names) b (let_scoped p e c ns h) s, tt))
  step_scoped (F.Var e) c ns h b s = ((e.1 c _ h.2, tt), (one_name ns _ (length c.names) b h.3 s, tt))
  step_scoped (F.Stable x e) c ns h b s =
      (((within c.names x _ h.1, (at (length c.names) (0 + length c.names) (expression e.0) (sym (zero_sum (length c.names))) (e.1 c _ h.2), (omega arith, tt))), tt), (one_name ns _ (length c.names) b h.3 s, tt))
  step_scoped (F.Functions fs) c ns h b s =
      let n : count (group (map function (map (λ (z : K3). z.0) fs))) ≡ length ns = counted fs (with_names ns c) ns h in (
        subst (λ m. ScopedFunctions m (group (map function (map (λ (z : K3). z.0) fs)))) (length-append ns c.names ∙ ap (λ m. m + length c.names) (sym n)) (functions_scoped fs (with_names ns c) ns h),
        at (length ns + length c.names) (count (group (map function (map (λ (z : K3). z.0) fs))) + length c.names) b (ap (λ m. m + length c.names) (sym n)) s,
      )
  step_scoped (F.Evaluate e) c ns h b s = (e.1 c _ h.1, (no_name ns (length c.names) b h.2 s, tt))

  form_case : (y : F.Form-F K0 K1 K2 K3 K4) → FormClaim (roll-Form (map-Form K0 K1 K2 K3 K4 Form Step Case Function TypedExpression (λ z. z.0) (λ z. z.0) (λ z. z.0) (λ z. z.0) (λ z. z.0) y))
  form_case y c w h = subst (Scoped (length c.names)) (sym (form_viewed _)) (form_scoped y c w ((rules.forms types _ c w).0 h))

  step_case : (y : F.Step-F K0 K1 K2 K3 K4) → StepClaim (roll-Step (map-Step K0 K1 K2 K3 K4 Form Step Case Function TypedExpression (λ z. z.0) (λ z. z.0) (λ z. z.0) (λ z. z.0) (λ z. z.0) y))
  step_case y c ns h b s = subst (λ (d : StepView). Scoped (length c.names) (d b)) (sym (step_viewed _)) (step_scoped y c ns ((rules.steps types _ c ns).0 h) b s)

  case_case : (y : F.Case-F K0 K1 K2 K3 K4) → CaseClaim (roll-Case (map-Case K0 K1 K2 K3 K4 Form Step Case Function TypedExpression (λ z. z.0) (λ z. z.0) (λ z. z.0) (λ z. z.0) (λ z. z.0) y))
  case_case y c t w h =
      let f : case_typing types (map-Case K0 K1 K2 K3 K4 Form Step Case Function TypedExpression (λ z. z.0) (λ z. z.0) (λ z. z.0) (λ z. z.0) (λ z. z.0) y) c t w = (rules.cases types _ c t w).0 h in
      subst (λ (x : CaseView). Scoped (names x.pattern + length c.names) x.body) (sym (case_viewed _))
      (under (names (pattern y.pattern)) f.0 c.names (expression y.body.0) (names_counted types c.parameters y.pattern t f.0 f.1) (y.body.1 (with_names f.0 c) w f.2))

  -- the names of a context, of parameters, and those around
  sums : (ms ns : List (Want TypeId)) (ls : List (Want TypeId)) (k : ℕ) → length ns ≡ k → length ((ms ++ ns) ++ map in_function ls) ≡ (length ms + k) + length ls
  sums ms ns ls k h = length-append (ms ++ ns) (map in_function ls) ∙ ap₂ (λ i j. i + j) (length-append ms ns ∙ ap (λ i. length ms + i) h) (length_map in_function ls)

  function_case : (y : F.Function-F K0 K1 K2 K3 K4) → FunctionClaim (roll-Function (map-Function K0 K1 K2 K3 K4 Form Step Case Function TypedExpression (λ z. z.0) (λ z. z.0) (λ z. z.0) (λ z. z.0) (λ z. z.0) y))
  function_case y c s h =
      let f : function_typing types (map-Function K0 K1 K2 K3 K4 Form Step Case Function TypedExpression (λ z. z.0) (λ z. z.0) (λ z. z.0) (λ z. z.0) (λ z. z.0) y) c s = (rules.functions types _ c s).0 h in
      subst (λ (x : FunctionView). Scoped ((length s.context + names_all x.parameters) + length c.names) x.body) (sym (function_viewed _))
      (at _ _ (expression y.body.0) (sums s.context f.0 c.names (names_all (patterns y.parameters)) (all_counted types (s.generics ++ c.parameters) y.parameters s.parameters f.0 f.3)) (y.body.1 (in_body s f.0 c) _ f.5))

  expression_case : (y : F.TypedExpression-F K0 K1 K2 K3 K4) → ExpressionClaim (roll-TypedExpression (map-TypedExpression K0 K1 K2 K3 K4 Form Step Case Function TypedExpression (λ z. z.0) (λ z. z.0) (λ z. z.0) (λ z. z.0) (λ z. z.0) y))
  expression_case y c w h =
      let f : expression_typing types (map-TypedExpression K0 K1 K2 K3 K4 Form Step Case Function TypedExpression (λ z. z.0) (λ z. z.0) (λ z. z.0) (λ z. z.0) (λ z. z.0) y) c w = (rules.expressions types _ c w).0 h in
      subst (Scoped (length c.names)) (sym (expression_viewed _)) (y.form.1 c f.0 f.3)

  pub step_holds : (s : Step) → StepClaim s
  step_holds = ind-Step FormClaim StepClaim CaseClaim FunctionClaim ExpressionClaim
      (λ x y is. subst (λ z. FormClaim (roll-Form z)) is (form_case y))
      (λ x y is. subst (λ z. StepClaim (roll-Step z)) is (step_case y))
      (λ x y is. subst (λ z. CaseClaim (roll-Case z)) is (case_case y))
      (λ x y is. subst (λ z. FunctionClaim (roll-Function z)) is (function_case y))
      (λ x y is. subst (λ z. ExpressionClaim (roll-TypedExpression z)) is (expression_case y))

  pub function_holds : (f : Function) → FunctionClaim f
  function_holds = ind-Function FormClaim StepClaim CaseClaim FunctionClaim ExpressionClaim
      (λ x y is. subst (λ z. FormClaim (roll-Form z)) is (form_case y))
      (λ x y is. subst (λ z. StepClaim (roll-Step z)) is (step_case y))
      (λ x y is. subst (λ z. CaseClaim (roll-Case z)) is (case_case y))
      (λ x y is. subst (λ z. FunctionClaim (roll-Function z)) is (function_case y))
      (λ x y is. subst (λ z. ExpressionClaim (roll-TypedExpression z)) is (expression_case y))
