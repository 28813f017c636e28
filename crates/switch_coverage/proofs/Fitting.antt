-- The cases of the switches of a well-typed program are on the types of their values.
use Rattle.std.proofs.Common.{inl, inr, List, [], ◌∷◌, ◌++◌, map, Option, Some, None, sym, subst}
use Rattle.mo_types.specs.declared.node.Node.{Node}
use Rattle.mo_types.specs.declared.node.TypeId.{TypeId}
use Rattle.mo_types.specs.Graph.{Slot, head_at}
use Rattle.mo_types.specs.Sub.{Each}
use Rattle.typed_tree.specs.declared.expression.Form.{Form, roll-Form, map-Form}
use Rattle.typed_tree.specs.declared.expression.Form.TheOpen as F
use Rattle.typed_tree.specs.declared.expression.Step.{Step, roll-Step, map-Step, ind-Step}
use Rattle.typed_tree.specs.declared.expression.Case.{Case, roll-Case, map-Case}
use Rattle.typed_tree.specs.declared.expression.Function.{Function, roll-Function, map-Function, ind-Function}
use Rattle.typed_tree.specs.declared.expression.TypedExpression.{TypedExpression, roll-TypedExpression, map-TypedExpression}
use Rattle.typed_tree.specs.declared.pattern.TypedPattern.{TypedPattern}
use Rattle.typed_tree.specs.declared.program.Method.{Method}
use Rattle.typed_tree.specs.declared.program.Program.{Program}
use Rattle.typed_tree.specs.ActionTypes.{Context}
use Rattle.typed_tree.specs.Patterns.{Pat}
use Rattle.typed_tree.specs.Types.{AreLawful}
use Rattle.typed_tree.specs.Typing.{Signature, OwnType, with_names, in_body, EachGives, CasesGive, BlockGives, GroupStands, Typed, Declares, IsFunctionOf, FormTyped, CaseTyped}
use Rattle.typed_tree.specs.TypingLaws.{form_typing, step_typing, case_typing, function_typing, expression_typing}
use Rattle.typed_tree.specs.Wants.{Want, Of, FutureOf, Below, Serves}
use Rattle.typed_tree.specs.WellTyped.{WellTyped, AllDeclare, IsPublic, IsSystem, behind}
use Rattle.typed_tree.proofs.Rules as rules
use Rattle.pattern_coverage.specs.Followed.{value_head}
use Rattle.pattern_coverage.specs.Suited.{IsOn}
use Rattle.pattern_coverage.proofs.Standing.{stands_on}
use Rattle.switch_coverage.specs.Switches.{Switch, switch, Adding, each, ExpressionSeen, CaseSeen, all_of, cases_of, in_expression, in_form, in_step, in_case, in_function, in_optional, in_steps, in_methods, switches}
use Rattle.switch_coverage.specs.Uncovered.{Fits}
use Rattle.switch_coverage.proofs.Seen.{form_view, step_view, form_adds, step_adds, case_adds, function_adds, expression_adds}

module _ (types : List Slot) (lawful : AreLawful types) where
  abbrev head : TypeId → Node TypeId
  head = head_at types

  abbrev AllFit : List Switch → Type 0
  AllFit ss = Each (Fits types) ss

  -- what fits stays so
  abbrev Keeps : Adding → Type 0
  Keeps f = (found : List Switch) → AllFit found → AllFit (f found)

  abbrev IfOf : Want TypeId → (TypeId → Type 0) → Type 0
  IfOf (Of t) P = P t
  IfOf w P = Unit {0}

  abbrev SeenSo : ExpressionSeen → Want TypeId → Type 0
  SeenSo x w = Keeps x.adding × IfOf w (λ s. Below head x.of_type s)

  -- on each type below this one
  abbrev OnBelow : Pat → TypeId → Type 0
  OnBelow p t = (u : TypeId) → Below head u t → IsOn (value_head types) p u

  abbrev CaseSo : CaseSeen → TypeId → Type 0
  CaseSo x t = Keeps x.adding × OnBelow x.pattern t

  abbrev FormClaim : Form → Type 0
  FormClaim f = (c : Context) (w : Want TypeId) → FormTyped types f c w → Keeps (in_form f)

  abbrev StepClaim : Step → Type 0
  StepClaim s = (c : Context) (ns : List (Want TypeId)) → Declares types s c ns → Keeps (in_step s)

  abbrev CaseClaim : Case → Type 0
  CaseClaim x = (c : Context) (t : TypeId) (w : Want TypeId) → CaseTyped types x c t w → CaseSo (in_case x) t

  abbrev FunctionClaim : Function → Type 0
  FunctionClaim f = (c : Context) (s : Signature) → IsFunctionOf types f c s → Keeps (in_function f)

  abbrev ExpressionClaim : TypedExpression → Type 0
  ExpressionClaim e = (c : Context) (w : Want TypeId) → Typed types e c w → SeenSo (in_expression e) w

  abbrev K0 : Type 0
  K0 = (x : Form) × FormClaim x

  abbrev K1 : Type 0
  K1 = (x : Step) × StepClaim x

  abbrev K2 : Type 0
  K2 = (x : Case) × CaseClaim x

  abbrev K3 : Type 0
  K3 = (x : Function) × FunctionClaim x

  abbrev K4 : Type 0
  K4 = (x : TypedExpression) × ExpressionClaim x

  one_more : (ss : List Switch) (s : Switch) → AllFit ss → Fits types s → AllFit (ss ++ s ∷ [])
  one_more [] s h f = (f, tt)
  one_more (t ∷ ss) s h f = (h.0, one_more ss s h.1 f)

  -- what an expression adds
  adds : (e : K4) (c : Context) (w : Want TypeId) → Typed types e.0 c w → Keeps (in_expression e.0).adding
  adds e c w h = (e.1 c w h).0

  each_keeps : (es : List K4) (c : Context) (ws : List (Want TypeId)) → EachGives (Typed types) c (map (λ z. z.0) es) ws → Keeps (all_of (map in_expression (map (λ z. z.0) es)))
  each_keeps [] c ws h found k = k
  each_keeps (e ∷ es) c [] h found k = absurd h
  each_keeps (e ∷ es) c (w ∷ ws) h found k = each_keeps es c ws h.1 ((in_expression e.0).adding found) (adds e c w h.0 found k)

  cases_keep : (xs : List K2) (c : Context) (t : TypeId) (w : Want TypeId) → CasesGive (CaseTyped types) c (map (λ z. z.0) xs) t w → Keeps (cases_of (map in_case (map (λ z. z.0) xs)))
  cases_keep [] c t w h found k = k
  cases_keep (x ∷ xs) c t w h found k = cases_keep xs c t w h.1 ((in_case x.0).adding found) ((x.1 c t w h.0).0 found k)

  cases_fit : (xs : List K2) (c : Context) (t u : TypeId) (w : Want TypeId) → CasesGive (CaseTyped types) c (map (λ z. z.0) xs) t w → Below head u t
      → Each (λ p. IsOn (value_head types) p u) (map (λ (x : CaseSeen). x.pattern) (map in_case (map (λ z. z.0) xs)))
  cases_fit [] c t u w h s = tt
  cases_fit (x ∷ xs) c t u w h s = ((x.1 c t w h.0).1 u s, cases_fit xs c t u w h.1 s)

  block_keeps : (ss : List K1) (e : K4) (c : Context) (w : Want TypeId) → BlockGives (Declares types) (Typed types) c (map (λ z. z.0) ss) e.0 w
      → Keeps (λ found. (in_expression e.0).adding (each (map in_step (map (λ z. z.0) ss)) found))
  block_keeps [] e c w h found k = adds e c w h found k
  block_keeps (s ∷ ss) e c w h found k = block_keeps ss e (with_names h.0 c) w h.2 (in_step s.0 found) (s.1 c h.0 h.1 found k)

  functions_keep : (fs : List K3) (c : Context) (ws : List (Want TypeId)) → GroupStands (head_at types) (IsFunctionOf types) c (map (λ z. z.0) fs) ws → Keeps (each (map in_function (map (λ z. z.0) fs)))
  functions_keep [] c ws h found k = k
  functions_keep (f ∷ fs) c [] h found k = absurd h
  functions_keep (f ∷ fs) c (w ∷ ws) h found k = functions_keep fs c ws h.1 (in_function f.0 found) (f.1 c h.0.0 h.0.3 found k)

  abbrev forms : F.Form-F K0 K1 K2 K3 K4 → F.Form-F Form Step Case Function TypedExpression
  forms y = map-Form K0 K1 K2 K3 K4 Form Step Case Function TypedExpression (λ z. z.0) (λ z. z.0) (λ z. z.0) (λ z. z.0) (λ z. z.0) y

  form_keeps : (y : F.Form-F K0 K1 K2 K3 K4) (c : Context) (w : Want TypeId) → form_typing types (forms y) c w → Keeps (form_view (forms y))
  form_keeps (F.Constant l) c w h found k = k
  form_keeps (F.Name x) c w h found k = k
  form_keeps (F.Do a es) c w h found k = each_keeps es c h.0 h.2 found k
  form_keeps (F.If e a b) c w h found k =
      adds b c w h.6 ((in_expression a.0).adding ((in_expression e.0).adding found)) (adds a c w h.5 ((in_expression e.0).adding found) (adds e c (Of h.1) h.4 found k))
  form_keeps (F.Switch token e xs) c w h found k =
      let s = switch token (in_expression e.0).of_type (map (λ (x : CaseSeen). x.pattern) (map in_case (map (λ (z : K2). z.0) xs))) in
      cases_keep xs c h.1 w h.4 ((in_expression e.0).adding (found ++ s ∷ []))
      (adds e c (Of h.1) h.3 (found ++ s ∷ []) (one_more found s k (cases_fit xs c h.1 (in_expression e.0).of_type w h.4 (e.1 c (Of h.1) h.3).1)))
  form_keeps (F.While e b) c w h found k = adds b c w h.6 ((in_expression e.0).adding found) (adds e c (Of h.1) h.5 found k)
  form_keeps (F.Loop b) c w h found k = adds b c (Of h.1) h.5 found k
  form_keeps (F.Repeat b e) c w h found k = adds e c (Of h.1) h.6 ((in_expression b.0).adding found) (adds b c w h.5 found k)
  form_keeps (F.For p e b) c w h found k = adds b (with_names h.3 c) w h.9 ((in_expression e.0).adding found) (adds e c (Of h.1) h.7 found k)
  form_keeps (F.Label e) c w h found k = adds e _ w h.2 found k
  form_keeps (F.Try e p b) c w h found k = adds b (with_names h.2 c) w h.8 ((in_expression e.0).adding found) (adds e c w h.6 found k)
  form_keeps (F.Update o e f) c w h found k = adds f c _ h.10 ((in_expression e.0).adding found) (adds e c _ h.8 found k)
  form_keeps (F.Block ss e) c w h found k = block_keeps ss e c w h.2 found k

  abbrev steps : F.Step-F K0 K1 K2 K3 K4 → F.Step-F Form Step Case Function TypedExpression
  steps y = map-Step K0 K1 K2 K3 K4 Form Step Case Function TypedExpression (λ z. z.0) (λ z. z.0) (λ z. z.0) (λ z. z.0) (λ z. z.0) y

  let_keeps : (p : TypedPattern) (e : K4) (c : Context) (ns : List (Want TypeId)) → step_typing types (F.Let p e.0) c ns → Keeps (in_expression e.0).adding
  let_keeps p e c ns (inl h) found k = adds e c (Of h.0) h.1 found k
  let_keeps p e c ns (inr h) found k = adds e c (FutureOf h.0) h.1 found k

  step_keeps : (y : F.Step-F K0 K1 K2 K3 K4) (c : Context) (ns : List (Want TypeId)) → step_typing types (steps y) c ns → Keeps (step_view (steps y))
  step_keeps (F.Let p e) c ns h found k = let_keeps p e c ns h found k
  step_keeps (F.Var e) c ns h found k = adds e c _ h.2 found k
  step_keeps (F.Stable x e) c ns h found k = adds e c _ h.2 found k
  step_keeps (F.Functions fs) c ns h found k = functions_keep fs (with_names ns c) ns h found k
  step_keeps (F.Evaluate e) c ns h found k = adds e c _ h.1 found k

  form_case : (y : F.Form-F K0 K1 K2 K3 K4) → FormClaim (roll-Form (forms y))
  form_case y c w h = subst Keeps (sym (form_adds _)) (form_keeps y c w ((rules.forms types _ c w).0 h))

  step_case : (y : F.Step-F K0 K1 K2 K3 K4) → StepClaim (roll-Step (steps y))
  step_case y c ns h = subst Keeps (sym (step_adds _)) (step_keeps y c ns ((rules.steps types _ c ns).0 h))

  case_case : (y : F.Case-F K0 K1 K2 K3 K4) → CaseClaim (roll-Case (map-Case K0 K1 K2 K3 K4 Form Step Case Function TypedExpression (λ z. z.0) (λ z. z.0) (λ z. z.0) (λ z. z.0) (λ z. z.0) y))
  case_case y c t w h =
      let f : case_typing types (map-Case K0 K1 K2 K3 K4 Form Step Case Function TypedExpression (λ z. z.0) (λ z. z.0) (λ z. z.0) (λ z. z.0) (λ z. z.0) y) c t w = (rules.cases types _ c t w).0 h in
      subst (λ x. CaseSo x t) (sym (case_adds _)) (adds y.body (with_names f.0 c) w f.2, λ u s. stands_on types lawful c.parameters y.pattern t u f.0 f.1 s)

  function_case : (y : F.Function-F K0 K1 K2 K3 K4) → FunctionClaim (roll-Function (map-Function K0 K1 K2 K3 K4 Form Step Case Function TypedExpression (λ z. z.0) (λ z. z.0) (λ z. z.0) (λ z. z.0) (λ z. z.0) y))
  function_case y c s h =
      let f : function_typing types (map-Function K0 K1 K2 K3 K4 Form Step Case Function TypedExpression (λ z. z.0) (λ z. z.0) (λ z. z.0) (λ z. z.0) (λ z. z.0) y) c s = (rules.functions types _ c s).0 h in
      subst Keeps (sym (function_adds _)) (adds y.body (in_body s f.0 c) _ f.5)

  -- what serves where a value of a type is asked is of a type below
  of_below : (given : Want TypeId) (s u : TypeId) → OwnType head given u → Serves head given (Of s) → Below head u s
  of_below (Of t) s u o h = subst (λ t. Below head t s) o h
  of_below given s u o h = absurd h

  below_own : (given w : Want TypeId) (u : TypeId) → OwnType head given u → Serves head given w → IfOf w (λ s. Below head u s)
  below_own given (Of s) u o h = of_below given s u o h
  below_own given w u o h = tt

  expression_case : (y : F.TypedExpression-F K0 K1 K2 K3 K4) → ExpressionClaim (roll-TypedExpression (map-TypedExpression K0 K1 K2 K3 K4 Form Step Case Function TypedExpression (λ z. z.0) (λ z. z.0) (λ z. z.0) (λ z. z.0) (λ z. z.0) y))
  expression_case y c w h =
      let f : expression_typing types (map-TypedExpression K0 K1 K2 K3 K4 Form Step Case Function TypedExpression (λ z. z.0) (λ z. z.0) (λ z. z.0) (λ z. z.0) (λ z. z.0) y) c w = (rules.expressions types _ c w).0 h in
      subst (λ x. SeenSo x w) (sym (expression_adds _)) (y.form.1 c f.0 f.3, below_own f.0 w y.of_type f.1 f.4)

  step_fits : (s : Step) → StepClaim s
  step_fits = ind-Step FormClaim StepClaim CaseClaim FunctionClaim ExpressionClaim
      (λ x y is. subst (λ z. FormClaim (roll-Form z)) is (form_case y))
      (λ x y is. subst (λ z. StepClaim (roll-Step z)) is (step_case y))
      (λ x y is. subst (λ z. CaseClaim (roll-Case z)) is (case_case y))
      (λ x y is. subst (λ z. FunctionClaim (roll-Function z)) is (function_case y))
      (λ x y is. subst (λ z. ExpressionClaim (roll-TypedExpression z)) is (expression_case y))

  function_fits : (f : Function) → FunctionClaim f
  function_fits = ind-Function FormClaim StepClaim CaseClaim FunctionClaim ExpressionClaim
      (λ x y is. subst (λ z. FormClaim (roll-Form z)) is (form_case y))
      (λ x y is. subst (λ z. StepClaim (roll-Step z)) is (step_case y))
      (λ x y is. subst (λ z. CaseClaim (roll-Case z)) is (case_case y))
      (λ x y is. subst (λ z. FunctionClaim (roll-Function z)) is (function_case y))
      (λ x y is. subst (λ z. ExpressionClaim (roll-TypedExpression z)) is (expression_case y))

  -- ---- programs

  steps_fit : (ss : List Step) (c end : Context) → AllDeclare types c ss end → Keeps (in_steps ss)
  steps_fit [] c end h found k = k
  steps_fit (s ∷ ss) c end h found k = steps_fit ss (with_names h.0 c) end h.2 (in_step s found) (step_fits s c h.0 h.1 found k)

  methods_fit : (ms : List Method) (c : Context) → Each (IsPublic types c) ms → Keeps (in_methods ms)
  methods_fit [] c h found k = k
  methods_fit (m ∷ ms) c h found k = methods_fit ms c h.1 (in_function m.function found) (function_fits m.function c _ h.0.body.4 found k)

  system_fits : (o : Option Function) (c : Context) → IsSystem types c o → Keeps (in_optional o)
  system_fits None c h found k = k
  system_fits (Some f) c h found k = function_fits f c _ h.2 found k

pub switches_fit : (p : Program) → WellTyped p → Each (Fits p.types) (switches p)
switches_fit p h =
    let c = behind p h.end in
    let declared : List Switch = in_steps p.declarations [] in
    let public : List Switch = in_methods p.methods declared in
    let before : List Switch = in_optional p.before_upgrade public in
    system_fits p.types h.types p.after_upgrade c h.after_upgrade before
    (system_fits p.types h.types p.before_upgrade c h.before_upgrade public
    (methods_fit p.types h.types p.methods c h.public declared (steps_fit p.types h.types p.declarations _ h.end h.declarations [] tt)))
