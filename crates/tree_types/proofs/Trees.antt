-- The types in typed trees.
use Rattle.std.proofs.Common.{◌≡◌, inl, inr, Bool, true, false, List, [], ◌∷◌, ◌++◌, map, Option, Some, None, sym, subst}
use Rattle.std.specs.Prelude.{cond}
use Rattle.mo_types.specs.declared.node.TypeId.{TypeId}
use Rattle.mo_types.specs.Graph.{Slot, head_at}
use Rattle.mo_types.specs.Sub.{Each}
use Rattle.typed_tree.specs.declared.expression.Form.{Form, roll-Form, map-Form, fold-roll-Form}
use Rattle.typed_tree.specs.declared.expression.Form.TheOpen as F
use Rattle.typed_tree.specs.declared.expression.Step.{Step, roll-Step, map-Step, ind-Step, fold-roll-Step}
use Rattle.typed_tree.specs.declared.expression.Case.{Case, roll-Case, map-Case, fold-roll-Case}
use Rattle.typed_tree.specs.declared.expression.Function.{Function, roll-Function, map-Function, ind-Function, fold-roll-Function}
use Rattle.typed_tree.specs.declared.expression.TypedExpression.{TypedExpression, roll-TypedExpression, map-TypedExpression, fold-roll-TypedExpression}
use Rattle.typed_tree.specs.declared.pattern.TypedPattern.{TypedPattern}
use Rattle.typed_tree.specs.declared.program.Method.{Method}
use Rattle.typed_tree.specs.ActionTypes.{Context}
use Rattle.typed_tree.specs.PatternView.{pattern}
use Rattle.typed_tree.specs.Typing.{Signature, with_names, in_body, EachGives, CasesGive, BlockGives, GroupStands, Typed, Declares, IsFunctionOf, FormTyped, CaseTyped}
use Rattle.typed_tree.specs.TypingLaws.{form_typing, step_typing, case_typing, function_typing, expression_typing}
use Rattle.typed_tree.specs.Wants.{Want}
use Rattle.typed_tree.specs.WellTyped.{AllDeclare, ContextNames, IsPublic, IsSystem, behind}
use Rattle.typed_tree.proofs.Rules as rules
use Rattle.tree_types.specs.TypesAt.{Types, joined, is_bind, in_let, form_step, step_step, case_step, function_step, expression_step, in_expression, in_form, in_step, in_case, in_function, in_pattern, in_patterns, in_context, in_method, in_optional, TypesAreThere}
use Rattle.tree_types.proofs.Lists.{both}
use Rattle.tree_types.proofs.Patterns.{There, pattern_there, patterns_there}

abbrev form_view : F.Form-F Form Step Case Function TypedExpression → Types
form_view x = form_step (map-Form Form Step Case Function TypedExpression Types Types Types Types Types in_form in_step in_case in_function in_expression x)

abbrev step_view : F.Step-F Form Step Case Function TypedExpression → Types
step_view x = step_step (map-Step Form Step Case Function TypedExpression Types Types Types Types Types in_form in_step in_case in_function in_expression x)

form_types : (x : F.Form-F Form Step Case Function TypedExpression) → in_form (roll-Form x) ≡ form_view x
unfolding in_form in_step in_case in_function in_expression
form_types x = fold-roll-Form Types Types Types Types Types form_step step_step case_step function_step expression_step x

step_types : (x : F.Step-F Form Step Case Function TypedExpression) → in_step (roll-Step x) ≡ step_view x
unfolding in_form in_step in_case in_function in_expression
step_types x = fold-roll-Step Types Types Types Types Types form_step step_step case_step function_step expression_step x

case_types : (x : F.Case-F Form Step Case Function TypedExpression) → in_case (roll-Case x) ≡ in_pattern x.pattern ++ in_expression x.body
unfolding in_form in_step in_case in_function in_expression
case_types x = fold-roll-Case Types Types Types Types Types form_step step_step case_step function_step expression_step x

function_types : (x : F.Function-F Form Step Case Function TypedExpression) → in_function (roll-Function x) ≡ in_patterns x.parameters ++ in_expression x.body
unfolding in_form in_step in_case in_function in_expression
function_types x = fold-roll-Function Types Types Types Types Types form_step step_step case_step function_step expression_step x

expression_types : (x : F.TypedExpression-F Form Step Case Function TypedExpression) → in_expression (roll-TypedExpression x) ≡ x.of_type ∷ in_form x.form
unfolding in_form in_step in_case in_function in_expression
expression_types x = fold-roll-TypedExpression Types Types Types Types Types form_step step_step case_step function_step expression_step x

module _ (types : List Slot) where
  abbrev All : Types → Type 0
  All ts = Each (There types) ts

  abbrev FormClaim : Form → Type 0
  FormClaim f = (c : Context) (w : Want TypeId) → FormTyped types f c w → Each (There types) (in_form f)

  abbrev StepClaim : Step → Type 0
  StepClaim s = (c : Context) (ns : List (Want TypeId)) → Declares types s c ns → Each (There types) (in_step s)

  abbrev CaseClaim : Case → Type 0
  CaseClaim x = (c : Context) (t : TypeId) (w : Want TypeId) → CaseTyped types x c t w → Each (There types) (in_case x)

  abbrev FunctionClaim : Function → Type 0
  FunctionClaim f = (c : Context) (s : Signature) → IsFunctionOf types f c s → Each (There types) (in_function f)

  abbrev ExpressionClaim : TypedExpression → Type 0
  ExpressionClaim e = (c : Context) (w : Want TypeId) → Typed types e c w → Each (There types) (in_expression e)

  abbrev K0 : Type 0
  K0 = (x : Form) × FormClaim x

  abbrev K1 : Type 0
  K1 = (x : Step) × StepClaim x

  abbrev K2 : Type 0
  K2 = (x : Case) × CaseClaim x

  abbrev K3 : Type 0
  K3 = (x : Function) × FunctionClaim x

  abbrev K4 : Type 0
  K4 = (x : TypedExpression) × ExpressionClaim x

  two : (ts us : Types) → All ts → All us → All (ts ++ us)
  two ts us h i = both (There types) ts us h i

  three : (ts us vs : Types) → All ts → All us → All vs → All (ts ++ (us ++ vs))
  three ts us vs h i j = two ts (us ++ vs) h (two us vs i j)

  each_there : (es : List K4) (c : Context) (ws : List (Want TypeId)) → EachGives (Typed types) c (map (λ z. z.0) es) ws → All (joined (map in_expression (map (λ z. z.0) es)))
  each_there [] c ws h = tt
  each_there (e ∷ es) c [] h = absurd h
  each_there (e ∷ es) c (w ∷ ws) h = two (in_expression e.0) (joined (map in_expression (map (λ z. z.0) es))) (e.1 c w h.0) (each_there es c ws h.1)

  cases_there : (xs : List K2) (c : Context) (t : TypeId) (w : Want TypeId) → CasesGive (CaseTyped types) c (map (λ z. z.0) xs) t w → All (joined (map in_case (map (λ z. z.0) xs)))
  cases_there [] c t w h = tt
  cases_there (x ∷ xs) c t w h = two (in_case x.0) (joined (map in_case (map (λ z. z.0) xs))) (x.1 c t w h.0) (cases_there xs c t w h.1)

  block_there : (ss : List K1) (e : K4) (c : Context) (w : Want TypeId) → BlockGives (Declares types) (Typed types) c (map (λ z. z.0) ss) e.0 w → All (joined (map in_step (map (λ z. z.0) ss)) ++ in_expression e.0)
  block_there [] e c w h = e.1 c w h
  block_there (s ∷ ss) e c w h =
      let rest = joined (map in_step (map (λ (z : K1). z.0) ss)) in
      let more = block_there ss e (with_names h.0 c) w h.2 in
      front (in_step s.0) rest (in_expression e.0) (s.1 c h.0 h.1) more
    where
      front : (ts us vs : Types) → All ts → All (us ++ vs) → All ((ts ++ us) ++ vs)
      front [] us vs h i = i
      front (t ∷ ts) us vs h i = (h.0, front ts us vs h.1 i)

  functions_there : (fs : List K3) (c : Context) (ws : List (Want TypeId)) → GroupStands (head_at types) (IsFunctionOf types) c (map (λ z. z.0) fs) ws → All (joined (map in_function (map (λ z. z.0) fs)))
  functions_there [] c ws h = tt
  functions_there (f ∷ fs) c [] h = absurd h
  functions_there (f ∷ fs) c (w ∷ ws) h = two (in_function f.0) (joined (map in_function (map (λ z. z.0) fs))) (f.1 c h.0.0 h.0.3) (functions_there fs c ws h.1)

  form_there : (y : F.Form-F K0 K1 K2 K3 K4) (c : Context) (w : Want TypeId) → form_typing types (map-Form K0 K1 K2 K3 K4 Form Step Case Function TypedExpression (λ z. z.0) (λ z. z.0) (λ z. z.0) (λ z. z.0) (λ z. z.0) y) c w
      → Each (There types) (form_view (map-Form K0 K1 K2 K3 K4 Form Step Case Function TypedExpression (λ z. z.0) (λ z. z.0) (λ z. z.0) (λ z. z.0) (λ z. z.0) y))
  form_there (F.Constant l) c w h = tt
  form_there (F.Name x) c w h = tt
  form_there (F.Do a es) c w h = each_there es c h.0 h.2
  form_there (F.If e a b) c w h = three (in_expression e.0) (in_expression a.0) (in_expression b.0) (e.1 c _ h.4) (a.1 c w h.5) (b.1 c w h.6)
  form_there (F.Switch token e xs) c w h = two (in_expression e.0) (joined (map in_case (map (λ (z : K2). z.0) xs))) (e.1 c _ h.3) (cases_there xs c h.1 w h.4)
  form_there (F.While e b) c w h = two (in_expression e.0) (in_expression b.0) (e.1 c _ h.5) (b.1 c w h.6)
  form_there (F.Loop b) c w h = b.1 c _ h.5
  form_there (F.Repeat b e) c w h = two (in_expression b.0) (in_expression e.0) (b.1 c w h.5) (e.1 c _ h.6)
  form_there (F.For p e b) c w h =
      three (in_pattern p) (in_expression e.0) (in_expression b.0) (pattern_there types c.parameters p h.2 h.3 h.8) (e.1 c _ h.7) (b.1 (with_names h.3 c) w h.9)
  form_there (F.Label e) c w h = e.1 _ w h.2
  form_there (F.Try e p b) c w h =
      three (in_pattern p) (in_expression e.0) (in_expression b.0) (pattern_there types c.parameters p h.1 h.2 h.7) (e.1 c w h.6) (b.1 (with_names h.2 c) w h.8)
  form_there (F.Update o e f) c w h = two (in_expression e.0) (in_expression f.0) (e.1 c _ h.8) (f.1 c _ h.10)
  form_there (F.Block ss e) c w h = block_there ss e c w h.2

  or_none : (b : Bool) (ts : Types) → All ts → All (cond b [] ts)
  or_none true ts h = tt
  or_none false ts h = h

  let_there : (p : TypedPattern) (e : K4) (c : Context) (ns : List (Want TypeId)) → step_typing types (F.Let p e.0) c ns → All (in_let p ++ in_expression e.0)
  let_there p e c ns (inl h) = two (in_let p) (in_expression e.0) (or_none (is_bind (pattern p)) (in_pattern p) (pattern_there types c.parameters p h.0 ns h.2)) (e.1 c _ h.1)
  let_there p e c ns (inr h) = two (in_let p) (in_expression e.0) (subst (λ q. All (cond (is_bind q) [] (in_pattern p))) (sym h.2) tt) (e.1 c _ h.1)

  step_all : (y : F.Step-F K0 K1 K2 K3 K4) (c : Context) (ns : List (Want TypeId)) → step_typing types (map-Step K0 K1 K2 K3 K4 Form Step Case Function TypedExpression (λ z. z.0) (λ z. z.0) (λ z. z.0) (λ z. z.0) (λ z. z.0) y) c ns
      → Each (There types) (step_view (map-Step K0 K1 K2 K3 K4 Form Step Case Function TypedExpression (λ z. z.0) (λ z. z.0) (λ z. z.0) (λ z. z.0) (λ z. z.0) y))
  step_all (F.Let p e) c ns h = let_there p e c ns h
  step_all (F.Var e) c ns h = e.1 c _ h.2
  step_all (F.Stable x e) c ns h = e.1 c _ h.2
  step_all (F.Functions fs) c ns h = functions_there fs (with_names ns c) ns h
  step_all (F.Evaluate e) c ns h = e.1 c _ h.1

  form_case : (y : F.Form-F K0 K1 K2 K3 K4) → FormClaim (roll-Form (map-Form K0 K1 K2 K3 K4 Form Step Case Function TypedExpression (λ z. z.0) (λ z. z.0) (λ z. z.0) (λ z. z.0) (λ z. z.0) y))
  form_case y c w h = subst (λ ts. Each (There types) ts) (sym (form_types _)) (form_there y c w ((rules.forms types _ c w).0 h))

  step_case : (y : F.Step-F K0 K1 K2 K3 K4) → StepClaim (roll-Step (map-Step K0 K1 K2 K3 K4 Form Step Case Function TypedExpression (λ z. z.0) (λ z. z.0) (λ z. z.0) (λ z. z.0) (λ z. z.0) y))
  step_case y c ns h = subst (λ ts. Each (There types) ts) (sym (step_types _)) (step_all y c ns ((rules.steps types _ c ns).0 h))

  case_case : (y : F.Case-F K0 K1 K2 K3 K4) → CaseClaim (roll-Case (map-Case K0 K1 K2 K3 K4 Form Step Case Function TypedExpression (λ z. z.0) (λ z. z.0) (λ z. z.0) (λ z. z.0) (λ z. z.0) y))
  case_case y c t w h =
      let f : case_typing types (map-Case K0 K1 K2 K3 K4 Form Step Case Function TypedExpression (λ z. z.0) (λ z. z.0) (λ z. z.0) (λ z. z.0) (λ z. z.0) y) c t w = (rules.cases types _ c t w).0 h in
      subst (λ ts. Each (There types) ts) (sym (case_types _)) (two (in_pattern y.pattern) (in_expression y.body.0) (pattern_there types c.parameters y.pattern t f.0 f.1) (y.body.1 (with_names f.0 c) w f.2))

  function_case : (y : F.Function-F K0 K1 K2 K3 K4) → FunctionClaim (roll-Function (map-Function K0 K1 K2 K3 K4 Form Step Case Function TypedExpression (λ z. z.0) (λ z. z.0) (λ z. z.0) (λ z. z.0) (λ z. z.0) y))
  function_case y c s h =
      let f : function_typing types (map-Function K0 K1 K2 K3 K4 Form Step Case Function TypedExpression (λ z. z.0) (λ z. z.0) (λ z. z.0) (λ z. z.0) (λ z. z.0) y) c s = (rules.functions types _ c s).0 h in
      subst (λ ts. Each (There types) ts) (sym (function_types _))
      (two (in_patterns y.parameters) (in_expression y.body.0) (patterns_there types (s.generics ++ c.parameters) y.parameters s.parameters f.0 f.3) (y.body.1 (in_body s f.0 c) _ f.5))

  expression_case : (y : F.TypedExpression-F K0 K1 K2 K3 K4) → ExpressionClaim (roll-TypedExpression (map-TypedExpression K0 K1 K2 K3 K4 Form Step Case Function TypedExpression (λ z. z.0) (λ z. z.0) (λ z. z.0) (λ z. z.0) (λ z. z.0) y))
  expression_case y c w h =
      let f : expression_typing types (map-TypedExpression K0 K1 K2 K3 K4 Form Step Case Function TypedExpression (λ z. z.0) (λ z. z.0) (λ z. z.0) (λ z. z.0) (λ z. z.0) y) c w = (rules.expressions types _ c w).0 h in
      subst (λ ts. Each (There types) ts) (sym (expression_types _)) (f.2.0, y.form.1 c f.0 f.3)

  step_there : (s : Step) → StepClaim s
  step_there = ind-Step FormClaim StepClaim CaseClaim FunctionClaim ExpressionClaim
      (λ x y is. subst (λ z. FormClaim (roll-Form z)) is (form_case y))
      (λ x y is. subst (λ z. StepClaim (roll-Step z)) is (step_case y))
      (λ x y is. subst (λ z. CaseClaim (roll-Case z)) is (case_case y))
      (λ x y is. subst (λ z. FunctionClaim (roll-Function z)) is (function_case y))
      (λ x y is. subst (λ z. ExpressionClaim (roll-TypedExpression z)) is (expression_case y))

  function_there : (f : Function) → FunctionClaim f
  function_there = ind-Function FormClaim StepClaim CaseClaim FunctionClaim ExpressionClaim
      (λ x y is. subst (λ z. FormClaim (roll-Form z)) is (form_case y))
      (λ x y is. subst (λ z. StepClaim (roll-Step z)) is (step_case y))
      (λ x y is. subst (λ z. CaseClaim (roll-Case z)) is (case_case y))
      (λ x y is. subst (λ z. FunctionClaim (roll-Function z)) is (function_case y))
      (λ x y is. subst (λ z. ExpressionClaim (roll-TypedExpression z)) is (expression_case y))

  -- ---- programs

  steps_there : (ss : List Step) (c end : Context) → AllDeclare types c ss end → All (joined (map in_step ss))
  steps_there [] c end h = tt
  steps_there (s ∷ ss) c end h = two (in_step s) (joined (map in_step ss)) (step_there s c h.0 h.1) (steps_there ss (with_names h.0 c) end h.2)

  context_there : (o : Option TypedPattern) (ns : List (Want TypeId)) → ContextNames types o ns → All (in_context o)
  context_there None ns h = tt
  context_there (Some p) ns h = pattern_there types [] p h.0 ns h.2

  methods_there : (ms : List Method) (c : Context) → Each (IsPublic types c) ms → All (joined (map in_method ms))
  methods_there [] c h = tt
  methods_there (m ∷ ms) c h =
      two (in_method m) (joined (map in_method ms)) (two (in_context m.context) (in_function m.function) (context_there m.context h.0.body.0 h.0.body.2) (function_there m.function c _ h.0.body.4)) (methods_there ms c h.1)

  system_there : (o : Option Function) (c : Context) → IsSystem types c o → All (in_optional o)
  system_there None c h = tt
  system_there (Some f) c h = function_there f c _ h.2

pub types_are_there : TypesAreThere
types_are_there p h =
    let c = behind p h.end in
    two p.types (joined (map in_step p.declarations)) (joined (map in_method p.methods) ++ (in_optional p.before_upgrade ++ in_optional p.after_upgrade)) (steps_there p.types p.declarations _ h.end h.declarations)
    (three p.types (joined (map in_method p.methods)) (in_optional p.before_upgrade) (in_optional p.after_upgrade) (methods_there p.types p.methods c h.public) (system_there p.types p.before_upgrade c h.before_upgrade) (system_there p.types p.after_upgrade c h.after_upgrade))
