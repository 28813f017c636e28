-- In a typed tree each action has its operands.
use Rattle.std.proofs.Common.{◌≡◌, ◌⊎◌, inl, inr, ℕ, suc, ◌≤◌, List, [], ◌∷◌, length, map, arith, refl, sym, ap, ◌∙◌, subst, true≢false}
use Rattle.mo_types.specs.declared.node.Node.{Node}
use Rattle.mo_types.specs.declared.node.Sort.TheVariants as sort
use Rattle.mo_types.specs.declared.node.TypeId.{TypeId}
use Rattle.mo_types.specs.Graph.{Slot, head_at}
use Rattle.mo_types.specs.declared.node.Node.TheVariants as node
use Rattle.mo_types.specs.Heads.{is_any}
use Rattle.mo_types.specs.Sub.{IsSubtype, Pairwise}
use Rattle.subtype_laws.proofs.Inversion.{to_above}
use Rattle.subtype_laws.specs.Inversion.{IsAbove}
use Rattle.typed_tree.specs.declared.action.Action.{Action}
use Rattle.typed_tree.specs.declared.action.Action.TheVariants as action
use Rattle.typed_tree.specs.declared.action.Member.{Member}
use Rattle.typed_tree.specs.declared.action.Member.TheVariants as member
use Rattle.typed_tree.specs.declared.expression.Form.{Form, roll-Form, map-Form, fold-roll-Form}
use Rattle.typed_tree.specs.declared.expression.Form.TheOpen as F
use Rattle.typed_tree.specs.declared.expression.Step.{Step, roll-Step, map-Step, ind-Step, fold-roll-Step}
use Rattle.typed_tree.specs.declared.expression.Case.{Case, roll-Case, map-Case, fold-roll-Case}
use Rattle.typed_tree.specs.declared.expression.Function.{Function, roll-Function, map-Function, ind-Function, fold-roll-Function}
use Rattle.typed_tree.specs.declared.expression.TypedExpression.{TypedExpression, roll-TypedExpression, map-TypedExpression, ind-TypedExpression, fold-roll-TypedExpression}
use Rattle.typed_tree.specs.declared.pattern.TypedPattern.{TypedPattern}
use Rattle.typed_tree.specs.ActionTypes.{Context, ActionTyped}
use Rattle.typed_tree.specs.Language.{Exp, Exps, Do, AnExp}
use Rattle.typed_tree.specs.MemberTypes.{MemberTyped}
use Rattle.typed_tree.specs.PatternView.{pattern, patterns}
use Rattle.typed_tree.specs.Typing.{Signature, with_names, in_body, EachGives, CasesGive, BlockGives, GroupStands, Typed, Declares, IsFunctionOf, FormTyped, CaseTyped}
use Rattle.typed_tree.specs.TypingLaws.{form_typing, step_typing, case_typing, function_typing, expression_typing}
use Rattle.typed_tree.specs.View.{CaseView, FunctionView, StepView, exps, cases, group, block, form_step, step_step, case_step, function_step, expression_step, expression, form, declaration, case_view, function}
use Rattle.typed_tree.specs.Wants.{Want, Anything, Of, CellOf, FutureOf, KeptOf, Generic, Below, Serves}
use Rattle.typed_tree.proofs.Rules as rules
use Rattle.elaboration.specs.Members.{form_of}
use Rattle.mo_values.specs.declared.operation.Operation.{Operation}
use Rattle.mo_values.specs.declared.operation.Operation.TheVariants as op
use Rattle.core_ir.specs.Arities.{Takes, operation_arity}
use Rattle.typed_tree.specs.OperationTypes.{OperationTyped}
use Rattle.typed_tree.specs.MemberTypes as types_of
use Rattle.elaboration.specs.Elaboration.{count_of}
use Rattle.elaboration_formed.specs.Arities.{held, taken, ActionTakes, CalledWith, ActionCalls, Shaped, ShapedAll, ShapedCases, ShapedFunctions}

-- ---- what a layer stands for

abbrev form_view : F.Form-F Form Step Case Function TypedExpression → Exp
form_view x = form_step (map-Form Form Step Case Function TypedExpression Exp StepView CaseView FunctionView Exp form declaration case_view function expression x)

abbrev step_view : F.Step-F Form Step Case Function TypedExpression → StepView
step_view x = step_step (map-Step Form Step Case Function TypedExpression Exp StepView CaseView FunctionView Exp form declaration case_view function expression x)

form_viewed : (x : F.Form-F Form Step Case Function TypedExpression) → form (roll-Form x) ≡ form_view x
unfolding form declaration case_view function expression
form_viewed x = fold-roll-Form Exp StepView CaseView FunctionView Exp form_step step_step case_step function_step expression_step x

step_viewed : (x : F.Step-F Form Step Case Function TypedExpression) → declaration (roll-Step x) ≡ step_view x
unfolding form declaration case_view function expression
step_viewed x = fold-roll-Step Exp StepView CaseView FunctionView Exp form_step step_step case_step function_step expression_step x

case_viewed : (x : F.Case-F Form Step Case Function TypedExpression) → case_view (roll-Case x) ≡ record { pattern = pattern x.pattern; body = expression x.body }
unfolding form declaration case_view function expression
case_viewed x = fold-roll-Case Exp StepView CaseView FunctionView Exp form_step step_step case_step function_step expression_step x

function_viewed : (x : F.Function-F Form Step Case Function TypedExpression) → function (roll-Function x) ≡ record { how = x.sort; nodes = x.nodes; parameters = patterns x.parameters; body = expression x.body }
unfolding form declaration case_view function expression
function_viewed x = fold-roll-Function Exp StepView CaseView FunctionView Exp form_step step_step case_step function_step expression_step x

expression_viewed : (x : F.TypedExpression-F Form Step Case Function TypedExpression) → expression (roll-TypedExpression x) ≡ form x.form
unfolding form declaration case_view function expression
expression_viewed x = fold-roll-TypedExpression Exp StepView CaseView FunctionView Exp form_step step_step case_step function_step expression_step x

-- ---- how many are wanted

many : (ws us : List (Want TypeId)) (n : ℕ) → ws ≡ us → length us ≡ n → length ws ≡ n
many ws us n q h = ap length q ∙ h

length_map : {A B : Type 0} (f : A → B) (xs : List A) → length (map f xs) ≡ length xs
length_map f [] = refl
length_map f (x ∷ xs) = ap suc (length_map f xs)

operation_takes : (head : TypeId → Node TypeId) (o : Operation) (ws : List (Want TypeId)) (w : Want TypeId) → OperationTyped head o ws w → Takes (operation_arity o) (length ws)
operation_takes head (op.Arithmetic o k) ws w h = many ws _ 2 h.2 refl
operation_takes head (op.Wrap o k) ws w h = many ws _ 2 h.3 refl
operation_takes head (op.Negate k) ws w h = many ws _ 1 h.2 refl
operation_takes head (op.Compare c s) ws w h = many ws _ 2 h.3 refl
operation_takes head (op.Same s) ws w h = many ws _ 2 h.2 refl
operation_takes head (op.Equal t) ws w h = many ws _ 2 h.1 refl
operation_takes head (op.Unequal t) ws w h = many ws _ 2 h.1 refl
operation_takes head op.Not ws w h = many ws _ 1 h.0.1 refl
operation_takes head op.Assert ws w h = many ws _ 1 h.0.1 refl
operation_takes head op.Concat ws w h = many ws _ 2 h.2 refl
operation_takes head op.TextSize ws w h = many ws _ 1 h.0.1 refl
operation_takes head (op.ToText k) ws w h = many ws _ 1 h.0.1 refl
operation_takes head op.MakeTuple ws w h = tt
operation_takes head op.MakeOption ws w h = many ws _ 1 h.2.2 refl
operation_takes head (op.MakeTag l) ws w h = many ws _ 1 h.2.4 refl
operation_takes head op.MakeArray ws w h = tt
operation_takes head (op.MakeObject ls) ws w h = many ws _ (length ls) h.2.4 (length_map _ ls)
operation_takes head (op.Project i) ws w h = many ws _ 1 h.1 refl
operation_takes head (op.Field l) ws w h = many ws _ 1 h.1 refl
operation_takes head op.Element ws w h = many ws _ 2 h.3 refl
operation_takes head op.ArraySize ws w h = many ws _ 1 h.0.1 refl
operation_takes head (op.Method l) ws w h = many ws _ 1 h.1 refl
operation_takes head op.PrincipalOf ws w h = many ws _ 1 h.0.1 refl
operation_takes head op.RejectError ws w h = many ws _ 1 h.0.1 refl
operation_takes head op.Message ws w h = many ws _ 1 h.0.1 refl
operation_takes head op.Code ws w h = many ws _ 1 h.0.1 refl
operation_takes head op.Trap ws w h = many ws _ 1 h.0.1 refl
operation_takes head (op.Fail text) ws w h = many ws _ 0 h.0 refl

member_holds : (head : TypeId → Node TypeId) (m : Member) (ws : List (Want TypeId)) (n : Node TypeId) → MemberTyped head m ws n → length ws ≡ held (form_of m)
member_holds head member.DebugPrint ws n h = many ws _ 0 h.1 refl
member_holds head member.DebugTrap ws n h = many ws _ 0 h.1 refl
member_holds head member.ErrorReject ws n h = many ws _ 0 h.1 refl
member_holds head member.ErrorMessage ws n h = many ws _ 0 h.1 refl
member_holds head member.ErrorCode ws n h = many ws _ 0 h.1 refl
member_holds head member.NatToText ws n h = many ws _ 0 h.1 refl
member_holds head member.IntToText ws n h = many ws _ 0 h.1 refl
member_holds head member.ArrayTabulate ws n h = many ws _ 0 h.3 refl
member_holds head member.ArrayInit ws n h = many ws _ 0 h.2 refl
member_holds head member.ArrayFreeze ws n h = many ws _ 0 h.2 refl
member_holds head member.ArrayThaw ws n h = many ws _ 0 h.2 refl
member_holds head member.PrincipalFromActor ws n h = many ws _ 0 h.1 refl
member_holds head member.ArraySize ws n h = many ws _ 1 h.2 refl
member_holds head member.ArrayVals ws n h = many ws _ 1 h.2 refl
member_holds head member.ArrayKeys ws n h = many ws _ 1 h.3 refl
member_holds head member.TextSize ws n h = many ws _ 1 h.1 refl
member_holds head member.TextChars ws n h = many ws _ 1 h.2 refl
member_holds head member.NextVal ws n h = many ws _ 2 h.3 refl
member_holds head member.NextKey ws n h = many ws _ 2 h.3 refl
member_holds head member.NextChar ws n h = many ws _ 2 h.3 refl

-- what a built-in function takes
module _ (head : TypeId → Node TypeId) where
  abbrev TakesSo : ℕ → Node TypeId → Type 0
  TakesSo k n = (ps : List TypeId) × (r : TypeId) × (n ≡ types_of.Function ps r) × (length ps ≡ k)

  member_takes : (m : Member) (ws : List (Want TypeId)) (n : Node TypeId) → MemberTyped head m ws n → TakesSo (taken (form_of m)) n
  member_takes member.DebugPrint ws n h = (h.0 ∷ [], h.3.0, h.3.1, refl)
  member_takes member.DebugTrap ws n h = (h.0 ∷ [], h.3.0, h.3.1, refl)
  member_takes member.ErrorReject ws n h = (h.0 ∷ [], h.3.0, h.3.1, refl)
  member_takes member.ErrorMessage ws n h = (h.0 ∷ [], h.3.0, h.3.1, refl)
  member_takes member.ErrorCode ws n h = (h.0 ∷ [], h.3.0, h.3.1, refl)
  member_takes member.NatToText ws n h = (h.0 ∷ [], h.3.0, h.3.1, refl)
  member_takes member.IntToText ws n h = (h.0 ∷ [], h.3.0, h.3.1, refl)
  member_takes member.PrincipalFromActor ws n h = (h.0 ∷ [], h.3.0, h.3.1, refl)
  member_takes member.ArrayTabulate ws n h = (h.0 ∷ h.1 ∷ [], h.6.0, h.6.1, refl)
  member_takes member.ArrayInit ws n h = (h.0 ∷ h.1 ∷ [], h.4.0, h.4.1, refl)
  member_takes member.ArrayFreeze ws n h = (h.0 ∷ [], h.4.0, h.4.1, refl)
  member_takes member.ArrayThaw ws n h = (h.0 ∷ [], h.4.0, h.4.1, refl)
  member_takes member.ArraySize ws n h = ([], h.4.0, h.4.1, refl)
  member_takes member.ArrayVals ws n h = ([], h.4.0, h.4.1, refl)
  member_takes member.ArrayKeys ws n h = ([], h.6.0, h.6.1, refl)
  member_takes member.TextSize ws n h = ([], h.3.0, h.3.1, refl)
  member_takes member.TextChars ws n h = ([], h.5.0, h.5.1, refl)
  member_takes member.NextVal ws n h = ([], h.6.0, h.6.1, refl)
  member_takes member.NextKey ws n h = ([], h.6.0, h.6.1, refl)
  member_takes member.NextChar ws n h = ([], h.7.0, h.7.1, refl)

  -- a function below another one takes as many
  as_long : (ps qs : List TypeId) → Pairwise (IsSubtype head) qs ps → length qs ≡ length ps
  as_long [] [] h = refl
  as_long [] (q ∷ qs) h = absurd h
  as_long (p ∷ ps) [] h = absurd h
  as_long (p ∷ ps) (q ∷ qs) h = ap suc (as_long ps qs h.1)

  -- of a function type, or above one
  abbrev Goes : ℕ → Want TypeId → Type 0
  Goes k (Of t) = TakesSo k (head t) ⊎ (head t ≡ node.Any)
  Goes k w = Unit {0}

  above_any : (t f : TypeId) → Below head t f → head t ≡ node.Any → head f ≡ node.Any
  above_any t f b q = by (subst (λ x. IsAbove (IsSubtype head) f x (head f)) q (to_above head t f b))
    where
      by : IsAbove (IsSubtype head) f node.Any (head f) → head f ≡ node.Any
      by (inl e) = e
      by (inr h) = absurd h

  one_result : (r : TypeId) (ss : List TypeId) → Pairwise (IsSubtype head) (r ∷ []) ss → (s : TypeId) × (ss ≡ s ∷ [])
  one_result r [] h = absurd h
  one_result r (s ∷ []) h = (s, refl)
  one_result r (s ∷ u ∷ ss) h = absurd h.1

  above_function : (k : ℕ) (t f : TypeId) → Below head t f → TakesSo k (head t) → TakesSo k (head f) ⊎ (head f ≡ node.Any)
  above_function k t f b (ps, r, q, n) = by (subst (λ x. IsAbove (IsSubtype head) f x (head f)) q (to_above head t f b))
    where
      by : IsAbove (IsSubtype head) f (types_of.Function ps r) (head f) → TakesSo k (head f) ⊎ (head f ≡ node.Any)
      by (inl e) = inr e
      by (inr h) = let s = one_result r h.1 h.4 in inl (h.0, s.0, h.2 ∙ ap (λ ss. node.Func sort.Local h.0 ss) s.1, as_long ps h.0 h.3 ∙ n)

  serves : (k : ℕ) (v w : Want TypeId) → Goes k v → Serves head v w → Goes k w
  serves k (Of t) (Of f) (inl h) s = above_function k t f s h
  serves k (Of t) (Of f) (inr h) s = inr (above_any t f s h)
  serves k v Anything h s = tt
  serves k v (CellOf f) h s = tt
  serves k v (FutureOf f) h s = tt
  serves k v (KeptOf f) h s = tt
  serves k v (Generic vs f) h s = tt
  serves k Anything (Of f) h s = absurd s
  serves k (CellOf t) (Of f) h s = absurd s
  serves k (FutureOf t) (Of f) h s = absurd s
  serves k (KeptOf t) (Of f) h s = absurd s
  serves k (Generic vs t) (Of f) h s = absurd s

  goes_counted : (k : ℕ) (f r : TypeId) (ps : List TypeId) → head f ≡ types_of.Function ps r → Goes k (Of f) → length ps ≡ k
  goes_counted k f r ps q (inl (qs, s, e, n)) = let z : types_of.Function ps r ≡ types_of.Function qs s = sym q ∙ e in let same : ps ≡ qs = cc in ap length same ∙ n
  goes_counted k f r ps q (inr e) = absurd (true≢false (ap is_any (sym e ∙ q)))

called_with : (x : Exp) (args : Exps) → ((m : Member) (es : Exps) → x ≡ Do (action.BuiltIn m) es → count_of args ≡ taken (form_of m)) → CalledWith (AnExp x args)
called_with (Do (action.BuiltIn m) es) args h = h m es refl
called_with x args h = tt

module _ (types : List Slot) where
  -- a built-in function that is written has a type with as many parameters as it takes, or one above that
  abbrev Built : Exp → Want TypeId → Type 0
  Built e w = (m : Member) (es : Exps) → e ≡ Do (action.BuiltIn m) es → Goes (head_at types) (taken (form_of m)) w

  abbrev FormClaim : Form → Type 0
  FormClaim f = (c : Context) (w : Want TypeId) → FormTyped types f c w → Shaped (form f) × Built (form f) w

  abbrev StepClaim : Step → Type 0
  StepClaim x = (c : Context) (ns : List (Want TypeId)) → Declares types x c ns → (e : Exp) → (Shaped e → Shaped (declaration x e)) × ((a : Action) (es : Exps) → declaration x e ≡ Do a es → ⊥)

  abbrev CaseClaim : Case → Type 0
  CaseClaim x = (c : Context) (t : TypeId) (w : Want TypeId) → CaseTyped types x c t w → Shaped (case_view x).body

  abbrev FunctionClaim : Function → Type 0
  FunctionClaim f = (c : Context) (g : Signature) → IsFunctionOf types f c g → Shaped (function f).body

  abbrev ExpressionClaim : TypedExpression → Type 0
  ExpressionClaim e = (c : Context) (w : Want TypeId) → Typed types e c w → Shaped (expression e) × Built (expression e) w

  abbrev K0 : Type 0
  K0 = (x : Form) × FormClaim x

  abbrev K1 : Type 0
  K1 = (x : Step) × StepClaim x

  abbrev K2 : Type 0
  K2 = (x : Case) × CaseClaim x

  abbrev K3 : Type 0
  K3 = (x : Function) × FunctionClaim x

  abbrev K4 : Type 0
  K4 = (x : TypedExpression) × ExpressionClaim x

  each_shaped : (es : List K4) (c : Context) (ws : List (Want TypeId)) → EachGives (Typed types) c (map (λ z. z.0) es) ws → ShapedAll (exps (map expression (map (λ z. z.0) es))) × (count_of (exps (map expression (map (λ z. z.0) es))) ≡ length ws)
  each_shaped [] c [] h = (tt, refl)
  each_shaped [] c (w ∷ ws) h = absurd h
  each_shaped (e ∷ es) c [] h = absurd h
  each_shaped (e ∷ es) c (w ∷ ws) h = let r = each_shaped es c ws h.1 in (((e.1 c w h.0).0, r.0), ap suc r.1)

  cases_shaped : (xs : List K2) (c : Context) (t : TypeId) (w : Want TypeId) → CasesGive (CaseTyped types) c (map (λ z. z.0) xs) t w → ShapedCases (cases (map case_view (map (λ z. z.0) xs)))
  cases_shaped [] c t w h = tt
  cases_shaped (x ∷ xs) c t w h = (x.1 c t w h.0, cases_shaped xs c t w h.1)

  block_shaped : (ss : List K1) (e : K4) (c : Context) (w : Want TypeId) → BlockGives (Declares types) (Typed types) c (map (λ z. z.0) ss) e.0 w → Shaped (block (map declaration (map (λ z. z.0) ss)) (expression e.0))
  block_shaped [] e c w h = (e.1 c w h).0
  block_shaped (x ∷ ss) e c w h = (x.1 c h.0 h.1 (block (map declaration (map (λ z. z.0) ss)) (expression e.0))).0 (block_shaped ss e (with_names h.0 c) w h.2)

  functions_shaped : (fs : List K3) (c : Context) (ws : List (Want TypeId)) → GroupStands (head_at types) (IsFunctionOf types) c (map (λ z. z.0) fs) ws → ShapedFunctions (group (map function (map (λ z. z.0) fs)))
  functions_shaped [] c ws h = tt
  functions_shaped (f ∷ fs) c [] h = absurd h
  functions_shaped (f ∷ fs) c (w ∷ ws) h = (f.1 c h.0.0 h.0.3, functions_shaped fs c ws h.1)

  action_takes : (c : Context) (a : Action) (ws : List (Want TypeId)) (w : Want TypeId) (n : ℕ) → n ≡ length ws → ActionTyped (head_at types) c a ws w → ActionTakes a n
  action_takes c (action.Operate o) ws w n q h = subst (Takes (operation_arity o)) (sym q) (operation_takes (head_at types) o ws w h)
  action_takes c (action.BuiltIn m) ws w n q h = q ∙ member_holds (head_at types) m ws (head_at types h.0) h.2
  action_takes c action.New ws w n q h = q ∙ many ws _ 1 h.1 refl
  action_takes c action.Read ws w n q h = q ∙ many ws _ 1 h.1 refl
  action_takes c action.Write ws w n q h = q ∙ many ws _ 2 h.1 refl
  action_takes c action.WriteElement ws w n q h = q ∙ many ws _ 3 h.3 refl
  action_takes c action.Print ws w n q h = q ∙ many ws _ 1 h.0.1 refl
  action_takes c action.Throw ws w n q h = q ∙ many ws _ 1 h.1.1 refl
  action_takes c action.Call ws w n q h = subst (λ n. 1 ≤ n) (sym (q ∙ ap length h.4)) (omega arith)
  action_takes c (action.Send ps rs) ws w n q h = q ∙ many ws _ (suc (length ps)) h.4 (ap suc (length_map _ ps))
  action_takes c action.Await ws w n q h = q ∙ many ws _ 1 h.2 refl
  action_takes c (action.Break l) ws w n q h = q ∙ many ws _ 1 h.2 refl
  action_takes c (action.Unwrap l) ws w n q h = q ∙ many ws _ 1 h.5 refl

  calls : (c : Context) (es : List K4) (f r : TypeId) (ps : List TypeId) → head_at types f ≡ types_of.Function ps r → EachGives (Typed types) c (map (λ z. z.0) es) (Of f ∷ map (λ t. Of t) ps) → CalledWith (exps (map expression (map (λ z. z.0) es)))
  calls c [] f r ps q h = absurd h
  calls c (e ∷ es) f r ps q h =
      called_with (expression e.0) (exps (map expression (map (λ z. z.0) es)))
      (λ m fs i. (each_shaped es c (map (λ t. Of t) ps) h.1).1 ∙ length_map _ ps ∙ goes_counted (head_at types) (taken (form_of m)) f r ps q ((e.1 c (Of f) h.0).1 m fs i))

  action_calls : (c : Context) (a : Action) (ws : List (Want TypeId)) (w : Want TypeId) (es : List K4) → ActionTyped (head_at types) c a ws w → EachGives (Typed types) c (map (λ z. z.0) es) ws → ActionCalls a (exps (map expression (map (λ z. z.0) es)))
  action_calls c action.Call ws w es h k = calls c es h.0 h.1 h.2 h.3 (subst (EachGives (Typed types) c (map (λ z. z.0) es)) h.4 k)
  action_calls c (action.Operate o) ws w es h k = tt
  action_calls c (action.BuiltIn m) ws w es h k = tt
  action_calls c action.New ws w es h k = tt
  action_calls c action.Read ws w es h k = tt
  action_calls c action.Write ws w es h k = tt
  action_calls c action.WriteElement ws w es h k = tt
  action_calls c action.Print ws w es h k = tt
  action_calls c action.Throw ws w es h k = tt
  action_calls c (action.Send ps rs) ws w es h k = tt
  action_calls c action.Await ws w es h k = tt
  action_calls c (action.Break l) ws w es h k = tt
  action_calls c (action.Unwrap l) ws w es h k = tt

  abbrev viewed : F.Form-F K0 K1 K2 K3 K4 → F.Form-F Form Step Case Function TypedExpression
  viewed y = map-Form K0 K1 K2 K3 K4 Form Step Case Function TypedExpression (λ z. z.0) (λ z. z.0) (λ z. z.0) (λ z. z.0) (λ z. z.0) y

  form_shaped : (y : F.Form-F K0 K1 K2 K3 K4) (c : Context) (w : Want TypeId) → form_typing types (viewed y) c w → Shaped (form_view (viewed y))
  form_shaped (F.Constant l) c w h = tt
  form_shaped (F.Name x) c w h = tt
  form_shaped (F.Do a es) c w h = let r = each_shaped es c h.0 h.2 in (action_takes c a h.0 w _ r.1 h.1, action_calls c a h.0 w es h.1 h.2, r.0)
  form_shaped (F.If e x y) c w h = ((e.1 c _ h.4).0, (x.1 c w h.5).0, (y.1 c w h.6).0)
  form_shaped (F.Switch token e xs) c w h = ((e.1 c _ h.3).0, cases_shaped xs c h.1 w h.4)
  form_shaped (F.While e x) c w h = ((e.1 c _ h.5).0, (x.1 c w h.6).0)
  form_shaped (F.Loop x) c w h = ((tt, (x.1 c _ h.5).0), ((refl, tt, tt), tt))
  form_shaped (F.Repeat x e) c w h = ((x.1 c w h.5).0, (e.1 c _ h.6).0)
  form_shaped (F.For p e x) c w h = ((e.1 c _ h.7).0, (x.1 (with_names h.3 c) w h.9).0)
  form_shaped (F.Label e) c w h = (e.1 _ w h.2).0
  form_shaped (F.Try e p x) c w h = ((e.1 c w h.6).0, (x.1 (with_names h.2 c) w h.8).0)
  form_shaped (F.Update o e f) c w h = (operation_takes (head_at types) o _ _ h.7, (e.1 c _ h.8).0, (f.1 c _ h.10).0)
  form_shaped (F.Block ss e) c w h = block_shaped ss e c w h.2

  block_built : (ss : List K1) (e : K4) (c : Context) (w : Want TypeId) → BlockGives (Declares types) (Typed types) c (map (λ z. z.0) ss) e.0 w → Built (block (map declaration (map (λ z. z.0) ss)) (expression e.0)) w
  block_built [] e c w h m es q = (e.1 c w h).1 m es q
  block_built (x ∷ ss) e c w h m es q = absurd ((x.1 c h.0 h.1 (block (map declaration (map (λ z. z.0) ss)) (expression e.0))).1 (action.BuiltIn m) es q)

  done_built : (a : Action) (es fs : Exps) (c : Context) (ws : List (Want TypeId)) (w : Want TypeId) (m : Member) → Do a es ≡ Do (action.BuiltIn m) fs → ActionTyped (head_at types) c a ws w → Goes (head_at types) (taken (form_of m)) w
  done_built a es fs c ws w m q h = built (subst (λ a. ActionTyped (head_at types) c a ws w) (let same : a ≡ action.BuiltIn m = cc in same) h)
    where
      built : ActionTyped (head_at types) c (action.BuiltIn m) ws w → Goes (head_at types) (taken (form_of m)) w
      built k = subst (Goes (head_at types) (taken (form_of m))) (sym k.1) (inl (member_takes (head_at types) m ws (head_at types k.0) k.2))

  form_built : (y : F.Form-F K0 K1 K2 K3 K4) (c : Context) (w : Want TypeId) → form_typing types (viewed y) c w → Built (form_view (viewed y)) w
  form_built (F.Do a es) c w h m fs q = done_built a (exps (map expression (map (λ z. z.0) es))) fs c h.0 w m q h.1
  form_built (F.Block ss e) c w h m fs q = block_built ss e c w h.2 m fs q
  form_built (F.Constant l) c w h m fs q = absurd cc
  form_built (F.Name x) c w h m fs q = absurd cc
  form_built (F.If e x y) c w h m fs q = absurd cc
  form_built (F.Switch token e xs) c w h m fs q = absurd cc
  form_built (F.While e x) c w h m fs q = absurd cc
  form_built (F.Loop x) c w h m fs q = absurd cc
  form_built (F.Repeat x e) c w h m fs q = absurd cc
  form_built (F.For p e x) c w h m fs q = absurd cc
  form_built (F.Label e) c w h m fs q = absurd cc
  form_built (F.Try e p x) c w h m fs q = absurd cc
  form_built (F.Update o e f) c w h m fs q = absurd cc

  let_shaped : (p : TypedPattern) (e : K4) (c : Context) (ns : List (Want TypeId)) → step_typing types (F.Let p e.0) c ns → Shaped (expression e.0)
  let_shaped p e c ns (inl h) = (e.1 c _ h.1).0
  let_shaped p e c ns (inr h) = (e.1 c _ h.1).0

  step_shaped : (y : F.Step-F K0 K1 K2 K3 K4) (c : Context) (ns : List (Want TypeId)) → step_typing types (map-Step K0 K1 K2 K3 K4 Form Step Case Function TypedExpression (λ z. z.0) (λ z. z.0) (λ z. z.0) (λ z. z.0) (λ z. z.0) y) c ns → (e : Exp)
      → (Shaped e → Shaped (step_view (map-Step K0 K1 K2 K3 K4 Form Step Case Function TypedExpression (λ z. z.0) (λ z. z.0) (λ z. z.0) (λ z. z.0) (λ z. z.0) y) e))
      × ((a : Action) (es : Exps) → step_view (map-Step K0 K1 K2 K3 K4 Form Step Case Function TypedExpression (λ z. z.0) (λ z. z.0) (λ z. z.0) (λ z. z.0) (λ z. z.0) y) e ≡ Do a es → ⊥)
  step_shaped (F.Let p x) c ns h e = ((λ k. (let_shaped p x c ns h, (k, tt))), (λ a es q. cc))
  step_shaped (F.Var x) c ns h e = ((λ k. ((refl, tt, ((x.1 c _ h.2).0, tt)), (k, tt))), (λ a es q. cc))
  step_shaped (F.Stable x f) c ns h e = ((λ k. ((refl, tt, ((tt, ((f.1 c _ h.2).0, (tt, tt))), tt)), (k, tt))), (λ a es q. cc))
  step_shaped (F.Functions fs) c ns h e = ((λ k. (functions_shaped fs (with_names ns c) ns h, k)), (λ a es q. cc))
  step_shaped (F.Evaluate x) c ns h e = ((λ k. ((x.1 c _ h.1).0, (k, tt))), (λ a es q. cc))

  -- ---- the tree

  form_case : (y : F.Form-F K0 K1 K2 K3 K4) → FormClaim (roll-Form (viewed y))
  form_case y c w h = subst (λ e. Shaped e × Built e w) (sym (form_viewed _)) (form_shaped y c w ((rules.forms types _ c w).0 h), form_built y c w ((rules.forms types _ c w).0 h))

  step_case : (y : F.Step-F K0 K1 K2 K3 K4) → StepClaim (roll-Step (map-Step K0 K1 K2 K3 K4 Form Step Case Function TypedExpression (λ z. z.0) (λ z. z.0) (λ z. z.0) (λ z. z.0) (λ z. z.0) y))
  step_case y c ns h e = subst (λ (d : StepView). (Shaped e → Shaped (d e)) × ((a : Action) (es : Exps) → d e ≡ Do a es → ⊥)) (sym (step_viewed _)) (step_shaped y c ns ((rules.steps types _ c ns).0 h) e)

  case_case : (y : F.Case-F K0 K1 K2 K3 K4) → CaseClaim (roll-Case (map-Case K0 K1 K2 K3 K4 Form Step Case Function TypedExpression (λ z. z.0) (λ z. z.0) (λ z. z.0) (λ z. z.0) (λ z. z.0) y))
  case_case y c t w h =
      let f : case_typing types (map-Case K0 K1 K2 K3 K4 Form Step Case Function TypedExpression (λ z. z.0) (λ z. z.0) (λ z. z.0) (λ z. z.0) (λ z. z.0) y) c t w = (rules.cases types _ c t w).0 h in
      subst (λ (x : CaseView). Shaped x.body) (sym (case_viewed _)) (y.body.1 (with_names f.0 c) w f.2).0

  function_case : (y : F.Function-F K0 K1 K2 K3 K4) → FunctionClaim (roll-Function (map-Function K0 K1 K2 K3 K4 Form Step Case Function TypedExpression (λ z. z.0) (λ z. z.0) (λ z. z.0) (λ z. z.0) (λ z. z.0) y))
  function_case y c g h =
      let f : function_typing types (map-Function K0 K1 K2 K3 K4 Form Step Case Function TypedExpression (λ z. z.0) (λ z. z.0) (λ z. z.0) (λ z. z.0) (λ z. z.0) y) c g = (rules.functions types _ c g).0 h in
      subst (λ (x : FunctionView). Shaped x.body) (sym (function_viewed _)) (y.body.1 (in_body g f.0 c) _ f.5).0

  expression_case : (y : F.TypedExpression-F K0 K1 K2 K3 K4) → ExpressionClaim (roll-TypedExpression (map-TypedExpression K0 K1 K2 K3 K4 Form Step Case Function TypedExpression (λ z. z.0) (λ z. z.0) (λ z. z.0) (λ z. z.0) (λ z. z.0) y))
  expression_case y c w h =
      let f : expression_typing types (map-TypedExpression K0 K1 K2 K3 K4 Form Step Case Function TypedExpression (λ z. z.0) (λ z. z.0) (λ z. z.0) (λ z. z.0) (λ z. z.0) y) c w = (rules.expressions types _ c w).0 h in
      let r = y.form.1 c f.0 f.3 in
      subst (λ e. Shaped e × Built e w) (sym (expression_viewed _)) (r.0, (λ m es q. serves (head_at types) (taken (form_of m)) f.0 w (r.1 m es q) f.4))

  pub step_holds : (x : Step) → StepClaim x
  step_holds = ind-Step FormClaim StepClaim CaseClaim FunctionClaim ExpressionClaim
      (λ x y is. subst (λ z. FormClaim (roll-Form z)) is (form_case y))
      (λ x y is. subst (λ z. StepClaim (roll-Step z)) is (step_case y))
      (λ x y is. subst (λ z. CaseClaim (roll-Case z)) is (case_case y))
      (λ x y is. subst (λ z. FunctionClaim (roll-Function z)) is (function_case y))
      (λ x y is. subst (λ z. ExpressionClaim (roll-TypedExpression z)) is (expression_case y))

  pub function_holds : (f : Function) → FunctionClaim f
  function_holds = ind-Function FormClaim StepClaim CaseClaim FunctionClaim ExpressionClaim
      (λ x y is. subst (λ z. FormClaim (roll-Form z)) is (form_case y))
      (λ x y is. subst (λ z. StepClaim (roll-Step z)) is (step_case y))
      (λ x y is. subst (λ z. CaseClaim (roll-Case z)) is (case_case y))
      (λ x y is. subst (λ z. FunctionClaim (roll-Function z)) is (function_case y))
      (λ x y is. subst (λ z. ExpressionClaim (roll-TypedExpression z)) is (expression_case y))

  pub expression_holds : (e : TypedExpression) → ExpressionClaim e
  expression_holds = ind-TypedExpression FormClaim StepClaim CaseClaim FunctionClaim ExpressionClaim
      (λ x y is. subst (λ z. FormClaim (roll-Form z)) is (form_case y))
      (λ x y is. subst (λ z. StepClaim (roll-Step z)) is (step_case y))
      (λ x y is. subst (λ z. CaseClaim (roll-Case z)) is (case_case y))
      (λ x y is. subst (λ z. FunctionClaim (roll-Function z)) is (function_case y))
      (λ x y is. subst (λ z. ExpressionClaim (roll-TypedExpression z)) is (expression_case y))
