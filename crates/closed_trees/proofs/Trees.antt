-- The expression of a typed tree is typed, in each environment of the type parameters in scope, as one that runs.
use Rattle.std.proofs.Common.{◌≡◌, ◌⊎◌, ◌∙◌, ◌≤◌, inl, inr, ℕ, suc, List, [], ◌∷◌, ◌++◌, map, length, true, Some, refl, sym, ap, subst, slice_get}
use Rattle.mo_types.specs.declared.node.Node.{Node}
use Rattle.mo_types.specs.declared.node.Node.TheVariants as node
use Rattle.mo_types.specs.declared.node.Sort.{Sort}
use Rattle.mo_types.specs.declared.node.Sort.TheVariants as sort
use Rattle.mo_types.specs.declared.node.TypeId.{TypeId}
use Rattle.mo_types.specs.Graph.{Slot, head_at}
use Rattle.mo_types.specs.Sub.{Each}
use Rattle.typed_tree.specs.declared.action.Action.TheVariants as action
use Rattle.typed_tree.specs.declared.expression.Form.{Form, roll-Form, map-Form, fold-roll-Form}
use Rattle.typed_tree.specs.declared.expression.Form.TheOpen as F
use Rattle.typed_tree.specs.declared.expression.Step.{Step, roll-Step, map-Step, ind-Step, fold-roll-Step}
use Rattle.typed_tree.specs.declared.expression.Case.{Case, roll-Case, map-Case, fold-roll-Case}
use Rattle.typed_tree.specs.declared.expression.Function.{Function, roll-Function, map-Function, ind-Function, fold-roll-Function}
use Rattle.typed_tree.specs.declared.expression.TypedExpression.{TypedExpression, roll-TypedExpression, map-TypedExpression, ind-TypedExpression, fold-roll-TypedExpression}
use Rattle.typed_tree.specs.declared.pattern.TypedPattern.{TypedPattern}
use Rattle.typed_tree.specs.ActionTypes.{Context}
use Rattle.typed_tree.specs.Instances.{MentionsOnly}
use Rattle.typed_tree.specs.Language.{Exp, Do, NoExp, AnExp, let_in}
use Rattle.typed_tree.specs.MemberTypes as member
use Rattle.typed_tree.specs.Patterns.{Pat, Wildcard, Bind}
use Rattle.typed_tree.specs.PatternTypes.{IsInScope}
use Rattle.typed_tree.specs.PatternView.{literal_value, pattern, patterns}
use Rattle.typed_tree.specs.Types.{AreLawful}
use Rattle.typed_tree.specs.Typing as tree
use Rattle.typed_tree.specs.Typing.{Signature, NameGives, NameOf, OwnType, generic, EachGives, CasesGive, BlockGives, GroupStands, Declares, IsFunctionOf, FormTyped, CaseTyped}
use Rattle.typed_tree.specs.TypingLaws.{form_typing, step_typing, case_typing, function_typing, expression_typing}
use Rattle.typed_tree.specs.View.{CaseView, FunctionView, StepView, exps, cases, group, block, kept_or, form_step, step_step, case_step, function_step, expression_step, expression, form, declaration, case_view, function}
use Rattle.typed_tree.specs.Wants.{Want, Anything, Of, CellOf, FutureOf, KeptOf, Generic, in_function, Below, Serves}
use Rattle.typed_tree.proofs.Rules as rules
use Rattle.closed_types.specs.Environments.{IsEnvironment, IsInside, with_arguments, HasParameters, IsCall}
use Rattle.closed_types.specs.Expanded.{Environment, close_in, expanded}
use Rattle.closed_types.proofs.Environments.{below_there, same_there, entered, instance_there}
use Rattle.closed_types.proofs.Expanded.{closing}
use Rattle.closed_rules.specs.ClosedWants.{close_want, close_wants}
use Rattle.closed_rules.proofs.Heads.{at}
use Rattle.mo_soundness.specs.Lawful.{IsLawful}
use Rattle.mo_soundness.specs.RunningPatterns.{PatternTyped, PatternsTyped, BindsAt}
use Rattle.mo_soundness.specs.Worlds.{World}
use Rattle.mo_soundness.specs.Running.{Around, AnswerTypes, context, still, in_sort, with_names, HasValue, Typed, EachTyped, CasesTyped, FunctionsTyped, Instances, NameStands, NameServes, Operates, Acts}
use Rattle.mo_soundness.proofs.Found.{flag_fits}
use Rattle.mo_soundness.proofs.Less.{typed_sub}
use Rattle.mo_soundness.proofs.Wanted.{reflexive, equal_self, serves_trans}
use Rattle.closed_trees.specs.Opening.{Opens}
use Rattle.closed_trees.specs.Worlds.{coded, bound, closed_world}
use Rattle.closed_trees.proofs.Coded.{instance_at, instance_from, arguments_bound, inside_bound, environment_more, environment_bound}
use Rattle.closed_trees.proofs.Doing.{Rises, operates_there, acts_there, each_rises}
use Rattle.closed_trees.proofs.Literals.{literal_has, elements_there}
use Rattle.closed_trees.proofs.Patterns.{pattern_typed, all_typed}
use Rattle.closed_trees.proofs.Scopes.{Bounds, function_mentions, has_parameters, bounds_more}
use Rattle.closed_trees.specs.Seen.{Sees, SeesAll, around_in, Fine}
use Rattle.closed_trees.proofs.Seen.{sees_append, sees_at, sees_as, sees_self, all_inside}

-- ---- what a layer stands for

abbrev form_view : F.Form-F Form Step Case Function TypedExpression → Exp
form_view x = form_step (map-Form Form Step Case Function TypedExpression Exp StepView CaseView FunctionView Exp form declaration case_view function expression x)

abbrev step_view : F.Step-F Form Step Case Function TypedExpression → StepView
step_view x = step_step (map-Step Form Step Case Function TypedExpression Exp StepView CaseView FunctionView Exp form declaration case_view function expression x)

form_viewed : (x : F.Form-F Form Step Case Function TypedExpression) → form (roll-Form x) ≡ form_view x
unfolding form declaration case_view function expression
form_viewed x = fold-roll-Form Exp StepView CaseView FunctionView Exp form_step step_step case_step function_step expression_step x

step_viewed : (x : F.Step-F Form Step Case Function TypedExpression) → declaration (roll-Step x) ≡ step_view x
unfolding form declaration case_view function expression
step_viewed x = fold-roll-Step Exp StepView CaseView FunctionView Exp form_step step_step case_step function_step expression_step x

case_viewed : (x : F.Case-F Form Step Case Function TypedExpression) → case_view (roll-Case x) ≡ record { pattern = pattern x.pattern; body = expression x.body }
unfolding form declaration case_view function expression
case_viewed x = fold-roll-Case Exp StepView CaseView FunctionView Exp form_step step_step case_step function_step expression_step x

function_viewed : (x : F.Function-F Form Step Case Function TypedExpression) → function (roll-Function x) ≡ record { how = x.sort; nodes = x.nodes; parameters = patterns x.parameters; body = expression x.body }
unfolding form declaration case_view function expression
function_viewed x = fold-roll-Function Exp StepView CaseView FunctionView Exp form_step step_step case_step function_step expression_step x

expression_viewed : (x : F.TypedExpression-F Form Step Case Function TypedExpression) → expression (roll-TypedExpression x) ≡ form x.form
unfolding form declaration case_view function expression
expression_viewed x = fold-roll-TypedExpression Exp StepView CaseView FunctionView Exp form_step step_step case_step function_step expression_step x

-- what is known where a function is
pub record Parts (types : List Slot) (first : ℕ) (c : Context) (s : Signature) : Type 0 where
  pub parameters : HasParameters types first c.parameters s.generics
  pub result : MentionsOnly (head_at types) (s.generics ++ c.parameters) s.result
  pub others : Each (MentionsOnly (head_at types) (s.generics ++ c.parameters)) s.parameters

each_right : {X : Type 0} (P : X → Type 0) (xs ys : List X) → Each P (xs ++ ys) → Each P xs × Each P ys
each_right P [] ys h = (tt, h)
each_right P (x ∷ xs) ys h = let k = each_right P xs ys h.1 in ((h.0, k.0), k.1)

module _ (types : List Slot) (first : ℕ) (past : length types ≤ first) (graph : AreLawful types) (lawful : IsLawful (expanded types first)) (kinds : List TypeId) where
  abbrev W : World
  W = closed_world types first

  abbrev head : TypeId → Node TypeId
  head = expanded types first

  abbrev close : Environment → TypeId → TypeId
  close e t = close_in types first e t

  abbrev R : AnswerTypes → Around → Exp → Want TypeId → Type 0
  R answers c e w = Typed W answers kinds c e w

  pub fine_names : (answers : AnswerTypes) (c : Context) (e : Environment) (ms ns ls : List (Want TypeId)) → SeesAll types first c.parameters e ns ls → Fine types first answers c e ms → Fine types first answers (tree.with_names ns c) e (ls ++ ms)
  fine_names answers c e ms ns ls h p = record { place = p.place; bounds = p.bounds; names = sees_append types first c.parameters e ns ls c.names ms h p.names; calls = p.calls; shared = p.shared }

  -- ---- what stands for itself

  abbrev IsPlain : Want TypeId → Type 0
  IsPlain (Generic vs t) = ⊥
  IsPlain _ = Unit {0}

  serves_plain : (e : Environment) (w : Want TypeId) → IsPlain w → Serves head (close_want (close e) w) (close_want (close e) w)
  serves_plain e Anything h = tt
  serves_plain e (Of t) h = reflexive head lawful (close e t)
  serves_plain e (CellOf t) h = equal_self head lawful (close e t)
  serves_plain e (FutureOf t) h = reflexive head lawful (close e t)
  serves_plain e (KeptOf t) h = equal_self head lawful (close e t)
  serves_plain e (Generic vs t) h = absurd h

  own_plain : (w : Want TypeId) (t : TypeId) → OwnType (head_at types) w t → IsPlain w
  own_plain (Of u) t h = tt
  own_plain (CellOf u) t h = tt
  own_plain (FutureOf u) t h = tt
  own_plain Anything t h = absurd h
  own_plain (KeptOf u) t h = absurd h
  own_plain (Generic vs u) t h = absurd h

  serves_as : (e : Environment) (u : TypeId) (w : Want TypeId) → w ≡ Of u → Serves head (Of (close e u)) (close_want (close e) w)
  serves_as e u w q = subst (λ w. Serves head (Of (close e u)) (close_want (close e) w)) (sym q) (reflexive head lawful (close e u))

  -- what serves where the tree is typed does so where it runs
  serves_there : (vs : List ℕ) (e : Environment) → IsEnvironment types first vs e → (w u : Want TypeId) → Serves (head_at types) w u → Serves head (close_want (close e) w) (close_want (close e) u)
  serves_there vs e p (FutureOf t) (FutureOf u) s = below_there types first past graph vs e p t u s
  serves_there vs e p (FutureOf t) u s = absurd s
  serves_there vs e p Anything Anything s = tt
  serves_there vs e p (Of t) Anything s = tt
  serves_there vs e p (CellOf t) Anything s = tt
  serves_there vs e p (KeptOf t) Anything s = tt
  serves_there vs e p (Generic ws t) Anything s = tt
  serves_there vs e p (Of t) (Of u) s = below_there types first past graph vs e p t u s
  serves_there vs e p (CellOf t) (CellOf u) s = (below_there types first past graph vs e p t u s.0, below_there types first past graph vs e p u t s.1)
  serves_there vs e p (KeptOf t) (KeptOf u) s = (below_there types first past graph vs e p t u s.0, below_there types first past graph vs e p u t s.1)
  serves_there vs e p Anything u s = absurd s
  serves_there vs e p (Of t) u s = absurd s
  serves_there vs e p (CellOf t) u s = absurd s
  serves_there vs e p (KeptOf t) u s = absurd s
  serves_there vs e p (Generic ws t) u s = absurd s

  -- ---- declarations

  pub opens_typed : (answers : AnswerTypes) → (c : Around) (ns : List (Want TypeId)) (f b : Exp) (w : Want TypeId) → Opens W answers kinds c ns f b → R answers (with_names ns c) b w → R answers c f w
  opens_typed answers c ns f b w (inl o) h = subst (λ f. R answers c f w) (sym o.3) (o.2, o.4, (ns, o.5, h, tt))
  opens_typed answers c ns f b w (inr o) h = subst (λ f. R answers c f w) (sym o.1) (ns, o.2, h)

  wildcard_binds : (w : Want TypeId) → BindsAt head Wildcard w []
  wildcard_binds Anything = refl
  wildcard_binds (Of t) = refl
  wildcard_binds (CellOf t) = refl
  wildcard_binds (FutureOf t) = refl
  wildcard_binds (KeptOf t) = refl
  wildcard_binds (Generic vs t) = refl

  -- ---- what is shown of each node

  abbrev pub FunctionRuns : AnswerTypes → List (Want TypeId) → List (Want TypeId) → Environment → Signature → FunctionView → Type 0
  FunctionRuns answers ms us e s f =
      (s.sort ≡ f.how)
      × ((ns : List (Want TypeId)) × PatternsTyped head f.parameters (map (close e) s.parameters) ns
      × R answers (record { names = (us ++ ns) ++ map in_function ms; labels = close e s.result ∷ [] }) f.body (Of (close e s.result)))

  abbrev FormClaim : Form → Type 0
  FormClaim f = (answers : AnswerTypes) (c : Context) (e : Environment) (ms : List (Want TypeId)) (w : Want TypeId) → IsPlain w → Fine types first answers c e ms → FormTyped types f c w → R answers (around_in types first e ms c) (form f) (close_want (close e) w)

  abbrev Opening : AnswerTypes → Context → Environment → List (Want TypeId) → List (Want TypeId) → StepView → Type 0
  Opening answers c e ms ns d = (ls : List (Want TypeId)) × SeesAll types first c.parameters e ns ls × ((b : Exp) → Opens W answers kinds (around_in types first e ms c) ls (d b) b)

  abbrev pub StepClaim : Step → Type 0
  StepClaim s = (answers : AnswerTypes) (c : Context) (e : Environment) (ms ns : List (Want TypeId)) → Fine types first answers c e ms → Declares types s c ns → Opening answers c e ms ns (declaration s)

  abbrev CaseClaim : Case → Type 0
  CaseClaim x = (answers : AnswerTypes) (c : Context) (e : Environment) (ms : List (Want TypeId)) (t : TypeId) (w : Want TypeId) → Fine types first answers c e ms → CaseTyped types x c t w
      → (ls : List (Want TypeId)) × PatternTyped head (case_view x).pattern (close e t) ls × R answers (with_names ls (around_in types first e ms c)) (case_view x).body (close_want (close e) w)

  abbrev Runs : AnswerTypes → Context → List (Want TypeId) → Environment → Signature → FunctionView → Type 0
  Runs answers c ms e s f =
      (at : Environment) (us : List (Want TypeId)) → IsEnvironment types first (s.generics ++ c.parameters) at → IsInside types first c.parameters e at → SeesAll types first (s.generics ++ c.parameters) at s.context us
      → in_sort s.sort answers.may_call ≡ s.sort → (s.sort ≡ sort.Local) ⊎ (at ≡ []) → FunctionRuns answers ms us at s f

  abbrev pub FunctionClaim : Function → Type 0
  FunctionClaim f = (c : Context) (s : Signature) → Bounds types first graph c.parameters c.parameters → IsFunctionOf types f c s
      → Parts types first c s × ((answers : AnswerTypes) (e : Environment) (ms : List (Want TypeId)) → IsEnvironment types first c.parameters e → SeesAll types first c.parameters e c.names ms → Runs answers c ms e s (function f))

  abbrev ExpressionClaim : TypedExpression → Type 0
  ExpressionClaim x = (answers : AnswerTypes) (c : Context) (e : Environment) (ms : List (Want TypeId)) (w : Want TypeId) → Fine types first answers c e ms → tree.Typed types x c w → R answers (around_in types first e ms c) (expression x) (close_want (close e) w)

  abbrev K0 : Type 0
  K0 = (x : Form) × FormClaim x

  abbrev K1 : Type 0
  K1 = (x : Step) × StepClaim x

  abbrev K2 : Type 0
  K2 = (x : Case) × CaseClaim x

  abbrev K3 : Type 0
  K3 = (x : Function) × FunctionClaim x

  abbrev K4 : Type 0
  K4 = (x : TypedExpression) × ExpressionClaim x

  -- ---- lists of parts

  each_typed : (answers : AnswerTypes) (es : List K4) (c : Context) (e : Environment) (ms ws : List (Want TypeId)) → Fine types first answers c e ms → EachGives (tree.Typed types) c (map (λ z. z.0) es) ws
      → EachTyped W answers kinds (around_in types first e ms c) (exps (map expression (map (λ z. z.0) es))) (close_wants (close e) ws)
  each_typed answers [] c e ms [] p h = tt
  each_typed answers [] c e ms (w ∷ ws) p h = absurd h
  each_typed answers (x ∷ es) c e ms [] p h = absurd h
  each_typed answers (x ∷ es) c e ms (w ∷ ws) p h = (x.1 answers c e ms w p h.0, each_typed answers es c e ms ws p h.1)

  cases_typed : (answers : AnswerTypes) (xs : List K2) (c : Context) (e : Environment) (ms : List (Want TypeId)) (t : TypeId) (w : Want TypeId) → Fine types first answers c e ms → CasesGive (CaseTyped types) c (map (λ z. z.0) xs) t w
      → CasesTyped W answers kinds (around_in types first e ms c) (cases (map case_view (map (λ z. z.0) xs))) (Of (close e t)) (close_want (close e) w)
  cases_typed answers [] c e ms t w p h = tt
  cases_typed answers (x ∷ xs) c e ms t w p h = let k = x.1 answers c e ms t w p h.0 in (k.0, k.1, k.2, cases_typed answers xs c e ms t w p h.1)

  block_typed : (answers : AnswerTypes) (ss : List K1) (x : K4) (c : Context) (e : Environment) (ms : List (Want TypeId)) (w : Want TypeId) → Fine types first answers c e ms → BlockGives (Declares types) (tree.Typed types) c (map (λ z. z.0) ss) x.0 w
      → R answers (around_in types first e ms c) (block (map declaration (map (λ z. z.0) ss)) (expression x.0)) (close_want (close e) w)
  block_typed answers [] x c e ms w p h = x.1 answers c e ms w p h
  block_typed answers (s ∷ ss) x c e ms w p h =
      let k = s.1 answers c e ms h.0 p h.1 in
      let b = block (map declaration (map (λ (z : K1). z.0) ss)) (expression x.0) in
      opens_typed answers (around_in types first e ms c) k.0 (declaration s.0 b) b (close_want (close e) w) (k.2 b)
      (block_typed answers ss x (tree.with_names h.0 c) e (k.0 ++ ms) w (fine_names answers c e ms h.0 k.0 k.1 p) h.2)

  -- ---- functions of a group

  -- the environment in which the body of a function runs, whose name stands for this, for a choice of types
  abbrev Chosen : Context → Environment → Function → Want TypeId → Type 0
  Chosen c e f u =
      (i : Instances W u) → (s : Signature) × (at : Environment) × (s.sort ≡ sort.Local) × (s.context ≡ []) × IsFunctionOf types f c s
      × IsEnvironment types first (s.generics ++ c.parameters) at × IsInside types first c.parameters e at × NameStands W u i (map (close at) s.parameters) (close at s.result)

  abbrev NameSeen : Context → Environment → Function → Want TypeId → Type 0
  NameSeen c e f w = (u : Want TypeId) × Sees types first c.parameters e w u × Chosen c e f u

  module _ (c : Context) (e : Environment) (place : IsEnvironment types first c.parameters e) where
    abbrev Known : Function → Signature → TypeId → Type 0
    Known f s t = (s.sort ≡ sort.Local) × (s.context ≡ []) × IsFunctionOf types f c s × Parts types first c s × (head_at types t ≡ member.Function s.parameters s.result) × MentionsOnly (head_at types) (s.generics ++ c.parameters) t

    function_head : (s : Signature) (t : TypeId) (at_ : Environment) → head_at types t ≡ member.Function s.parameters s.result → head (close at_ t) ≡ member.Function (map (close at_) s.parameters) (close at_ s.result)
    function_head s t at_ q = at (head_at types) head (closing types first past at_) t (member.Function s.parameters s.result) q refl

    -- a name that nothing uses
    unused_seen : (f : Function) (s : Signature) (w : Want TypeId) → (s.sort ≡ sort.Local) → (s.context ≡ []) → IsFunctionOf types f c s → w ≡ Anything → NameSeen c e f w
    unused_seen f s w l k is q = (
      Anything,
      subst (λ (w : Want TypeId). Sees types first c.parameters e w Anything) (sym q) refl,
      λ i. (s, e, l, k, is, environment_more types first c.parameters s.generics e place, λ v h. refl, inl refl),
    )

    seen_as : (vs : List ℕ) (f : Function) (s : Signature) (t : TypeId) → s.generics ≡ vs → Known f s t → NameSeen c e f (generic (head_at types) vs t)
    seen_as [] f s t g k = (
      Of (close e t),
      (close e t, refl, sees_self types first lawful c.parameters e t (subst (λ (ws : List ℕ). MentionsOnly (head_at types) (ws ++ c.parameters) t) g k.5)),
      λ i. (s, e, k.0, k.1, k.2, environment_more types first c.parameters s.generics e place, λ v h. refl, inr (close e t, function_head s t e k.4, refl)),
    )
    seen_as (v ∷ vs) f s t g k =
        let p : HasParameters types first c.parameters (v ∷ vs) = subst (λ (ws : List ℕ). HasParameters types first c.parameters ws) g k.3.parameters in (
          Generic (v ∷ vs) (coded e t),
          record {
            outer = c.parameters;
            at = e;
            around = place;
            inside = λ x h. refl;
            among = λ x h. h;
            parameters = p;
            mentions = subst (λ (ws : List ℕ). MentionsOnly (head_at types) (ws ++ c.parameters) t) g k.5;
            is = refl;
          },
          λ i. let b = instance_from types first (v ∷ vs) e t i.0 i.1 in
              let d = bound (v ∷ vs) b.0 e in (
                s,
                d,
                k.0,
                k.1,
                k.2,
                subst (λ (ws : List ℕ). IsEnvironment types first (ws ++ c.parameters) d) (sym g) (environment_bound types first c.parameters (v ∷ vs) b.0 e place b.2),
                inside_bound types first c.parameters (v ∷ vs) b.0 e p.fresh,
                ap head b.3 ∙ function_head s t d k.4,
              ),
        )

    name_seen : (f : Function) (s : Signature) (w : Want TypeId) → (s.sort ≡ sort.Local) → (s.context ≡ []) → IsFunctionOf types f c s → Parts types first c s → NameOf (head_at types) s w → NameSeen c e f w
    name_seen f s w l k is p (inl q) = unused_seen f s w l k is q
    name_seen f s w l k is p (inr o) =
        subst (NameSeen c e f) (sym o.2)
        (seen_as s.generics f s o.0 refl (l, k, is, p, o.1, function_mentions (head_at types) (s.generics ++ c.parameters) o.0 s.parameters s.result o.1 p.others p.result))

  -- the names of a group, and for each function where its body runs
  abbrev AllSeen : Context → Environment → List K3 → List (Want TypeId) → List (Want TypeId) → Type 0
  AllSeen c e [] [] [] = Unit {0}
  AllSeen c e (f ∷ fs) (w ∷ ws) (u ∷ us) = (Sees types first c.parameters e w u × Chosen c e f.0 u) × AllSeen c e fs ws us
  AllSeen c e _ _ _ = ⊥

  group_seen : (fs : List K3) (c : Context) (e : Environment) (ws : List (Want TypeId)) → IsEnvironment types first c.parameters e → Bounds types first graph c.parameters c.parameters → GroupStands (head_at types) (IsFunctionOf types) c (map (λ z. z.0) fs) ws
      → (us : List (Want TypeId)) × AllSeen c e fs ws us
  group_seen [] c e [] p b h = ([], tt)
  group_seen [] c e (w ∷ ws) p b h = absurd h
  group_seen (f ∷ fs) c e [] p b h = absurd h
  group_seen (f ∷ fs) c e (w ∷ ws) p b h =
      let s = h.0.0 in
      let k = name_seen c e p f.0 s w h.0.1 h.0.2 h.0.3 (f.1 c s b h.0.3).0 h.0.4 in
      let l = group_seen fs c e ws p b h.1 in
      (k.0 ∷ l.0, ((k.1, k.2), l.1))

  all_sees : (fs : List K3) (c : Context) (e : Environment) (ws us : List (Want TypeId)) → AllSeen c e fs ws us → SeesAll types first c.parameters e ws us
  all_sees [] c e [] [] h = tt
  all_sees [] c e [] (u ∷ us) h = absurd h
  all_sees [] c e (w ∷ ws) us h = absurd h
  all_sees (f ∷ fs) c e [] us h = absurd h
  all_sees (f ∷ fs) c e (w ∷ ws) [] h = absurd h
  all_sees (f ∷ fs) c e (w ∷ ws) (u ∷ us) h = (h.0.0, all_sees fs c e ws us h.1)

  functions_typed : (answers : AnswerTypes) (fs : List K3) (c : Context) (e : Environment) (ms ws us : List (Want TypeId)) → IsEnvironment types first c.parameters e → Bounds types first graph c.parameters c.parameters → SeesAll types first c.parameters e c.names ms
      → AllSeen c e fs ws us → FunctionsTyped W answers kinds (around_in types first e ms c) (group (map function (map (λ z. z.0) fs))) us
  functions_typed answers [] c e ms [] [] p b n h = tt
  functions_typed answers [] c e ms [] (u ∷ us) p b n h = absurd h
  functions_typed answers [] c e ms (w ∷ ws) us p b n h = absurd h
  functions_typed answers (f ∷ fs) c e ms [] us p b n h = absurd h
  functions_typed answers (f ∷ fs) c e ms (w ∷ ws) [] p b n h = absurd h
  functions_typed answers (f ∷ fs) c e ms (w ∷ ws) (u ∷ us) p b n h = (
    λ i. let k = h.0.1 i in
        let s = k.0 in
        let r = (f.1 c s b k.4).1 (still answers) e ms p n k.1 [] k.5 k.6 (sees_as types first (s.generics ++ c.parameters) k.1 s.context [] [] k.3 tt) (subst (λ x. in_sort x (still answers).may_call ≡ x) (sym k.2) refl) (inl k.2) in
        (map (close k.1) s.parameters, close k.1 s.result, r.1.0, k.7, r.1.1, r.1.2),
    functions_typed answers fs c e ms ws us p b n h.1,
  )

  -- ---- names

  abbrev NameClaim : Context → Environment → List (Want TypeId) → ℕ → Want TypeId → Type 0
  NameClaim c e ms x w = (u : Want TypeId) × (slice_get ms x ≡ Some u) × NameServes W u w

  name_typed : (c : Context) (e : Environment) (ms : List (Want TypeId)) (x : ℕ) (there u w : Want TypeId) → IsEnvironment types first c.parameters e → slice_get ms x ≡ Some u → Sees types first c.parameters e there u → NameGives (head_at types) there w
      → NameClaim c e ms x (close_want (close e) w)
  name_typed c e ms x Anything u w p q s g = (Anything, q ∙ ap Some s, subst (λ w. Serves head Anything (close_want (close e) w)) (sym g) tt)
  name_typed c e ms x (Of t) u w p q s g = (Of s.0, q ∙ ap Some s.1, subst (λ w. Serves head (Of s.0) (close_want (close e) w)) (sym g) s.2.1.1)
  name_typed c e ms x (CellOf t) u w p q s g = (CellOf s.0, q ∙ ap Some s.1, subst (λ w. Serves head (CellOf s.0) (close_want (close e) w)) (sym g) (s.2.1.1, s.2.1.0))
  name_typed c e ms x (FutureOf t) u w p q s g = (FutureOf (close e t), q ∙ ap Some s, subst (λ w. Serves head (FutureOf (close e t)) (close_want (close e) w)) (sym g) (reflexive head lawful (close e t)))
  name_typed c e ms x (KeptOf t) u w p q s g = (KeptOf s.0, q ∙ ap Some s.1, subst (λ w. Serves head (KeptOf s.0) (close_want (close e) w)) (sym g) (s.2.1.1, s.2.1.0))
  name_typed c e ms x (Generic vs t) u w p q s g =
      let at_ = with_arguments types first e vs g.0 s.at in
      let call : IsCall types first s.outer vs g.0 e = record { many = g.2; bounds = g.3; around = c.parameters; there = p } in
      let inner = entered types first past graph s.outer vs g.0 s.at e s.around s.inside s.parameters call in
      let same = instance_there types first past graph s.outer vs g.0 s.at e s.around s.inside s.parameters call t g.1 s.mentions g.4 in
      let args = arguments_bound types first e vs g.0 s.at in
      let d = bound vs (map (close e) g.0) s.at in
      let many = length_closed (close e) g.0 ∙ g.2 in
      let within = (subst (λ (z : Environment). IsEnvironment types first (vs ++ s.outer) z) args inner).within in
      let below = subst (λ (z : Environment). Below head (close z t) (close e g.1)) args same.1 in
      (Generic vs (coded s.at t), q ∙ ap Some s.is, inr_serves vs (coded s.at t) w (close d t) (instance_at types first vs (map (close e) g.0) s.at t many within) (subst (λ w. Serves head (Of (close d t)) (close_want (close e) w)) (sym g.5) below))
    where
      length_closed : (f : TypeId → TypeId) (ts : List TypeId) → length (map f ts) ≡ length ts
      length_closed f [] = refl
      length_closed f (t ∷ ts) = ap suc (length_closed f ts)

      inr_serves : (vs : List ℕ) (g : TypeId) (w : Want TypeId) (r : TypeId) → W.Instance vs g r → Serves head (Of r) (close_want (close e) w) → NameServes W (Generic vs g) (close_want (close e) w)
      inr_serves vs g w r i b = inr (r, i, b)

  -- ---- forms

  as_type : (answers : AnswerTypes) (c : Around) (x : Exp) (e : Environment) (w : Want TypeId) (t : TypeId) → w ≡ Of t → R answers c x (close_want (close e) w) → R answers c x (Of (close e t))
  as_type answers c x e w t q h = subst (λ w. R answers c x (close_want (close e) w)) q h

  bool_in : (e : Environment) (t : TypeId) → head_at types t ≡ node.Bool → head (close e t) ≡ node.Bool
  bool_in e t q = at (head_at types) head (closing types first past e) t node.Bool q refl

  unit_in : (e : Environment) (t : TypeId) → head_at types t ≡ node.Tuple [] → head (close e t) ≡ node.Tuple []
  unit_in e t q = at (head_at types) head (closing types first past e) t (node.Tuple []) q refl

  error_in : (e : Environment) (t : TypeId) → head_at types t ≡ node.Error → head (close e t) ≡ node.Error
  error_in e t q = at (head_at types) head (closing types first past e) t node.Error q refl

  never_in : (e : Environment) (t : TypeId) → head_at types t ≡ node.Bottom → head (close e t) ≡ node.Bottom
  never_in e t q = at (head_at types) head (closing types first past e) t node.Bottom q refl

  abbrev Seeing : Context → Environment → TypedPattern → TypeId → List (Want TypeId) → Type 0
  Seeing c e q t ns = (ls : List (Want TypeId)) × SeesAll types first c.parameters e ns ls × PatternTyped head (pattern q) (close e t) ls

  fine_label : (answers : AnswerTypes) (c : Context) (e : Environment) (ms : List (Want TypeId)) (t : TypeId) → Fine types first answers c e ms → Fine types first answers (tree.with_label t c) e ms
  fine_label answers c e ms t p = record { place = p.place; bounds = p.bounds; names = p.names; calls = p.calls; shared = p.shared }

  -- the operands of an update
  two_rise : (answers : AnswerTypes) (c : Around) (vs : List ℕ) (e : Environment) → IsEnvironment types first vs e → (x : Exp) (a b : Want TypeId) (us : List (Want TypeId)) (t : TypeId) → Rises types first past graph e (a ∷ b ∷ []) us → Serves (head_at types) (Of t) a → R answers c x (close_want (close e) b)
      → (l r : Want TypeId) × (us ≡ l ∷ r ∷ []) × Serves head (Of (close e t)) l × R answers c x r
  two_rise answers c vs e p x a b us t (inl q) s h = (close_want (close e) a, close_want (close e) b, sym q, serves_there vs e p (Of t) a s, h)
  two_rise answers c vs e p x a b us t (inr r) s h =
      let z : a ∷ b ∷ [] ≡ Of r.0 ∷ Of r.0 ∷ [] = r.2 in
      let left : a ≡ Of r.0 = cc in
      let right : b ≡ Of r.0 = cc in (
        Of r.1,
        Of r.1,
        r.4,
        serves_trans head lawful (Of (close e t)) (Of (close e r.0)) (Of r.1) (subst (λ w. Serves head (Of (close e t)) (close_want (close e) w)) left (serves_there vs e p (Of t) a s)) r.3,
        typed_sub W lawful answers kinds c x (Of (close e r.0)) (Of r.1) (subst (λ w. R answers c x (close_want (close e) w)) right h) r.3,
      )

  form_typed : (answers : AnswerTypes) (y : F.Form-F K0 K1 K2 K3 K4) (c : Context) (e : Environment) (ms : List (Want TypeId)) (w : Want TypeId) → IsPlain w → Fine types first answers c e ms
      → form_typing types (map-Form K0 K1 K2 K3 K4 Form Step Case Function TypedExpression (λ z. z.0) (λ z. z.0) (λ z. z.0) (λ z. z.0) (λ z. z.0) y) c w
      → R answers (around_in types first e ms c) (form_view (map-Form K0 K1 K2 K3 K4 Form Step Case Function TypedExpression (λ z. z.0) (λ z. z.0) (λ z. z.0) (λ z. z.0) (λ z. z.0) y)) (close_want (close e) w)
  form_typed answers (F.Constant l) c e ms w i p h = subst (λ w. HasValue W answers kinds (close_want (close e) w) (literal_value l)) (sym h.1) (literal_has types first past e answers kinds l h.0 h.2)
  form_typed answers (F.Name x) c e ms w i p h =
      let u = sees_at types first c.parameters e c.names ms x h.0 p.names h.1 in
      name_typed c e ms x h.0 u.0 w p.place u.1 u.2 h.2
  form_typed answers (F.Do a es) c e ms w i p h =
      let k = acts_there types first past graph e c ms a h.0 w p.shared h.1 in
      let es' = exps (map expression (map (λ (z : K4). z.0) es)) in
      inl (
        k.0,
        inl (c.body, close_want (close e) w, subst (λ (s : Sort). Acts W (context s (around_in types first e ms c)) a k.0 (close_want (close e) w)) (sym p.calls) k.1, serves_plain e w i),
        each_rises types first past graph e lawful answers kinds (around_in types first e ms c) es' h.0 k.0 k.2 (each_typed answers es c e ms h.0 p h.2),
      )
  form_typed answers (F.If x a b) c e ms w i p h = (close e h.1, bool_in e h.1 h.3, x.1 answers c e ms _ p h.4, a.1 answers c e ms w p h.5, b.1 answers c e ms w p h.6)
  form_typed answers (F.Switch token x xs) c e ms w i p h = (Of (close e h.1), x.1 answers c e ms _ p h.3, cases_typed answers xs c e ms h.1 w p h.4)
  form_typed answers (F.While x b) c e ms w i p h =
      (close e h.1, close e h.0, bool_in e h.1 h.4, unit_in e h.0 h.3, x.1 answers c e ms _ p h.5, as_type answers (around_in types first e ms c) (expression b.0) e w h.0 h.2 (b.1 answers c e ms w p h.6), serves_as e h.0 w h.2)
  form_typed answers (F.Loop b) c e ms w i p h = (
    Of (close e h.1),
    (lawful.flag, close e h.1, lawful.is_flag, unit_in e h.1 h.4, flag_fits W answers kinds lawful.flag true lawful.is_flag, b.1 answers c e ms _ p h.5, reflexive head lawful (close e h.1)),
    ([], refl, inl ([], inl (sort.Local, Of (close e h.0), (refl, (close e h.0, refl, never_in e h.0 h.3)), serves_as e h.0 w h.2), tt), tt),
  )
  form_typed answers (F.Repeat b x) c e ms w i p h =
      (close e h.1, close e h.0, bool_in e h.1 h.4, unit_in e h.0 h.3, x.1 answers c e ms _ p h.6, as_type answers (around_in types first e ms c) (expression b.0) e w h.0 h.2 (b.1 answers c e ms w p h.5), serves_as e h.0 w h.2)
  form_typed answers (F.For q x b) c e ms w i p h =
      let k : Seeing c e q h.2 h.3 = pattern_typed types first past graph lawful c.parameters e p.place q h.2 h.3 h.8 in (
        close e h.1,
        close e h.2,
        close e h.0,
        k.0,
        elements_there types first past e h.1 h.2 h.6,
        unit_in e h.0 h.5,
        x.1 answers c e ms _ p h.7,
        k.2,
        as_type answers (with_names k.0 (around_in types first e ms c)) (expression b.0) e w h.0 h.4 (b.1 answers (tree.with_names h.3 c) e (k.0 ++ ms) w (fine_names answers c e ms h.3 k.0 k.1 p) h.9),
        serves_as e h.0 w h.4,
      )
  form_typed answers (F.Label x) c e ms w i p h =
      (close e h.0, as_type answers (record { names = ms; labels = close e h.0 ∷ map (close e) c.labels }) (expression x.0) e w h.0 h.1 (x.1 answers (tree.with_label h.0 c) e ms w (fine_label answers c e ms h.0 p) h.2), serves_as e h.0 w h.1)
  form_typed answers (F.Try x q b) c e ms w i p h =
      let k : Seeing c e q h.1 h.2 = pattern_typed types first past graph lawful c.parameters e p.place q h.1 h.2 h.7 in
      (close e h.1, k.0, error_in e h.1 h.5, x.1 answers c e ms w p h.6, k.2, b.1 answers (tree.with_names h.2 c) e (k.0 ++ ms) w (fine_names answers c e ms h.2 k.0 k.1 p) h.8)
  form_typed answers (F.Update o x f) c e ms w i p h =
      let k = operates_there types first past graph e o (h.3 ∷ h.4 ∷ []) (Of h.2) h.7 in
      let r = two_rise answers (around_in types first e ms c) c.parameters e p.place (expression f.0) h.3 h.4 k.0 h.1 k.2 h.9 (f.1 answers c e ms h.4 p h.10) in (
        close e h.1,
        close e h.0,
        close e h.2,
        r.0,
        r.1,
        subst (λ (us : List (Want TypeId)). Operates W o us (Of (close e h.2))) r.2 k.1,
        x.1 answers c e ms _ p h.8,
        r.3,
        r.4,
        below_there types first past graph c.parameters e p.place h.2 h.1 h.11,
        unit_in e h.0 h.6,
        serves_as e h.0 w h.5,
      )
  form_typed answers (F.Block ss x) c e ms w i p h = block_typed answers ss x c e ms w p h.2

  -- ---- steps

  let_opens : (answers : AnswerTypes) (q : TypedPattern) (x : K4) (c : Context) (e : Environment) (ms ns : List (Want TypeId)) → Fine types first answers c e ms → step_typing types (F.Let q x.0) c ns → Opening answers c e ms ns (λ b. let_in (pattern q) (expression x.0) b)
  let_opens answers q x c e ms ns p (inl h) =
      let k : Seeing c e q h.0 ns = pattern_typed types first past graph lawful c.parameters e p.place q h.0 ns h.2 in
      (k.0, k.1, λ b. inl (expression x.0, pattern q, Of (close e h.0), refl, x.1 answers c e ms _ p h.1, k.2))
  let_opens answers q x c e ms ns p (inr h) = (
    FutureOf (close e h.0) ∷ [],
    sees_as types first c.parameters e ns (FutureOf h.0 ∷ []) (FutureOf (close e h.0) ∷ []) h.3 (refl, tt),
    λ b. inl (expression x.0, pattern q, FutureOf (close e h.0), refl, x.1 answers c e ms _ p h.1, subst (λ (r : Pat). BindsAt head r (FutureOf (close e h.0)) (FutureOf (close e h.0) ∷ [])) (sym h.2) refl),
  )

  -- a cell with a first value
  cell_opens : (answers : AnswerTypes) (c : Context) (e : Environment) (ms ns : List (Want TypeId)) (t : TypeId) (x : Exp) → MentionsOnly (head_at types) c.parameters t → ns ≡ CellOf t ∷ [] → R answers (around_in types first e ms c) x (Of (close e t)) → Opening answers c e ms ns (λ b. let_in Bind (Do action.New (AnExp x NoExp)) b)
  cell_opens answers c e ms ns t x m q h = (
    CellOf (close e t) ∷ [],
    sees_as types first c.parameters e ns (CellOf t ∷ []) (CellOf (close e t) ∷ []) q ((close e t, refl, sees_self types first lawful c.parameters e t m), tt),
    λ b. inl (Do action.New (AnExp x NoExp), Bind, CellOf (close e t), refl, inl (Of (close e t) ∷ [], inl (sort.Local, CellOf (close e t), (close e t, refl, refl), equal_self head lawful (close e t)), (h, tt)), refl),
  )

  step_opens : (answers : AnswerTypes) (y : F.Step-F K0 K1 K2 K3 K4) (c : Context) (e : Environment) (ms ns : List (Want TypeId)) → Fine types first answers c e ms
      → step_typing types (map-Step K0 K1 K2 K3 K4 Form Step Case Function TypedExpression (λ z. z.0) (λ z. z.0) (λ z. z.0) (λ z. z.0) (λ z. z.0) y) c ns
      → Opening answers c e ms ns (step_view (map-Step K0 K1 K2 K3 K4 Form Step Case Function TypedExpression (λ z. z.0) (λ z. z.0) (λ z. z.0) (λ z. z.0) (λ z. z.0) y))
  step_opens answers (F.Let q x) c e ms ns p h = let_opens answers q x c e ms ns p h
  step_opens answers (F.Var x) c e ms ns p h = cell_opens answers c e ms ns h.0 (expression x.0) h.1.1 h.3 (x.1 answers c e ms _ p h.2)
  step_opens answers (F.Stable n x) c e ms ns p h =
      let u = sees_at types first c.parameters e c.names ms n (KeptOf h.0) p.names h.1 in
      let r = u.2 in
      let kept : R answers (around_in types first e ms c) (kept_or n (expression x.0)) (Of (close e h.0)) = (
        KeptOf r.0,
        (KeptOf r.0, u.1 ∙ ap Some r.1, equal_self head lawful r.0),
        ([], (refl, refl), x.1 answers c e ms _ p h.2, (Of r.0 ∷ [], refl, (Of r.0, refl, r.2.1.1), tt)),
      ) in
      cell_opens answers c e ms ns h.0 (kept_or n (expression x.0)) r.2.0 h.3 kept
  step_opens answers (F.Functions fs) c e ms ns p h =
      let g = group_seen fs (tree.with_names ns c) e ns p.place p.bounds h in
      let s = all_sees fs (tree.with_names ns c) e ns g.0 g.1 in (
        g.0,
        s,
        λ b. inr (group (map function (map (λ (z : K3). z.0) fs)), refl, functions_typed answers fs (tree.with_names ns c) e (g.0 ++ ms) ns g.0 p.place p.bounds (sees_append types first c.parameters e ns g.0 c.names ms s p.names) g.1),
      )
  step_opens answers (F.Evaluate x) c e ms ns p h = ([], sees_as types first c.parameters e ns [] [] h.2 tt, λ b. inl (expression x.0, Wildcard, close_want (close e) h.0, refl, x.1 answers c e ms _ p h.1, wildcard_binds (close_want (close e) h.0)))

  -- ---- the tree

  form_case : (y : F.Form-F K0 K1 K2 K3 K4) → FormClaim (roll-Form (map-Form K0 K1 K2 K3 K4 Form Step Case Function TypedExpression (λ z. z.0) (λ z. z.0) (λ z. z.0) (λ z. z.0) (λ z. z.0) y))
  form_case y answers c e ms w i p h = subst (λ x. R answers (around_in types first e ms c) x (close_want (close e) w)) (sym (form_viewed _)) (form_typed answers y c e ms w i p ((rules.forms types _ c w).0 h))

  step_case : (y : F.Step-F K0 K1 K2 K3 K4) → StepClaim (roll-Step (map-Step K0 K1 K2 K3 K4 Form Step Case Function TypedExpression (λ z. z.0) (λ z. z.0) (λ z. z.0) (λ z. z.0) (λ z. z.0) y))
  step_case y answers c e ms ns p h = subst (λ (d : StepView). Opening answers c e ms ns d) (sym (step_viewed _)) (step_opens answers y c e ms ns p ((rules.steps types _ c ns).0 h))

  case_case : (y : F.Case-F K0 K1 K2 K3 K4) → CaseClaim (roll-Case (map-Case K0 K1 K2 K3 K4 Form Step Case Function TypedExpression (λ z. z.0) (λ z. z.0) (λ z. z.0) (λ z. z.0) (λ z. z.0) y))
  case_case y answers c e ms t w p h =
      let f : case_typing types (map-Case K0 K1 K2 K3 K4 Form Step Case Function TypedExpression (λ z. z.0) (λ z. z.0) (λ z. z.0) (λ z. z.0) (λ z. z.0) y) c t w = (rules.cases types _ c t w).0 h in
      let k : Seeing c e y.pattern t f.0 = pattern_typed types first past graph lawful c.parameters e p.place y.pattern t f.0 f.1 in
      subst (λ (x : CaseView). (ls : List (Want TypeId)) × PatternTyped head x.pattern (close e t) ls × R answers (with_names ls (around_in types first e ms c)) x.body (close_want (close e) w)) (sym (case_viewed _))
      (k.0, k.2, y.body.1 answers (tree.with_names f.0 c) e (k.0 ++ ms) w (fine_names answers c e ms f.0 k.0 k.1 p) f.2)

  scope_mentions : (vs : List ℕ) (ts : List TypeId) → Each (IsInScope types vs) ts → Each (MentionsOnly (head_at types) vs) ts
  scope_mentions vs [] h = tt
  scope_mentions vs (t ∷ ts) h = (h.0.1, scope_mentions vs ts h.1)

  function_case : (y : F.Function-F K0 K1 K2 K3 K4) → FunctionClaim (roll-Function (map-Function K0 K1 K2 K3 K4 Form Step Case Function TypedExpression (λ z. z.0) (λ z. z.0) (λ z. z.0) (λ z. z.0) (λ z. z.0) y))
  function_case y c s b h =
      let f : function_typing types (map-Function K0 K1 K2 K3 K4 Form Step Case Function TypedExpression (λ z. z.0) (λ z. z.0) (λ z. z.0) (λ z. z.0) (λ z. z.0) y) c s = (rules.functions types _ c s).0 h in
      let scoped = each_right (IsInScope types (s.generics ++ c.parameters)) y.type_parameters s.parameters f.4.1 in
      let parameters = has_parameters types first graph c.parameters y.type_parameters s.generics f.2 scoped.0 b in (
        record { parameters = parameters; result = f.4.0.1; others = scope_mentions (s.generics ++ c.parameters) s.parameters scoped.1 },
        λ answers e ms place names d us env ins ctx calls shared. subst (FunctionRuns answers ms us d s) (sym (function_viewed _))
            (let k = all_typed types first past graph lawful (s.generics ++ c.parameters) d env y.parameters s.parameters f.0 f.3 in
            let inside = all_inside types first lawful c.parameters s.generics e d ins (same_there types first past graph c.parameters e d ins) c.names ms names in
            let seen = sees_append types first (s.generics ++ c.parameters) d (s.context ++ f.0) (us ++ k.0) (map in_function c.names) (map in_function ms) (sees_append types first (s.generics ++ c.parameters) d s.context us f.0 k.0 ctx k.1) inside in
            let fine : Fine types first answers (tree.in_body s f.0 c) d ((us ++ k.0) ++ map in_function ms) = record { place = env; bounds = bounds_more types first graph c.parameters s.generics parameters; names = seen; calls = calls; shared = shared } in
            (f.1, (k.0, k.2, y.body.1 answers (tree.in_body s f.0 c) d ((us ++ k.0) ++ map in_function ms) (Of s.result) fine f.5))),
      )

  expression_case : (y : F.TypedExpression-F K0 K1 K2 K3 K4) → ExpressionClaim (roll-TypedExpression (map-TypedExpression K0 K1 K2 K3 K4 Form Step Case Function TypedExpression (λ z. z.0) (λ z. z.0) (λ z. z.0) (λ z. z.0) (λ z. z.0) y))
  expression_case y answers c e ms w p h =
      let f : expression_typing types (map-TypedExpression K0 K1 K2 K3 K4 Form Step Case Function TypedExpression (λ z. z.0) (λ z. z.0) (λ z. z.0) (λ z. z.0) (λ z. z.0) y) c w = (rules.expressions types _ c w).0 h in
      subst (λ x. R answers (around_in types first e ms c) x (close_want (close e) w)) (sym (expression_viewed _))
      (typed_sub W lawful answers kinds (around_in types first e ms c) (form y.form.0) (close_want (close e) f.0) (close_want (close e) w) (y.form.1 answers c e ms f.0 (own_plain f.0 y.of_type f.1) p f.3) (serves_there c.parameters e p.place f.0 w f.4))

  pub step_holds : (s : Step) → StepClaim s
  step_holds = ind-Step FormClaim StepClaim CaseClaim FunctionClaim ExpressionClaim
      (λ x y is. subst (λ z. FormClaim (roll-Form z)) is (form_case y))
      (λ x y is. subst (λ z. StepClaim (roll-Step z)) is (step_case y))
      (λ x y is. subst (λ z. CaseClaim (roll-Case z)) is (case_case y))
      (λ x y is. subst (λ z. FunctionClaim (roll-Function z)) is (function_case y))
      (λ x y is. subst (λ z. ExpressionClaim (roll-TypedExpression z)) is (expression_case y))

  pub function_holds : (f : Function) → FunctionClaim f
  function_holds = ind-Function FormClaim StepClaim CaseClaim FunctionClaim ExpressionClaim
      (λ x y is. subst (λ z. FormClaim (roll-Form z)) is (form_case y))
      (λ x y is. subst (λ z. StepClaim (roll-Step z)) is (step_case y))
      (λ x y is. subst (λ z. CaseClaim (roll-Case z)) is (case_case y))
      (λ x y is. subst (λ z. FunctionClaim (roll-Function z)) is (function_case y))
      (λ x y is. subst (λ z. ExpressionClaim (roll-TypedExpression z)) is (expression_case y))

  pub expression_holds : (x : TypedExpression) → ExpressionClaim x
  expression_holds = ind-TypedExpression FormClaim StepClaim CaseClaim FunctionClaim ExpressionClaim
      (λ x y is. subst (λ z. FormClaim (roll-Form z)) is (form_case y))
      (λ x y is. subst (λ z. StepClaim (roll-Step z)) is (step_case y))
      (λ x y is. subst (λ z. CaseClaim (roll-Case z)) is (case_case y))
      (λ x y is. subst (λ z. FunctionClaim (roll-Function z)) is (function_case y))
      (λ x y is. subst (λ z. ExpressionClaim (roll-TypedExpression z)) is (expression_case y))

-- the types of a function's signature are in the graph
abbrev ScopedClaim : List Slot → Function → Type 0
ScopedClaim types f = (c : Context) (s : Signature) → IsFunctionOf types f c s → IsInScope types (s.generics ++ c.parameters) s.result × Each (IsInScope types (s.generics ++ c.parameters)) s.parameters

pub signature_scoped : (types : List Slot) (f : Function) → ScopedClaim types f
signature_scoped types = ind-Function (λ x. Unit {0}) (λ x. Unit {0}) (λ x. Unit {0}) (ScopedClaim types) (λ x. Unit {0})
    (λ x y is. tt)
    (λ x y is. tt)
    (λ x y is. tt)
    (λ x y is. λ c s h.
    let f : function_typing types x c s = (rules.functions types x c s).0 h in
    (f.4.0, (each_right (IsInScope types (s.generics ++ c.parameters)) x.type_parameters s.parameters f.4.1).1))
    (λ x y is. tt)
