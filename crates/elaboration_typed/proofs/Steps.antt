-- A typed declaration is a `let` or a group of functions, of as many names as it declares; a typed function has a node.
use Rattle.std.proofs.Common.{◌≡◌, ◌⊎◌, inl, inr, ℕ, suc, ◌+◌, ◌*◌, ◌≤◌, List, [], ◌∷◌, ◌++◌, length, map, refl, sym, ap, ◌∙◌, subst, arith}
use Rattle.mo_types.specs.declared.node.TypeId.{TypeId}
use Rattle.mo_types.specs.Graph.{Slot, head_at}
use Rattle.typed_tree.specs.declared.action.Action.TheVariants as action
use Rattle.typed_tree.specs.declared.expression.Form.{Form}
use Rattle.typed_tree.specs.declared.expression.Form.TheOpen as F
use Rattle.typed_tree.specs.declared.expression.Step.{Step, roll-Step, ind-Step, fold-roll-Step}
use Rattle.typed_tree.specs.declared.expression.Case.{Case}
use Rattle.typed_tree.specs.declared.expression.Function.{Function, roll-Function, ind-Function}
use Rattle.typed_tree.specs.declared.expression.TypedExpression.{TypedExpression, roll-TypedExpression, ind-TypedExpression, fold-roll-TypedExpression}
use Rattle.typed_tree.specs.declared.pattern.TypedPattern.{TypedPattern}
use Rattle.typed_tree.specs.ActionTypes.{Context}
use Rattle.typed_tree.specs.Language.{Exp, Functions, NoFunction, Do, Group, NoExp, AnExp, let_in}
use Rattle.typed_tree.specs.Nodes.{StepNodes, in_patterns, in_expression, in_step, in_list}
use Rattle.typed_tree.specs.Nodes as nodes
use Rattle.typed_tree.specs.Patterns.{Pat, Wildcard, Bind, NoPat}
use Rattle.typed_tree.specs.PatternTypes.{AllStand}
use Rattle.typed_tree.specs.PatternView.{pattern, patterns}
use Rattle.typed_tree.specs.Substitution.{count, group_nodes}
use Rattle.typed_tree.specs.Typing.{Signature, with_names, GroupStands, Declares, IsFunctionOf}
use Rattle.typed_tree.specs.TypingLaws.{step_typing, function_typing}
use Rattle.typed_tree.specs.View.{FunctionView, StepView, group, block, kept_or, expression, declaration, function}
use Rattle.typed_tree.specs.Wants.{Want}
use Rattle.typed_tree.proofs.Rules as rules
use Rattle.elaboration.specs.Checks.{Named}
use Rattle.elaboration_premises.proofs.Trees.{step_view, step_viewed, function_viewed, bound_by}
use Rattle.elaboration_starts.specs.Declarations.{DeclaresNothing, bound_in}
use Rattle.elaboration_starts.proofs.DeclaredCode.{bound_many}

-- ---- nodes

nodes_at : (x : F.TypedExpression-F Form Step Case Function TypedExpression) → 1 ≤ in_expression (roll-TypedExpression x)
unfolding in_expression
nodes_at x = subst (λ n. 1 ≤ n) (sym (fold-roll-TypedExpression ℕ StepNodes ℕ ℕ ℕ nodes.form_step nodes.step_step nodes.case_step nodes.function_step nodes.expression_step x)) (omega arith)

expression_nodes : (e : TypedExpression) → 1 ≤ in_expression e
expression_nodes = ind-TypedExpression (λ x. Unit {0}) (λ x. Unit {0}) (λ x. Unit {0}) (λ x. Unit {0}) (λ e. 1 ≤ in_expression e) (λ x y is. tt) (λ x y is. tt) (λ x y is. tt) (λ x y is. tt) (λ x y is. nodes_at x)

-- a declaration without a node is a group of no function
step_at_nodes : (x : F.Step-F Form Step Case Function TypedExpression) → (in_step (roll-Step x)).own ≡ 0 → (e : Exp) → step_view x e ≡ Group NoFunction e
unfolding in_step in_expression
step_at_nodes (F.Let p y) h e = absurd (subst (λ (n : StepNodes). n.own ≡ 0 → ⊥) (sym (fold-roll-Step ℕ StepNodes ℕ ℕ ℕ nodes.form_step nodes.step_step nodes.case_step nodes.function_step nodes.expression_step (F.Let p y))) (λ q. omega (arith, q)) h)
step_at_nodes (F.Var y) h e = absurd (subst (λ (n : StepNodes). n.own ≡ 0 → ⊥) (sym (fold-roll-Step ℕ StepNodes ℕ ℕ ℕ nodes.form_step nodes.step_step nodes.case_step nodes.function_step nodes.expression_step (F.Var y))) (λ q. omega (arith, q)) h)
step_at_nodes (F.Stable i y) h e = absurd (subst (λ (n : StepNodes). n.own ≡ 0 → ⊥) (sym (fold-roll-Step ℕ StepNodes ℕ ℕ ℕ nodes.form_step nodes.step_step nodes.case_step nodes.function_step nodes.expression_step (F.Stable i y))) (λ q. omega (arith, q)) h)
step_at_nodes (F.Functions []) h e = refl
step_at_nodes (F.Functions (f ∷ fs)) h e = absurd (subst (λ (n : StepNodes). n.own ≡ 0 → ⊥) (sym (fold-roll-Step ℕ StepNodes ℕ ℕ ℕ nodes.form_step nodes.step_step nodes.case_step nodes.function_step nodes.expression_step (F.Functions (f ∷ fs)))) (λ q. omega (arith, q)) h)
step_at_nodes (F.Evaluate y) h e =
    absurd (subst (λ (n : StepNodes). n.own ≡ 0 → ⊥) (sym (fold-roll-Step ℕ StepNodes ℕ ℕ ℕ nodes.form_step nodes.step_step nodes.case_step nodes.function_step nodes.expression_step (F.Evaluate y)))
    (λ q. let r : in_expression y ≡ 0 = q in let z : 1 ≤ in_expression y = expression_nodes y in omega (arith, r, z)) h)

step_nodes : (s : Step) → (in_step s).own ≡ 0 → (e : Exp) → declaration s e ≡ Group NoFunction e
step_nodes =
    ind-Step (λ x. Unit {0}) (λ s. (in_step s).own ≡ 0 → (e : Exp) → declaration s e ≡ Group NoFunction e) (λ x. Unit {0}) (λ x. Unit {0}) (λ x. Unit {0}) (λ x y is. tt) (λ x y is h e. ap (λ d. d e) (step_viewed x) ∙ step_at_nodes x h e) (λ x y is. tt)
    (λ x y is. tt) (λ x y is. tt)

nothing_more : (e : Exp) → DeclaresNothing e → DeclaresNothing (Group NoFunction e)
nothing_more (Group fns b) h = h
nothing_more _ h = absurd h

pub nothing_declared : (ds : List Step) → in_list ds ≡ 0 → (e : Exp) → DeclaresNothing e → DeclaresNothing (block (map declaration ds) e)
nothing_declared [] h e i = i
nothing_declared (d ∷ ds) h e i =
    let x : (in_step d).own + in_list ds ≡ 0 = h in
    subst DeclaresNothing (sym (step_nodes d (omega (arith, x)) (block (map declaration ds) e))) (nothing_more (block (map declaration ds) e) (nothing_declared ds (omega (arith, x)) e i))

module _ (types : List Slot) where
  -- ---- functions

  none_stand : (vs : List ℕ) (ps : List TypedPattern) (ts : List TypeId) (ns : List (Want TypeId)) → ts ≡ [] → AllStand types vs ps ts ns → ps ≡ []
  none_stand vs [] ts ns e h = refl
  none_stand vs (p ∷ ps) [] ns e h = absurd h
  none_stand vs (p ∷ ps) (t ∷ ts) ns e h = absurd cc

  -- it has a node, and without types of parameters it has no parameters
  pub record FunctionFacts (f : FunctionView) (g : Signature) : Type 0 where
    pub node : 1 ≤ f.nodes
    pub plain : g.parameters ≡ [] → f.parameters ≡ NoPat

  function_at : (x : F.Function-F Form Step Case Function TypedExpression) (c : Context) (g : Signature) → IsFunctionOf types (roll-Function x) c g → FunctionFacts (function (roll-Function x)) g
  function_at x c g h =
      let f : function_typing types x c g = (rules.functions types x c g).0 h in
      subst (λ v. FunctionFacts v g) (sym (function_viewed x)) (record {
        node = let y : in_patterns x.parameters + in_expression x.body ≤ 4 * x.nodes = f.6 in let z : 1 ≤ in_expression x.body = expression_nodes x.body in omega (arith, y, z);
        plain = λ e. ap patterns (none_stand (g.generics ++ c.parameters) x.parameters g.parameters f.0 e f.3);
      })

  pub function_facts : (f : Function) (c : Context) (g : Signature) → IsFunctionOf types f c g → FunctionFacts (function f) g
  function_facts = ind-Function (λ x. Unit {0}) (λ x. Unit {0}) (λ x. Unit {0}) (λ f. (c : Context) (g : Signature) → IsFunctionOf types f c g → FunctionFacts (function f) g) (λ x. Unit {0}) (λ x y is. tt) (λ x y is. tt) (λ x y is. tt) (λ x y is. function_at x) (λ x y is. tt)

  functions_counted : (fs : List Function) (c : Context) (ws : List (Want TypeId)) → GroupStands (head_at types) (IsFunctionOf types) c fs ws → (count (group (map function fs)) ≡ length ws) × (count (group (map function fs)) ≤ group_nodes (group (map function fs)))
  functions_counted [] c [] h = (refl, omega arith)
  functions_counted [] c (w ∷ ws) h = absurd h
  functions_counted (f ∷ fs) c [] h = absurd h
  functions_counted (f ∷ fs) c (w ∷ ws) h =
      let r = functions_counted fs c ws h.1 in
      let n : 1 ≤ (function f).nodes = (function_facts f c h.0.0 h.0.3).node in
      let m : count (group (map function fs)) ≤ group_nodes (group (map function fs)) = r.1 in
      (ap suc r.0, omega (arith, n, m))

  -- ---- declarations

  abbrev pub Opens : StepView → List (Want TypeId) → Type 0
  Opens d ns =
      ((p : Pat) × (x : Exp) × ((e : Exp) → d e ≡ let_in p x e) × (bound_in p ≡ length ns))
      ⊎ ((fns : Functions) × ((e : Exp) → d e ≡ Group fns e) × (count fns ≤ 1 + group_nodes fns) × (count fns ≡ length ns))

  opened : (x : F.Step-F Form Step Case Function TypedExpression) (c : Context) (ns : List (Want TypeId)) → step_typing types x c ns → Opens (step_view x) ns
  opened (F.Let p e) c ns (inl h) = inl (pattern p, expression e, (λ b. refl), sym (bound_many (pattern p) (Named 0) 1) ∙ bound_by types p c.parameters h.0 ns h.2 (Named 0) 1)
  opened (F.Let p e) c ns (inr h) = inl (pattern p, expression e, (λ b. refl), ap bound_in h.2 ∙ sym (ap length h.3))
  opened (F.Var e) c ns h = inl (Bind, Do action.New (AnExp (expression e) NoExp), (λ b. refl), sym (ap length h.3))
  opened (F.Stable y e) c ns h = inl (Bind, Do action.New (AnExp (kept_or y (expression e)) NoExp), (λ b. refl), sym (ap length h.3))
  opened (F.Functions fs) c ns h =
      let r = functions_counted fs (with_names ns c) ns h in
      let m : count (group (map function fs)) ≤ group_nodes (group (map function fs)) = r.1 in
      inr (group (map function fs), (λ b. refl), omega (arith, m), r.0)
  opened (F.Evaluate e) c ns h = inl (Wildcard, expression e, (λ b. refl), sym (ap length h.2))

  step_at : (x : F.Step-F Form Step Case Function TypedExpression) (c : Context) (ns : List (Want TypeId)) → Declares types (roll-Step x) c ns → Opens (declaration (roll-Step x)) ns
  step_at x c ns h = subst (λ d. Opens d ns) (sym (step_viewed x)) (opened x c ns ((rules.steps types x c ns).0 h))

  pub step_opens : (s : Step) (c : Context) (ns : List (Want TypeId)) → Declares types s c ns → Opens (declaration s) ns
  step_opens = ind-Step (λ x. Unit {0}) (λ s. (c : Context) (ns : List (Want TypeId)) → Declares types s c ns → Opens (declaration s) ns) (λ x. Unit {0}) (λ x. Unit {0}) (λ x. Unit {0}) (λ x y is. tt) (λ x y is. step_at x) (λ x y is. tt) (λ x y is. tt) (λ x y is. tt)
