-- The value of an actor's declarations: the functions of its methods, its hooks, and the cells of its stable variables.
use Rattle.std.proofs.Common.{◌≡◌, Bool, true, false, ℕ, zero, suc, ◌+◌, ◌*◌, ◌≤◌, List, [], ◌∷◌, length, Option, Some, None, slice_get, refl, sym, ap, ◌∙◌, subst, arith}
use Rattle.std.specs.Prelude.{max, cond}
use Rattle.std.specs.List.{AllByRecursion}
use Rattle.std.proofs.lemmas.Bool.{eq-eqb}
use Rattle.mo_values.specs.declared.operation.Operation.TheVariants as op
use Rattle.mo_values.specs.Costs.{weighing}
use Rattle.mo_values.specs.Messages.{only_if}
use Rattle.mo_values.specs.Shapes as shape
use Rattle.mo_values.specs.Shapes.{Bytes, Tuple, Object, Present, shapes}
use Rattle.mo_values.specs.Views as answer
use Rattle.typed_tree.specs.declared.action.Action.TheVariants as action
use Rattle.typed_tree.specs.Language.{Exp, Functions, NoFunction, AFunction, Name, Do, Group, NoExp, AnExp, NoCase, ACase, null, then}
use Rattle.typed_tree.specs.Patterns.{Wildcard, Bind, NoPat, matches_all}
use Rattle.typed_tree.specs.Substitution.{count, group_nodes}
use Rattle.mo_meaning.specs.Configurations.{Surroundings}
use Rattle.mo_meaning.specs.Kernel.{Outgoing}
use Rattle.mo_machine.specs.Values.{Value, Made, Closure, NoValue, AValue, gathered, shape_of, shapes_list}
use Rattle.mo_machine.specs.Values as values
use Rattle.mo_machine.specs.Acts.{Store, Goes, Stuck}
use Rattle.mo_machine.specs.Calls.{are_as_many, entered, entering, call_function}
use Rattle.mo_machine.specs.Environments.{Environment, at, extended, with_group}
use Rattle.mo_machine.specs.Environments as environment
use Rattle.mo_machine.specs.Configurations.{Configuration, Returns, Still, Ended, live_on, live_state}
use Rattle.mo_machine.specs.Exports.{function_at, function_or, part_at, values_in}
use Rattle.mo_machine.specs.Frames.{Operands, Switching, Returning, Joining, Stack, Focus, Eval, Ready, Give}
use Rattle.mo_machine.specs.Jumps.{on_stack}
use Rattle.mo_machine.specs.Turns.{turn, step, steps, then_steps}
use Rattle.elaboration_runs.specs.Entering.{Function, function_in}
use Rattle.elaboration_actors.specs.Saving.{CellsAt}
use Rattle.elaboration_starts.specs.Declarations as declarations
use Rattle.elaboration_starts.specs.Declarations.{names_from, names_of, hook_name, made}
use Rattle.elaboration_starts.proofs.Alongside.{Bases, Alone, Hooked, Joined, look_cases, look_for_hook, conf, Under, under_group}
use Rattle.elaboration_starts.proofs.Evaluating.{value_back, list_back, listed_gathered, at_front, is_there, Way, onward, one_way, step_way, steps_and, Evaluates, EvaluateAll, name_evaluates, literal_evaluates, operation_evaluates, tuple_evaluates, tuple_comes}

-- no hook is called
abbrev pub CallsNone : (upgraded : Bool) → Option ℕ → Type 0
CallsNone t None = Unit {0}
CallsNone true (Some h) = ⊥
CallsNone false (Some h) = Unit {0}

-- ---- the parts

abbrev pub method_values : Functions → Environment → ℕ → ℕ → List Value
method_values group env i zero = []
method_values group env i (suc n) = Closure group i env ∷ method_values group env (suc i) n

method_there : (group : Functions) (env : Environment) (i n j : ℕ) → suc j ≤ n → slice_get (method_values group env i n) j ≡ Some (Closure group (i + j) env)
method_there group env i zero j h = absurd (let y : ⊥ = omega (arith, h) in y)
method_there group env i (suc n) zero h = ap (λ k. Some (Closure group k env)) (let z : i ≡ i + 0 = omega arith in z)
method_there group env i (suc n) (suc j) h = method_there group env (suc i) n j (omega (arith, h)) ∙ ap (λ k. Some (Closure group k env)) (let z : suc i + j ≡ i + suc j = omega arith in z)

abbrev pub hook_value : Functions → Environment → Option ℕ → Value
hook_value group env None = values.null
hook_value group env (Some h) = Made Present (AValue (Closure group h env) NoValue)

-- a hook has no parameters
pub hook_called : (store : Store) (group : Functions) (env : Environment) (fns : Functions) (h : ℕ) (f : Function) → function_in fns h ≡ Some f → f.parameters ≡ NoPat
    → call_function store group env fns h [] ≡ Goes (weighing (1 + f.nodes + 0)) store (Eval f.body (with_group group env)) (Returning f.nodes ∷ [])
hook_called store group env NoFunction h f there e = absurd (let z : None ≡ Some f = there in cc)
hook_called store group env (AFunction how nodes ps body fns) zero f there e =
    subst (λ (f : Function). f.parameters ≡ NoPat → cond (are_as_many ps []) (entered store group env (entering nodes ps []) nodes body (matches_all ps [])) Stuck ≡ Goes (weighing (1 + f.nodes + 0)) store (Eval f.body (with_group group env)) (Returning f.nodes ∷ [])) (is there)
    (λ q. subst (λ ps. cond (are_as_many ps []) (entered store group env (entering nodes ps []) nodes body (matches_all ps [])) Stuck ≡ Goes (weighing (1 + nodes + 0)) store (Eval body (with_group group env)) (Returning nodes ∷ [])) (sym q) refl) e
  where
    function_or : Function → Option Function → Function
    function_or d None = d
    function_or d (Some f) = f

    is : Some (record { nodes = nodes; parameters = ps; body = body }) ≡ Some f → record { nodes = nodes; parameters = ps; body = body } ≡ f
    is q = ap (function_or f) q
hook_called store group env (AFunction how nodes ps body fns) (suc h) f there e = hook_called store group env fns h f there e

module _ (last : Functions) (env : Environment) (methods : ℕ) (before after : Option ℕ) (labels : List Bytes) (held : List Value) where
  abbrev pub exported : Value
  exported = Made Tuple (AValue (Made Tuple (gathered (method_values last env 0 methods))) (AValue (hook_value last env before) (AValue (hook_value last env after) (AValue (Made (Object labels) (gathered held)) NoValue))))

  pub cells_there : values_in (part_at 3 exported) ≡ held
  cells_there = listed_gathered held

  pub function_there : (i : ℕ) → suc i ≤ methods → function_at exported (Some i) ≡ Closure last i env
  function_there i h =
      ap (λ vs. function_or (slice_get vs i)) (listed_gathered (method_values last env 0 methods))
      ∙ ap function_or (method_there last env 0 methods i h ∙ ap (λ k. Some (Closure last k env)) (let z : 0 + i ≡ i = omega arith in z))

as_many_values : (env : Environment) (xs : List ℕ) (vs : List Value) → CellsAt env xs vs → length vs ≡ length xs
as_many_values env [] [] h = refl
as_many_values env [] (v ∷ vs) h = absurd h
as_many_values env (x ∷ xs) [] h = absurd h
as_many_values env (x ∷ xs) (v ∷ vs) h = ap (λ n. suc n) (as_many_values env xs vs (h.1))

values_found : (outer : Environment) (vs : List Value) (n : ℕ) → n ≤ length vs → (xs : List ℕ) → AllByRecursion (λ x. suc x ≤ n) xs → (us : List Value) × CellsAt (extended vs outer) xs us
values_found outer vs n le [] h = ([], tt)
values_found outer vs n le (x ∷ xs) h =
    let i : suc x ≤ n = h.0 in
    let f = is_there vs x (omega (arith, i, le)) in
    let r = values_found outer vs n le xs (h.1) in
    (f.0 ∷ r.0, (at_front vs outer x (f.0) (f.1), r.1))

many_listed : (vs : List Value) → length (shapes_list vs) ≡ length vs
many_listed [] = refl
many_listed (v ∷ vs) = ap (λ n. suc n) (many_listed vs)

-- the functions of a group by their places
closures_at : (group : Functions) (env : Environment) (fns : Functions) (i : ℕ) (others : Environment) (j : ℕ) → suc j ≤ count fns → at (environment.closures env group fns i others) j ≡ Some (Closure group (i + j) env)
closures_at group env NoFunction i others j h = absurd (let y : ⊥ = omega (arith, h) in y)
closures_at group env (AFunction how nodes ps body fns) i others zero h = ap (λ k. Some (Closure group k env)) (let z : i ≡ i + 0 = omega arith in z)
closures_at group env (AFunction how nodes ps body fns) i others (suc j) h =
    closures_at group env fns (suc i) others j (omega (arith, h)) ∙ ap (λ k. Some (Closure group k env)) (let z : suc i + j ≡ i + suc j = omega arith in z)

pub group_at : (fns : Functions) (env : Environment) (j : ℕ) → suc j ≤ count fns → at (with_group fns env) j ≡ Some (Closure fns j env)
group_at fns env j h = closures_at fns env fns 0 env j h ∙ ap (λ k. Some (Closure fns k env)) (let z : 0 + j ≡ j = omega arith in z)

module _ (s : Surroundings) where
  methods_evaluate : (fns : Functions) (env : Environment) (i n : ℕ) → i + n ≤ count fns → EvaluateAll s (with_group fns env) (names_from i n) (method_values fns env i n)
  methods_evaluate fns env i zero h = tt
  methods_evaluate fns env i (suc n) h = (name_evaluates s (with_group fns env) i (Closure fns i env) (group_at fns env i (omega (arith, h))), methods_evaluate fns env (suc i) n (omega (arith, h)))

  names_evaluate : (env : Environment) (xs : List ℕ) (vs : List Value) → CellsAt env xs vs → EvaluateAll s env (names_of xs) vs
  names_evaluate env [] [] h = tt
  names_evaluate env [] (v ∷ vs) h = absurd h
  names_evaluate env (x ∷ xs) [] h = absurd h
  names_evaluate env (x ∷ xs) (v ∷ vs) h = (name_evaluates s env x v (h.0), names_evaluate env xs vs (h.1))

  hook_evaluates : (fns : Functions) (env : Environment) (o : Option ℕ) → declarations.HookWithin (count fns) o → Evaluates s (with_group fns env) (hook_name o) (hook_value fns env o)
  hook_evaluates fns env None h = literal_evaluates s (with_group fns env) null
  hook_evaluates fns env (Some i) h =
      operation_evaluates s op.MakeOption (with_group fns env) (AnExp (Name i) NoExp) (Closure fns i env ∷ []) (shape.Made Present (shape.AShape (shape_of (Closure fns i env)) shape.NoShape))
      (name_evaluates s (with_group fns env) i (Closure fns i env) (group_at fns env i h), tt) refl

  object_evaluates : (env : Environment) (labels : List Bytes) (xs : List ℕ) (vs : List Value) → CellsAt env xs vs → length xs ≡ length labels → Evaluates s env (made (op.MakeObject labels) (names_of xs)) (Made (Object labels) (gathered vs))
  object_evaluates env labels xs vs h many =
      subst (λ x. Evaluates s env (made (op.MakeObject labels) (names_of xs)) (Made (Object labels) x)) (list_back vs)
      (operation_evaluates s (op.MakeObject labels) env (names_of xs) vs (shape.Made (Object labels) (shapes (shapes_list vs))) (names_evaluate env xs vs h)
      (ap (λ b. answer.given (only_if b labels) (λ ls. answer.Gives (shape.Made (Object ls) (shapes (shapes_list vs))))) (eq-eqb (length (shapes_list vs)) (length labels) (many_listed vs ∙ (as_many_values env xs vs h ∙ many)))))

  -- ---- the end

  -- it ends with this value
  pub record Exports (c : Configuration) (v : Value) : Type 0 where
    pub steps_to : ℕ
    pub weight : ℕ
    pub depth : ℕ
    pub by : steps s steps_to c ≡ Ended (conf weight depth c.prints c.calls c.store (Give v) []) (Returns v)
    pub heavier : suc c.weight ≤ weight
    pub deeper : c.depth ≤ depth

  before_exports : (c : Configuration) (f : Focus) (k : Stack) (v : Value) (r : Way s c f k) → Exports (conf r.weight r.depth c.prints c.calls c.store f k) v → Exports c v
  before_exports c f k v r q = record {
    steps_to = r.steps_to + q.steps_to;
    weight = q.weight;
    depth = q.depth;
    by = steps_and s r.steps_to q.steps_to c (conf r.weight r.depth c.prints c.calls c.store f k) r.by ∙ q.by;
    heavier = let a : c.weight ≤ r.weight = r.heavier in let b : suc r.weight ≤ q.weight = q.heavier in omega (arith, a, b);
    deeper = let a : c.depth ≤ r.depth = r.deeper in let b : r.depth ≤ q.depth = q.deeper in omega (arith, a, b);
  }

  step_exports : (c : Configuration) (w d : ℕ) (f : Focus) (k : Stack) (v : Value) → step s c ≡ Still (conf w d c.prints c.calls c.store f k) → c.weight ≤ w → c.depth ≤ d → Exports (conf w d c.prints c.calls c.store f k) v → Exports c v
  step_exports c w d f k v e h i q = record {
    steps_to = suc q.steps_to;
    weight = q.weight;
    depth = q.depth;
    by = ap (then_steps s (steps s q.steps_to)) e ∙ q.by;
    heavier = let b : suc w ≤ q.weight = q.heavier in omega (arith, h, b);
    deeper = let b : d ≤ q.depth = q.deeper in omega (arith, i, b);
  }

  module _ (prints : List Bytes) (calls : List Outgoing) (store : Store) where
    abbrev C : ℕ → ℕ → Focus → Stack → Configuration
    C w d f k = conf w d prints calls store f k

    -- behind the end of the body
    returned : (n : ℕ) (v : Value) (w d : ℕ) → Exports (C w d (Give v) (Returning n ∷ [])) v
    returned n v w d = record {
      steps_to = 2;
      weight = w + 1;
      depth = max (max d (live_state (Give v) (Returning n ∷ []) + 16 * 0)) (live_state (Give v) []);
      by = refl;
      heavier = omega arith;
      deeper = omega arith;
    }

    joined : (k : Stack) (v u : Value) (w d : ℕ) → ((w d : ℕ) → Exports (C w d (Give v) k) u) → Exports (C w d (Give v) (Joining ∷ k)) u
    joined k v u w d go = step_exports (C w d (Give v) (Joining ∷ k)) w d (Give v) k u refl (omega arith) (omega arith) (go w d)

    module _ (x y z : Value) where
      abbrev e : Value
      e = Made Tuple (AValue x (AValue y (AValue values.null (AValue z NoValue))))

      -- there is no hook behind an upgrade
      unhooked : (n : ℕ) (env : Environment) (w d : ℕ) → Exports (C w d (Give e) (Switching (ACase Bind look_for_hook NoCase) env ∷ Returning n ∷ [])) e
      unhooked n env w d =
          step_exports (C w d (Give e) start) (w + 2) d1 (Eval look_for_hook env1) (Joining ∷ Returning n ∷ []) e (ap (λ v. Still (C (w + 2) d1 (Eval look_for_hook (AValue v env)) (Joining ∷ Returning n ∷ []))) (value_back e)) (omega arith) (omega arith)
          (step_exports (C (w + 2) d1 (Eval look_for_hook env1) (Joining ∷ Returning n ∷ [])) (w + 2) d1 (Eval project env1) looking e refl (omega arith) (omega arith)
          (before_exports (C (w + 2) d1 (Eval project env1) looking) (Give values.null) looking e found
          (step_exports (C found.weight found.depth (Give values.null) looking) (found.weight + 2) d2 (Eval (Name 0) env1) (Joining ∷ Joining ∷ Returning n ∷ []) e refl (omega arith) (omega arith)
          (step_exports (C (found.weight + 2) d2 (Eval (Name 0) env1) (Joining ∷ Joining ∷ Returning n ∷ [])) (found.weight + 2) d2 (Give e) (Joining ∷ Joining ∷ Returning n ∷ []) e refl (omega arith) (omega arith)
          (joined (Joining ∷ Returning n ∷ []) e e (found.weight + 2) d2 (λ w d. joined (Returning n ∷ []) e e w d (λ w d. returned n e w d)))))))
        where
          start : Stack
          start = Switching (ACase Bind look_for_hook NoCase) env ∷ Returning n ∷ []

          env1 : Environment
          env1 = AValue e env

          project : Exp
          project = made (op.Project 2) (AnExp (Name 0) NoExp)

          d1 : ℕ
          d1 = max (max d (live_state (Give e) start + 16 * 0)) (live_state (Eval look_for_hook env1) (Joining ∷ Returning n ∷ []))

          looking : Stack
          looking = Switching look_cases env1 ∷ Joining ∷ Returning n ∷ []

          found : Way s (C (w + 2) d1 (Eval project env1) looking) (Give values.null) looking
          found =
              operation_evaluates s (op.Project 2) env1 (AnExp (Name 0) NoExp) (e ∷ []) (shape_of values.null) (name_evaluates s env1 0 e refl, tt) refl (w + 2) d1 prints calls store looking

          d2 : ℕ
          d2 = max (max found.depth (live_state (Give values.null) looking + 16 * 0)) (live_state (Eval (Name 0) env1) (Joining ∷ Joining ∷ Returning n ∷ []))

    -- a hook behind an upgrade is called, where this is one
    module _ (x y z : Value) (group : Functions) (around : Environment) (h : ℕ) (f : Function) (there : function_in group h ≡ Some f) (plain : f.parameters ≡ NoPat) where
      abbrev pub closure : Value
      closure = Closure group h around

      abbrev pub with_hook : Value
      with_hook = Made Tuple (AValue x (AValue y (AValue (Made Present (AValue closure NoValue)) (AValue z NoValue))))

      -- it stands above what gives the value of the declarations
      abbrev pub above : ℕ → Environment → Stack
      above n env = Switching (ACase Wildcard (Name 1) NoCase) (AValue closure (AValue with_hook env)) ∷ Joining ∷ Joining ∷ Returning n ∷ []

      pub record Called (w d : ℕ) (k l : Stack) : Type 0 where
        pub n : ℕ
        pub env : Environment
        pub way : Way s (C w d (Give with_hook) k) (Eval f.body (with_group group around)) (Returning f.nodes ∷ above n env)
        pub paid : w + (1 + f.nodes) ≤ way.weight
        pub live : live_on l ≡ 16 + n + 0
        pub deep : live_state (Eval f.body (with_group group around)) (Returning f.nodes ∷ above n env) ≤ way.depth

      module _ (n : ℕ) (env : Environment) (w d : ℕ) where
        abbrev start : Stack
        start = Switching (ACase Bind look_for_hook NoCase) env ∷ Returning n ∷ []

        abbrev env1 : Environment
        env1 = AValue with_hook env

        abbrev env2 : Environment
        env2 = AValue closure env1

        abbrev hook : Value
        hook = Made Present (AValue closure NoValue)

        abbrev project : Exp
        project = made (op.Project 2) (AnExp (Name 0) NoExp)

        abbrev call : Exp
        call = Do action.Call (AnExp (Name 0) NoExp)

        abbrev both : Exp
        both = then call (Name 1)

        abbrev ready : Focus
        ready = Ready action.Call (closure ∷ [])

        abbrev body : Focus
        body = Eval f.body (with_group group around)

        abbrev bottom_of : Stack
        bottom_of = Returning f.nodes ∷ above n env

        abbrev d1 : ℕ
        d1 = max (max d (live_state (Give with_hook) start + 16 * 0)) (live_state (Eval look_for_hook env1) (Joining ∷ Returning n ∷ []))

        abbrev looking : Stack
        looking = Switching look_cases env1 ∷ Joining ∷ Returning n ∷ []

        found : Way s (C (w + 2) d1 (Eval project env1) looking) (Give hook) looking
        found = operation_evaluates s (op.Project 2) env1 (AnExp (Name 0) NoExp) (with_hook ∷ []) (shape_of hook) (name_evaluates s env1 0 with_hook refl, tt) refl (w + 2) d1 prints calls store looking

        abbrev d2 : ℕ
        d2 = max (max found.depth (live_state (Give hook) looking + 16 * 0)) (live_state (Eval both env2) (Joining ∷ Joining ∷ Returning n ∷ []))

        abbrev d3 : ℕ
        d3 = max (max d2 (live_state ready (above n env) + 16 * 0)) (live_state body bottom_of)

        the_way : Way s (C w d (Give with_hook) start) body bottom_of
        the_way =
            step_way s (C w d (Give with_hook) start) (w + 2) d1 (Eval look_for_hook env1) (Joining ∷ Returning n ∷ []) body bottom_of (ap (λ v. Still (C (w + 2) d1 (Eval look_for_hook (AValue v env)) (Joining ∷ Returning n ∷ []))) (value_back with_hook)) (omega arith) (omega arith)
            (step_way s (C (w + 2) d1 (Eval look_for_hook env1) (Joining ∷ Returning n ∷ [])) (w + 2) d1 (Eval project env1) looking body bottom_of refl (omega arith) (omega arith)
            (onward s (C (w + 2) d1 (Eval project env1) looking) (Give hook) looking body bottom_of found
            (step_way s (C found.weight found.depth (Give hook) looking) (found.weight + 4) d2 (Eval both env2) (Joining ∷ Joining ∷ Returning n ∷ []) body bottom_of refl (omega arith) (omega arith)
            (step_way s (C (found.weight + 4) d2 (Eval both env2) (Joining ∷ Joining ∷ Returning n ∷ [])) (found.weight + 4) d2 (Eval call env2) (above n env) body bottom_of refl (omega arith) (omega arith)
            (step_way s (C (found.weight + 4) d2 (Eval call env2) (above n env)) (found.weight + 4) d2 (Eval (Name 0) env2) (Operands action.Call [] NoExp env2 ∷ above n env) body bottom_of refl (omega arith) (omega arith)
            (step_way s (C (found.weight + 4) d2 (Eval (Name 0) env2) (Operands action.Call [] NoExp env2 ∷ above n env)) (found.weight + 4) d2 (Give closure) (Operands action.Call [] NoExp env2 ∷ above n env) body bottom_of refl (omega arith) (omega arith)
            (step_way s (C (found.weight + 4) d2 (Give closure) (Operands action.Call [] NoExp env2 ∷ above n env)) (found.weight + 4) d2 ready (above n env) body bottom_of refl (omega arith) (omega arith)
            (one_way s (C (found.weight + 4) d2 ready (above n env)) (found.weight + 4 + (1 + f.nodes + 0)) d3 body bottom_of (ap (λ a. turn s (C (found.weight + 4) d2 ready (above n env)) (on_stack store a (above n env))) (hook_called store group around group h f there plain)) (omega arith) (omega arith)))))))))

        calls_it : Called w d start (Returning n ∷ [])
        unfolding the_way step_way onward one_way
        calls_it = record {
          n = n;
          env = env;
          way = the_way;
          paid = let z : w + 2 ≤ found.weight = found.heavier in let y : the_way.weight ≡ found.weight + 4 + (1 + f.nodes + 0) = refl in omega (arith, y, z);
          live = refl;
          deep = let y : the_way.depth ≡ d3 = refl in omega (arith, y);
        }

      pub hook_called_in : {t : Bool} → (k l : Stack) → Bases t k l → t ≡ true → (w d : ℕ) → Called w d k l
      unfolding step_way
      hook_called_in k l (Alone n) e w d = absurd (let z : false ≡ true = e in cc)
      hook_called_in k l (Hooked n env) e w d = calls_it n env w d
      hook_called_in k l (Joined k' l' b) e w d = by (hook_called_in k' l' b e w d)
        where
          by : Called w d k' l' → Called w d (Joining ∷ k') (Joining ∷ l')
          by r = record {
            n = r.n;
            env = r.env;
            way = step_way s (C w d (Give with_hook) (Joining ∷ k')) w d (Give with_hook) k' (Eval f.body (with_group group around)) (Returning f.nodes ∷ above r.n r.env) refl (omega arith) (omega arith) r.way;
            paid = r.paid;
            live = let z : live_on l' ≡ 16 + r.n + 0 = r.live in omega (arith, z);
            deep = r.deep;
          }

      -- behind it
      pub hook_left : (n : ℕ) (env : Environment) (v : Value) (w d : ℕ) → Exports (C w d (Give v) (above n env)) with_hook
      hook_left n env v w d =
          step_exports (C w d (Give v) (above n env)) (w + 2) d1 (Eval (Name 1) env2) (Joining ∷ Joining ∷ Joining ∷ Returning n ∷ []) with_hook refl (omega arith) (omega arith)
          (step_exports (C (w + 2) d1 (Eval (Name 1) env2) (Joining ∷ Joining ∷ Joining ∷ Returning n ∷ [])) (w + 2) d1 (Give with_hook) (Joining ∷ Joining ∷ Joining ∷ Returning n ∷ []) with_hook refl (omega arith) (omega arith)
          (joined (Joining ∷ Joining ∷ Returning n ∷ []) with_hook with_hook (w + 2) d1 (λ w d. joined (Joining ∷ Returning n ∷ []) with_hook with_hook w d (λ w d. joined (Returning n ∷ []) with_hook with_hook w d (λ w d. returned n with_hook w d)))))
        where
          env2 : Environment
          env2 = AValue closure (AValue with_hook env)

          d1 : ℕ
          d1 = max (max d (live_state (Give v) (above n env) + 16 * 0)) (live_state (Eval (Name 1) env2) (Joining ∷ Joining ∷ Joining ∷ Returning n ∷ []))

    pub based : {t : Bool} → (x y z : Value) (last : Functions) (env : Environment) (o : Option ℕ) (k l : Stack) → Bases t k l → CallsNone t o → (w d : ℕ)
        → Exports (C w d (Give (Made Tuple (AValue x (AValue y (AValue (hook_value last env o) (AValue z NoValue)))))) k) (Made Tuple (AValue x (AValue y (AValue (hook_value last env o) (AValue z NoValue)))))
    based x y z last env o k l (Alone n) h w d = returned n _ w d
    based x y z last env None k l (Hooked n e) h w d = unhooked x y z n e w d
    based x y z last env (Some i) k l (Hooked n e) h w d = absurd h
    based x y z last env o k l (Joined k' l' b) h w d = joined k' _ _ w d (based x y z last env o k' l' b h)

  -- ---- all that stands behind the declarations

  module _ (outer : Environment) (methods : ℕ) (last : Functions) (before after : Option ℕ) (labels : List Bytes) (cells : List ℕ) (total : ℕ) (stand : declarations.PartsStand methods last before after labels cells total) where
    abbrev the_parts : Exp
    the_parts = declarations.parts methods last before after labels cells

    -- the parts have come to their value, in whose names its cells are
    pub record Parts (env : Environment) (w d : ℕ) (prints : List Bytes) (calls : List Outgoing) (store : Store) (k : Stack) : Type 0 where
      pub held : List Value
      pub cells_are : CellsAt (with_group last env) cells held
      pub way : Way s (conf w d prints calls store (Eval (Group last the_parts) env) k) (Give (exported last env methods before after labels held)) k
      pub paid : w + group_nodes last + 7 ≤ way.weight
      pub live : live_on k ≤ way.depth

    pub parts_come : (env : Environment) (u : Under outer total env) (k : Stack) (w d : ℕ) (prints : List Bytes) (calls : List Outgoing) (store : Store) → Parts env w d prints calls store k
    unfolding step_way
    parts_come env u k w d prints calls store = record {
      held = found.0;
      cells_are = there;
      way = step_way s (conf w d prints calls store (Eval (Group last the_parts) env) k) (w + (1 + group_nodes last)) d1 (Eval the_parts inner) k (Give (exported last env methods before after labels (found.0))) k refl (omega arith) (omega arith) (come.0);
      paid = let z : w + (1 + group_nodes last) + 6 ≤ (come.0).weight = come.1 in omega (arith, z);
      live = let z : d1 ≤ (come.0).depth = (come.0).deeper in omega (arith, z);
    }
      where
        inner : Environment
        inner = with_group last env

        v : Under outer (count last + total) inner
        v = under_group outer total env last u

        found : (us : List Value) × CellsAt (extended v.values outer) cells us
        found = values_found outer v.values (count last + total) (let z : length v.values ≡ count last + total = v.many in omega (arith, z)) cells stand.within

        there : CellsAt inner cells (found.0)
        there = subst (λ e. CellsAt e cells (found.0)) (sym v.is) (found.1)

        d1 : ℕ
        d1 = max (max d (live_state (Eval (Group last the_parts) env) k + 16 * 0)) (live_state (Eval the_parts inner) k)

        methods_value : Value
        methods_value = Made Tuple (gathered (method_values last env 0 methods))

        cells_value : Value
        cells_value = Made (Object labels) (gathered (found.0))

        come : (r : Way s (conf (w + (1 + group_nodes last)) d1 prints calls store (Eval the_parts inner) k) (Give (exported last env methods before after labels (found.0))) k) × (w + (1 + group_nodes last) + 6 ≤ r.weight)
        come =
            tuple_comes s inner (AnExp (made op.MakeTuple (names_from 0 methods)) (AnExp (hook_name before) (AnExp (hook_name after) (AnExp (made (op.MakeObject labels) (names_of cells)) NoExp))))
            (methods_value ∷ hook_value last env before ∷ hook_value last env after ∷ cells_value ∷ []) (
              tuple_evaluates s inner (names_from 0 methods) (method_values last env 0 methods) (methods_evaluate last env 0 methods (let z : methods ≤ count last = stand.enough in omega (arith, z))),
              (hook_evaluates last env before stand.hook, (hook_evaluates last env after stand.upgraded, (object_evaluates inner labels cells (found.0) there stand.as_many, tt))),
            ) (w + (1 + group_nodes last)) d1 prints calls store k

    -- the value that the declarations come to, where no hook is called
    pub record Whole (env : Environment) (w d : ℕ) (prints : List Bytes) (calls : List Outgoing) (store : Store) (k : Stack) : Type 0 where
      pub held : List Value
      pub cells_are : CellsAt (with_group last env) cells held
      pub steps_to : ℕ
      pub weight : ℕ
      pub depth : ℕ
      pub by : steps s steps_to (conf w d prints calls store (Eval (Group last the_parts) env) k) ≡ Ended (conf weight depth prints calls store (Give (exported last env methods before after labels held)) []) (Returns (exported last env methods before after labels held))
      pub heavier : w + group_nodes last + 8 ≤ weight
      pub deeper : d ≤ depth
      pub live : live_on k ≤ depth

    pub ends_whole : {t : Bool} → CallsNone t after → (env : Environment) (u : Under outer total env) (k l : Stack) → Bases t k l → (w d : ℕ) (prints : List Bytes) (calls : List Outgoing) (store : Store) → Whole env w d prints calls store k
    ends_whole calls_none env u k l base w d prints calls store = by (parts_come env u k w d prints calls store)
      where
        by : Parts env w d prints calls store k → Whole env w d prints calls store k
        by p = ended (based prints calls store _ _ _ last env after k l base calls_none p.way.weight p.way.depth)
          where
            e : Value
            e = exported last env methods before after labels p.held

            ended : Exports (conf p.way.weight p.way.depth prints calls store (Give e) k) e → Whole env w d prints calls store k
            ended q = record {
              held = p.held;
              cells_are = p.cells_are;
              steps_to = p.way.steps_to + q.steps_to;
              weight = q.weight;
              depth = q.depth;
              by = steps_and s p.way.steps_to q.steps_to (conf w d prints calls store (Eval (Group last the_parts) env) k) (conf p.way.weight p.way.depth prints calls store (Give e) k) p.way.by ∙ q.by;
              heavier = let z : suc p.way.weight ≤ q.weight = q.heavier in let y : w + group_nodes last + 7 ≤ p.way.weight = p.paid in omega (arith, y, z);
              deeper = let z : p.way.depth ≤ q.depth = q.deeper in let y : d ≤ p.way.depth = p.way.deeper in omega (arith, y, z);
              live = let z : p.way.depth ≤ q.depth = q.deeper in let y : live_on k ≤ p.way.depth = p.live in omega (arith, y, z);
            }
