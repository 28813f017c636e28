-- An execution, from its entry on.
use Rattle.std.proofs.Common.{◌≡◌, ℕ, zero, suc, ◌+◌, ◌-◌, ◌<◌, ◌≤◌, List, [], ◌∷◌, ◌++◌, length, drop, Option, Some, None, refl, sym, ap, ◌∙◌, arith, cond}
use Rattle.std.specs.Prelude.{reverse, replicate}
use Rattle.std.proofs.lemmas.Bool.{lt-ltb, le-ltb}
use Rattle.std.proofs.lemmas.List.{drop_all, take_all, length-reverse, reverse-reverse}
use Rattle.wasm_tree.specs.declared.trap.Trap.{Trap}
use Rattle.wasm_tree.specs.declared.trap.Trap.TheVariants as trap
use Rattle.wasm_tree.specs.declared.types.FunctionType.{FunctionType}
use Rattle.wasm_tree.specs.declared.module_parts.Function.{Function}
use Rattle.wasm_tree.specs.declared.module_parts.Module.{Module}
use Rattle.wasm_tree.specs.Tree.{tree_of}
use Rattle.wasm_tree.specs.Valid.{grouped}
use Rattle.wasm_tree.specs.Exec.{ExecutionLimits, Host, Store, State, Answers, Refuses, Outcome, Falls, Branches, Returns, Traps, Stuck, Back, Fell, type_of, exec}
use Rattle.wasm_tree.specs.Frames.{defined, frame_words, arguments, optional, return_to, host_returns, enter_as, execute}
use Rattle.wasm_steps.specs.declared.step.Step.{Step}
use Rattle.wasm_steps.specs.declared.layout.BodyLayout.{BodyLayout}
use Rattle.wasm_steps.specs.Layout.{size, IsBodyLayout}
use Rattle.wasm_steps.specs.Moves.{Final, Done, Trapped, Astray, finish}
use Rattle.wasm_steps.specs.Follow.{Body}
use Rattle.wasm_steps.specs.Calls.{back, invoke, Runs}
use Rattle.wasm_steps.proofs.Loops.{state}
use Rattle.wasm_steps.proofs.Depth.{entered, called}
use Rattle.wasm_steps.proofs.Frames.{return_back, host_store}
use Rattle.wasm_machine.specs.Hosts.{Play, played}
use Rattle.wasm_machine.specs.Ran.{execute_with}

-- without arguments it is the definition's execution
pub executes : {World : Type 0} → (limits : ExecutionLimits) (m : Module) (host : Host World) (f : ℕ) (store : Store World) → execute_with limits m host f [] store ≡ execute limits m host f store
executes limits m host f store = refl

args_back : (n : ℕ) (t : FunctionType) (args : List ℕ) → length args ≡ length t.params → arguments t (reverse args) ≡ args
args_back n t args many = ap reverse (take_all (length t.params) (reverse args) (omega (arith, length-reverse args))) ∙ reverse-reverse args

-- no result is left of one that has none
values_of : Final Play → List ℕ
values_of (Done left store values) = values
values_of (Trapped cause store) = []
values_of Astray = []

none_left : (o : Outcome Play) → values_of (finish 0 o) ≡ []
unfolding values_of
none_left (Falls s v) = refl
none_left (Branches zero s v) = refl
none_left (Branches (suc l) s v) = refl
none_left (Returns s v) = refl
none_left (Traps cause store) = refl
none_left Stuck = refl

no_values : (o : Outcome Play) (left : ℕ) (store : Store Play) (values : List ℕ) → Done left store values ≡ finish 0 o → values ≡ []
unfolding values_of
no_values o left store values e = ap values_of e ∙ none_left o

module _ (limits : ExecutionLimits) (m : Module) (f : ℕ) (args : List ℕ) (t : FunctionType) (of_type : type_of m f ≡ Some t) (many : length args ≡ length t.params) (none : t.results ≡ []) (store : Store Play) where
  -- by what the function is
  by_kind : (d : Option Function) → defined m f ≡ d → execute_with limits m played f args store ≡ enter_as limits m played limits.stack (invoke limits m played) (Some t) d f limits.steps store (reverse args)
  by_kind d is =
      called limits m played limits.stack f limits.steps store (reverse args)
      ∙ ap (λ o. enter_as limits m played limits.stack (invoke limits m played) o (defined m f) f limits.steps store (reverse args)) of_type
      ∙ ap (λ o. enter_as limits m played limits.stack (invoke limits m played) (Some t) o f limits.steps store (reverse args)) is

  above : (n : ℕ) → drop (length t.params) (reverse args) ≡ []
  above n = drop_all (length t.params) (reverse args) (let e : length (reverse args) ≡ length args = length-reverse args in omega arith)

  -- the host's function
  pub host_gives : defined m f ≡ None → (result : Option ℕ) (memory : List ℕ) (world : Play) → length (optional result) ≡ 0 → played f args store.memory store.world ≡ Answers result memory world → execute_with limits m played f args store ≡ Back limits.steps (host_store store memory world) []
  host_gives is result memory world few answer =
      by_kind None is ∙ ap (host_returns t (reverse args) limits.steps store) (ap (λ xs. played f xs store.memory store.world) (args_back 0 t args many) ∙ answer)
      ∙ ap (λ vs. Back limits.steps (host_store store memory world) (optional result ++ vs)) (above 0)
      ∙ ap (λ vs. Back limits.steps (host_store store memory world) vs) (empty (optional result) few)
    where
      empty : (vs : List ℕ) → length vs ≡ 0 → vs ++ [] ≡ []
      empty [] e = refl
      empty (v ∷ vs) e = absurd (omega arith)

  pub host_traps : defined m f ≡ None → (world : Play) → played f args store.memory store.world ≡ Refuses world → execute_with limits m played f args store ≡ Fell trap.Host (host_store store store.memory world)
  host_traps is world answer = by_kind None is ∙ ap (host_returns t (reverse args) limits.steps store) (ap (λ xs. played f xs store.memory store.world) (args_back 0 t args many) ∙ answer)

  module _ (fn : Function) (steps : List Step) (layout : BodyLayout) (is : defined m f ≡ Some fn) (body : IsBodyLayout m steps t fn layout) where
    pub no_room : limits.stack < layout.words → execute_with limits m played f args store ≡ Fell trap.Stack store
    no_room less =
        by_kind (Some fn) is ∙ ap (λ b. cond b (Fell trap.Stack store) (entered limits m played (invoke limits m played (limits.stack - frame_words m t fn)) t fn limits.steps store (reverse args))) (lt-ltb _ _ (let e = body.words in omega arith))

    -- the first activation
    abbrev pub begin : State Play
    begin = state limits.steps store (args ++ replicate layout.locals 0)

    abbrev pub whole : Final Play
    whole = finish 0 (exec limits m (invoke limits m played (limits.stack - layout.words)) (tree_of fn.body) begin [])

    no_results : length t.results ≡ 0
    no_results = ap length none

    pub comes_to : layout.words ≤ limits.stack → execute_with limits m played f args store ≡ back t (reverse args) whole
    comes_to enough =
        by_kind (Some fn) is
        ∙ ap (λ b. cond b (Fell trap.Stack store) (entered limits m played (invoke limits m played (limits.stack - frame_words m t fn)) t fn limits.steps store (reverse args))) (le-ltb _ _ (let e = body.words in omega arith))
        ∙ ap (λ n. entered limits m played (invoke limits m played (limits.stack - n)) t fn limits.steps store (reverse args)) (sym body.words)
        ∙ ap (λ xs. return_to t (reverse args) (exec limits m (invoke limits m played (limits.stack - layout.words)) (tree_of fn.body) (state limits.steps store xs) [])) (ap (λ xs. xs ++ replicate (length (grouped fn.locals)) 0) (args_back 0 t args many) ∙ ap (λ n. args ++ replicate n 0) (sym body.locals))
        ∙ return_back t (reverse args) (exec limits m (invoke limits m played (limits.stack - layout.words)) (tree_of fn.body) begin [])
        ∙ ap (λ n. back t (reverse args) (finish n (exec limits m (invoke limits m played (limits.stack - layout.words)) (tree_of fn.body) begin []))) no_results

    pub ends_back : layout.words ≤ limits.stack → (left : ℕ) (after : Store Play) (values : List ℕ) → Done left after values ≡ whole → execute_with limits m played f args store ≡ Back left after []
    ends_back enough left after values e =
        comes_to enough ∙ ap (back t (reverse args)) (sym e)
        ∙ ap (λ vs. Back left after (vs ++ drop (length t.params) (reverse args))) (no_values (exec limits m (invoke limits m played (limits.stack - layout.words)) (tree_of fn.body) begin []) left after values e)
        ∙ ap (λ vs. Back left after vs) (above 0)

    pub ends_fell : layout.words ≤ limits.stack → (cause : Trap) (after : Store Play) → Trapped cause after ≡ whole → execute_with limits m played f args store ≡ Fell cause after
    ends_fell enough cause after e = comes_to enough ∙ ap (back t (reverse args)) (sym e)

    -- the machine stands at its beginning
    pub runs_first : Runs limits m played steps whole [] (limits.stack - layout.words) (length t.params + layout.locals) layout.height layout.entry begin []
    runs_first = record {
      callers = [];
      here = whole;
      means = refl;
      keep = length t.results;
      few = omega (arith, no_results);
      stands = record {
        code = tree_of fn.body;
        around = Body (layout.entry + size (tree_of fn.body)) (length t.results);
        own = [];
        means = ap (λ n. finish n (exec limits m (invoke limits m played (limits.stack - layout.words)) (tree_of fn.body) begin [])) no_results;
        held = refl;
        laid = body.laid;
        kept = (body.ends, refl);
        ends = refl;
      };
      linked = tt;
    }
