-- The hook behind an upgrade: both executions call it, the typed program's behind the value of its declarations, and Core's before the tuple of their names.
use Rattle.std.proofs.Common.{◌≡◌, ◌⊎◌, inl, inr, ℕ, zero, suc, ◌+◌, ◌-◌, ◌*◌, ◌≤◌, Bool, true, List, [], ◌∷◌, ◌++◌, length, map, Option, Some, None, refl, sym, ap, ◌∙◌, subst, arith}
use Rattle.std.specs.Prelude.{max}
use Rattle.std.proofs.Math.Nat.{mul-le-mul_right}
use Rattle.mo_types.specs.declared.datum.Datum.TheVariants as part
use Rattle.mo_types.specs.Graph.{head_at}
use Rattle.mo_values.specs.declared.operation.Operation.TheVariants as op
use Rattle.mo_values.specs.Shapes.{Bytes, Tuple, Object}
use Rattle.mo_actor.specs.Executions.{Progress}
use Rattle.mo_actor.specs.Results.{IsPrefix}
use Rattle.core_ir.specs.Actor as core_actor
use Rattle.core_ir.specs.CoreMachine.{State, Waiting}
use Rattle.core_ir.specs.Executions as execution
use Rattle.core_ir.specs.Executions.{Stand}
use Rattle.core_ir.specs.Values as core_value
use Rattle.core_ir.specs.Worlds.{Context}
use Rattle.core_ir.specs.Expressions.{Core}
use Rattle.typed_tree.specs.declared.action.Action.TheVariants as action
use Rattle.typed_tree.specs.Language as source
use Rattle.typed_tree.specs.Language.{Exp, Functions, NoFunction, AFunction, Val, Name, Do, If, NoExp, AnExp, NoCase, ACase, then}
use Rattle.typed_tree.specs.Patterns.{Wildcard, NoPat}
use Rattle.typed_tree.specs.Programs.{Program}
use Rattle.typed_tree.specs.Substitution.{count, group_nodes}
use Rattle.mo_meaning.specs.Coding.{Types, Coding}
use Rattle.mo_meaning.specs.Configurations.{Surroundings}
use Rattle.mo_meaning.specs.Kernel.{Outgoing}
use Rattle.mo_meaning.specs.Saving.{alone}
use Rattle.mo_machine.specs.ActorLanguage.{Fields}
use Rattle.mo_machine.specs.Acts.{Store, Stuck, goes}
use Rattle.mo_machine.specs.Values.{Value, Made, Closure, gathered, load}
use Rattle.mo_machine.specs.Configurations.{Configuration, Breaks, Returns, Traps, End, Run, Still, Ended, live_on, live_state}
use Rattle.mo_machine.specs.Environments.{Environment, with_group}
use Rattle.mo_machine.specs.Frames as machine
use Rattle.mo_machine.specs.Frames.{Operands, Choosing, Switching, Returning, Joining, Stack, Focus, Eval, Ready, Give}
use Rattle.mo_machine.specs.Jumps.{leave, on_stack}
use Rattle.mo_machine.specs.Starting.{kept_value}
use Rattle.mo_machine.specs.Turns.{turn, step, steps, then_steps}
use Rattle.elaboration.specs.Meeting.{MeetEach}
use Rattle.elaboration.specs.Programs.{elaborated}
use Rattle.elaboration_values.specs.Belonging.{Known, EachBelongs}
use Rattle.elaboration_steps.specs.Stacks.{owed}
use Rattle.elaboration_steps.specs.Follows.{HandlerMeets, Suits, ParametersMeet}
use Rattle.elaboration_runs.specs.Ending.{Covers}
use Rattle.elaboration_runs.specs.Entering.{Function, function_in}
use Rattle.elaboration_runs.specs.Whole.{Serves}
use Rattle.elaboration_actors.specs.Bodies.{reached}
use Rattle.elaboration_starts.specs.Declarations as declarations
use Rattle.elaboration_starts.specs.Declarations.{names_from, made, finish}
use Rattle.elaboration_starts.specs.Starts.{ActorStands}
use Rattle.mo_meaning.specs.Depth.{live_all}
use Rattle.elaboration_starts.proofs.Alongside.{Joined, conf, live_names}
use Rattle.elaboration_starts.proofs.Endings as endings
use Rattle.elaboration_starts.proofs.Endings.{tuple_at}
use Rattle.elaboration_starts.proofs.Evaluating.{ended_stays, Way, name_there, steps_and}
use Rattle.elaboration_starts.proofs.Exporting as exporting
use Rattle.elaboration_starts.proofs.Exporting.{exported, method_values, hook_value, hook_called, Parts, parts_come, Called, Exports, hook_called_in, hook_left}
use Rattle.elaboration_starts.proofs.Hooking as hooking
use Rattle.elaboration_starts.proofs.Hooking.{Pair, Both, Over, Past, Left}
use Rattle.elaboration_starts.proofs.Closing.{Closes, closes_on, last_step, stopped}
use Rattle.elaboration_starts.proofs.Leading.{Leads, Here, Then, leads_steps}
use Rattle.elaboration_starts.proofs.Serving.{handlers, ready_suits, value_suits}
use Rattle.elaboration_starts.proofs.Showing as showing
use Rattle.elaboration_starts.proofs.Starting as starting
use Rattle.elaboration_starts.proofs.Starting.{Pays, AtEnds, SoundFrom}
use Rattle.elaboration_starts.proofs.Tails as tails
use Rattle.elaboration_starts.proofs.Tails.{quiet, given}

-- a hook has no parameters
hook_meets : (fns : Functions) (h : ℕ) (f : Function) → function_in fns h ≡ Some f → f.parameters ≡ NoPat → ParametersMeet fns h []
hook_meets NoFunction h f there e = tt
hook_meets (AFunction how nodes ps body fns) zero f there e = subst (λ ps. MeetEach ps []) (sym (parameters_of (record { nodes = nodes; parameters = ps; body = body }) there ∙ e)) tt
  where
    function_or : Function → Option Function → Function
    function_or d None = d
    function_or d (Some f) = f

    parameters_of : (g : Function) → Some g ≡ Some f → g.parameters ≡ f.parameters
    parameters_of g q = ap (λ (f : Function). f.parameters) (ap (function_or f) q)
hook_meets (AFunction how nodes ps body fns) (suc h) f there e = hook_meets fns h f there e

hook_suits : (fns : Functions) (h : ℕ) (f : Function) → function_in fns h ≡ Some f → f.parameters ≡ NoPat → (known : List Known) (ws : List core_value.Value) → EachBelongs known [] ws → ParametersMeet fns h ws
hook_suits fns h f there e known [] b = hook_meets fns h f there e
hook_suits fns h f there e known (w ∷ ws) b = absurd b

module _ (times : ℕ) (enough : 3 ≤ times) (coding : Coding) (types : Types) (p : Program) (own : Bytes) (head_is : (elaborated p).head ≡ head_at types) (a : ActorStands p)
    (kept : List (Option source.Value)) (ws : List core_value.Value) (upgraded : Bool) (many : length kept ≡ length p.stable) (belongs : (known : List Known) → EachBelongs known (map kept_value kept) ws) (extra floor : ℕ) (c1 : Configuration)
    (t : AtEnds times enough coding types p own head_is a kept ws upgraded many belongs extra floor c1) (sound : SoundFrom times enough coding types p own head_is a kept ws upgraded many belongs c1)
    (now : upgraded ≡ true) (h : ℕ) (f : Function) (there : function_in a.last h ≡ Some f) (plain : f.parameters ≡ NoPat) (one_is : a.after ≡ Some h) where
  abbrev code : Core
  code = elaborated p

  abbrev s : Surroundings
  s = alone coding types own

  abbrev context : Context
  context = starting.context times enough coding types p own head_is a

  abbrev X : Run → Progress Fields
  X = starting.X times enough coding types p own head_is a

  abbrev Y : Stand State Waiting → Progress core_actor.Fields
  Y = starting.Y times enough coding types p own head_is a

  abbrev B : Progress Fields → Progress core_actor.Fields → Type 0
  B = Pays times enough coding types p own head_is a extra floor

  abbrev T : Configuration → Type 0
  T = tails.T times enough coding types p own head_is a kept ws upgraded many belongs extra floor c1 t

  abbrev E : Type 0
  E = tails.E times enough coding types p own head_is a kept ws upgraded many belongs extra floor c1 t

  abbrev Cov : Run → Stand State Waiting → Type 0
  Cov = Covers code context p.nodes []

  abbrev env0 : Environment
  env0 = starting.env0 times enough coding types p own head_is a kept ws upgraded many belongs

  abbrev env1 : Environment
  env1 = with_group a.last t.env

  abbrev body : Focus
  body = Eval f.body env1

  free : owed t.l ≡ 0
  free = tails.free times enough coding types p own head_is a kept ws upgraded many belongs extra floor c1 t

  meets : (u : core_value.Value) → HandlerMeets t.l u
  meets = tails.meets times enough coding types p own head_is a kept ws upgraded many belongs extra floor c1 t

  -- ---- the typed program comes to the hook

  parts : Parts s env0 (length p.methods) a.last a.before a.after a.labels a.cells a.total a.parts t.env t.x t.d t.prints t.calls t.store t.k
  parts = parts_come s env0 (length p.methods) a.last a.before a.after a.labels a.cells a.total a.parts t.env t.under t.k t.x t.d t.prints t.calls t.store

  abbrev methods_value : Value
  methods_value = Made Tuple (gathered (method_values a.last t.env 0 (length p.methods)))

  abbrev before_value : Value
  before_value = hook_value a.last t.env a.before

  abbrev cells_value : Value
  cells_value = Made (Object a.labels) (gathered parts.held)

  abbrev all_value : Option ℕ → Value
  all_value o = exported a.last t.env (length p.methods) a.before o a.labels parts.held

  abbrev parts_at : Configuration
  parts_at = starting.parts_at times enough coding types p own head_is a kept ws upgraded many belongs extra floor c1 t

  valued : (r : Way s parts_at (Give (all_value (Some h))) t.k) × (t.x + group_nodes a.last + 7 ≤ r.weight) × (live_on t.k ≤ r.depth)
  valued = subst (λ o. (r : Way s parts_at (Give (all_value o)) t.k) × (t.x + group_nodes a.last + 7 ≤ r.weight) × (live_on t.k ≤ r.depth)) one_is (parts.way, parts.paid, parts.live)

  called : Called s t.prints t.calls t.store methods_value before_value cells_value a.last t.env h f there plain (valued.0).weight (valued.0).depth t.k t.l
  called = hook_called_in s t.prints t.calls t.store methods_value before_value cells_value a.last t.env h f there plain t.k t.l t.bases now (valued.0).weight (valued.0).depth

  abbrev above : Stack
  above = exporting.above s t.prints t.calls t.store methods_value before_value cells_value a.last t.env h f there plain called.n called.env

  abbrev one : Stack
  one = Returning f.nodes ∷ above

  abbrev x1 : ℕ
  x1 = called.way.weight

  abbrev real : Configuration
  real = conf x1 called.way.depth t.prints t.calls t.store body one

  abbrev moves : ℕ
  moves = t.so_far + ((valued.0).steps_to + called.way.steps_to)

  comes : steps s moves c1 ≡ Still real
  comes =
      steps_and s t.so_far ((valued.0).steps_to + called.way.steps_to) c1 parts_at t.first
      ∙ (steps_and s (valued.0).steps_to called.way.steps_to parts_at (conf (valued.0).weight (valued.0).depth t.prints t.calls t.store (Give (all_value (Some h))) t.k) (valued.0).by ∙ called.way.by)

  behind : (j : ℕ) → steps s (moves + j) c1 ≡ steps s j real
  behind j = steps_and s moves j c1 real comes

  -- ---- Core comes there

  abbrev calls : Exp
  calls = Do action.Call (AnExp (Name h) NoExp)

  abbrev flag : Value
  flag = load (source.leaf (part.Flag true))

  abbrev choice : Exp
  choice = If (Val (source.leaf (part.Flag true))) calls (Val source.unit)

  abbrev names : Exp
  names = made op.MakeTuple (names_from (count a.last) a.total)

  abbrev in_let : Stack
  in_let = Switching (ACase Wildcard names NoCase) env1 ∷ t.l

  abbrev in_choice : Stack
  in_choice = Choosing calls (Val source.unit) env1 ∷ in_let

  abbrev below : Stack
  below = Joining ∷ in_let

  abbrev in_call : Stack
  in_call = Operands action.Call [] NoExp env1 ∷ below

  abbrev two : Stack
  two = Returning f.nodes ∷ below

  abbrev closure : Value
  closure = Closure a.last h t.env

  abbrev e0 : Exp
  e0 = finish a.last true (Some h) a.total

  abbrev w1 : ℕ
  w1 = t.w + (1 + group_nodes a.last)

  abbrev w2 : ℕ
  w2 = w1 + 1 + (1 + f.nodes + 0)

  abbrev d1 : ℕ
  d1 = max (max t.d' (live_state (Eval e0 t.env) t.l + 16 * 0)) (live_state (Eval (then choice names) env1) t.l)

  abbrev d2 : ℕ
  d2 = max (max d1 (live_state (Give flag) in_choice + 16 * 0)) (live_state (Eval calls env1) below)

  abbrev d3 : ℕ
  d3 = max (max d2 (live_state (Ready action.Call (closure ∷ [])) below + 16 * 0)) (live_state body two)

  abbrev C : ℕ → ℕ → Focus → Stack → Configuration
  C w d f k = conf w d t.prints t.calls t.store f k

  abbrev beside : Configuration
  beside = C w2 d3 body two

  within : suc h ≤ count a.last
  within = subst (λ o. declarations.HookWithin (count a.last) o) one_is a.parts.upgraded

  name_step : (w d : ℕ) → step s (C w d (Eval (Name h) env1) in_call) ≡ Still (C w d (Give closure) in_call)
  name_step w d = name_there s env1 h closure (exporting.group_at a.last t.env h within) w d t.prints t.calls t.store in_call

  call_step : (w d : ℕ) → step s (C w d (Ready action.Call (closure ∷ [])) below) ≡ Still (C (w + (1 + f.nodes + 0)) (max (max d (live_state (Ready action.Call (closure ∷ [])) below + 16 * 0)) (live_state body two)) body two)
  call_step w d = ap (λ a. turn s (C w d (Ready action.Call (closure ∷ [])) below) (on_stack t.store a below)) (hook_called t.store a.last t.env a.last h f there plain)

  ready_serves : (w d : ℕ) → Serves (C w d (Ready action.Call (closure ∷ [])) below)
  ready_serves w d = record { suits = λ known ws b. hook_suits a.last h f there plain known ws b; handles = λ known u b. meets u }

  leads : Leads s (C t.w t.d' (Eval e0 t.env) t.l) beside
  leads =
      Then _ (C w1 d1 (Eval (then choice names) env1) t.l) _ refl (quiet _ _ _ _ _ _ _ t.l meets) (omega arith) (omega arith) refl free
      (Then _ (C w1 d1 (Eval choice env1) in_let) _ refl (quiet _ _ _ _ _ _ _ t.l meets) (omega arith) (omega arith) refl free
      (Then _ (C w1 d1 (Eval (Val (source.leaf (part.Flag true))) env1) in_choice) _ refl (quiet _ _ _ _ _ _ _ in_let meets) (omega arith) (omega arith) refl free
      (Then _ (C w1 d1 (Give flag) in_choice) _ refl (quiet _ _ _ _ _ _ _ in_choice meets) (omega arith) (omega arith) refl free
      (Then _ (C (w1 + 1) d2 (Eval calls env1) below) _ refl (given _ _ _ _ _ _ _ in_let (λ known. tt) meets) (omega arith) (omega arith) refl free
      (Then _ (C (w1 + 1) d2 (Eval (Name h) env1) in_call) _ refl (quiet _ _ _ _ _ _ _ below meets) (omega arith) (omega arith) refl free
      (Then _ (C (w1 + 1) d2 (Give closure) in_call) _ (name_step (w1 + 1) d2) (quiet _ _ _ _ _ _ _ in_call meets) (omega arith) (omega arith) refl free
      (Then _ (C (w1 + 1) d2 (Ready action.Call (closure ∷ [])) below) _ refl (given _ _ _ _ _ _ _ below (λ known. tt) meets) (omega arith) (omega arith) refl free
      (Then _ beside _ (call_step (w1 + 1) d2) (ready_serves (w1 + 1) d2) (omega arith) (omega arith) refl free
      (Here _)))))))))

  -- ---- the body of the hook

  abbrev extra1 : ℕ
  extra1 = x1 - w2

  far : t.x + group_nodes a.last + 7 + (1 + f.nodes) ≤ x1
  far = let y : t.x + group_nodes a.last + 7 ≤ (valued.0).weight = valued.1 in let z : (valued.0).weight + (1 + f.nodes) ≤ x1 = called.paid in omega (arith, y, z)

  more : (x1 ≡ extra1 + w2) × (extra + 4 ≤ extra1)
  more = let o : extra + t.w ≤ suc t.x = t.paid in let z : t.x + group_nodes a.last + 7 + (1 + f.nodes) ≤ x1 = far in (omega (arith, o, z), omega (arith, o, z))

  bottom_live : live_on t.l ≡ 16 + called.n + 0
  bottom_live = called.live

  low : live_on two ≤ live_on one
  low = let z : live_on t.l ≡ 16 + called.n + 0 = bottom_live in omega (arith, z)

  deep_enough : max floor d3 ≤ called.way.depth
  deep_enough =
      let z : live_on t.l ≡ 16 + called.n + 0 = bottom_live in
      let y : live_state body one ≤ called.way.depth = called.deep in
      let x : (valued.0).depth ≤ called.way.depth = called.way.deeper in
      let o : t.d ≤ (valued.0).depth = (valued.0).deeper in
      let r : max floor t.d' ≤ t.d = t.shallow in
      omega (arith, z, y, x, o, r)

  above_deep : live_on above ≤ called.way.depth
  above_deep = let y : live_state body one ≤ called.way.depth = called.deep in omega (arith, y)

  below_deep : live_on below ≤ called.way.depth
  below_deep = let z : live_on t.l ≡ 16 + called.n + 0 = bottom_live in let y : live_state body one ≤ called.way.depth = called.deep in omega (arith, y, z)

  leaves_one : (store : Store) (v : Value) → leave store 0 v one ≡ goes store (Give v) above
  leaves_one store v = refl

  leaves_two : (store : Store) (v : Value) → leave store 0 v two ≡ goes store (Give v) below
  leaves_two store v = refl

  stays_one : (store : Store) (l : ℕ) (v : Value) → leave store (suc l) v one ≡ Stuck
  stays_one store l v = refl

  gives_one : (w d : ℕ) (prints : List Bytes) (calls : List Outgoing) (store : Store) (v : Value) → step s (conf w d prints calls store (Give v) one) ≡ Still (conf (w + 1) (max (max d (live_state (Give v) one + 16 * 0)) (live_state (Give v) above)) prints calls store (Give v) above)
  gives_one w d prints calls store v = refl

  gives_two : (w d : ℕ) (prints : List Bytes) (calls : List Outgoing) (store : Store) (v : Value) → step s (conf w d prints calls store (Give v) two) ≡ Still (conf (w + 1) (max (max d (live_state (Give v) two + 16 * 0)) (live_state (Give v) below)) prints calls store (Give v) below)
  gives_two w d prints calls store v = refl

  abbrev P2 : Run → Run → Type 0
  P2 = Pair s one two above below leaves_one leaves_two stays_one gives_one gives_two low extra1 (a.total + a.total) floor

  abbrev Q2 : Run → Run → Type 0
  Q2 = Past s one two above below leaves_one leaves_two stays_one gives_one gives_two low extra1 (a.total + a.total) floor

  abbrev PA : ℕ → Type 0
  PA j = hooking.PastAt s one two above below leaves_one leaves_two stays_one gives_one gives_two low extra1 (a.total + a.total) floor j real beside

  lock : (j : ℕ) → P2 (steps s j real) (steps s j beside) ⊎ PA j
  lock j =
      let r : a.total + a.total ≤ t.w = t.few_names in
      hooking.locked s one two above below leaves_one leaves_two stays_one gives_one gives_two low extra1 (a.total + a.total) floor j x1 w2 called.way.depth d3 t.prints t.calls t.store body [] (more.0) deep_enough (omega (arith, r)) above_deep below_deep
      (λ i c e. sound.inside (moves + i) c (behind i ∙ e)) (λ i c e. sound.whole (moves + i) c (behind i ∙ e))

  same_owed : (s0 : Stack) → owed (s0 ++ one) ≡ owed (s0 ++ two)
  same_owed [] = sym free
  same_owed (machine.Labelled ∷ s0) = ap (λ n. suc n) (same_owed s0)
  same_owed (machine.Trying p b e ∷ s0) = ap (λ n. suc n) (same_owed s0)
  same_owed (_ ∷ s0) = same_owed s0

  -- ---- behind the hook

  module _ (x w d d' : ℕ) (prints : List Bytes) (out : List Outgoing) (store : Store) (v : Value) (so_far : ℕ) (pays : x ≡ extra1 + w) (le : max floor d' ≤ d) (fw : a.total + a.total ≤ w) (n : live_on above ≤ d) (i : live_on below ≤ d)
      (reaches : steps s so_far real ≡ Still (conf x d prints out store (Give v) above)) where
    abbrev back : Configuration
    back = conf w d' prints out store (Give v) below

    left : Exports s (conf x d prints out store (Give v) above) (all_value (Some h))
    left = hook_left s prints out store methods_value before_value cells_value a.last t.env h f there plain called.n called.env v x d

    abbrev d4 : ℕ
    d4 = max (max d' (live_state (Give v) in_let + 16 * 0)) (live_state (Eval names env1) (Joining ∷ t.l))

    arrives_so : (o : Option ℕ) → Some h ≡ o → steps s (moves + (so_far + left.steps_to)) c1 ≡ Ended (conf left.weight left.depth prints out store (Give (all_value o)) []) (Returns (all_value o))
    arrives_so o e =
        subst (λ o. steps s (moves + (so_far + left.steps_to)) c1 ≡ Ended (conf left.weight left.depth prints out store (Give (all_value o)) []) (Returns (all_value o))) e
        (behind (so_far + left.steps_to) ∙ (steps_and s so_far left.steps_to real (conf x d prints out store (Give v) above) reaches ∙ left.by))

    g : E
    g = record {
      held = parts.held;
      cells_are = parts.cells_are;
      moves = moves + (so_far + left.steps_to);
      weight = left.weight;
      depth = left.depth;
      prints = prints;
      calls = out;
      store = store;
      arrives = arrives_so a.after (sym one_is);
      w = w + 2;
      d' = d4;
      env = env1;
      first_name = count a.last;
      l = Joining ∷ t.l;
      base = Joined t.l t.l (tails.l0 times enough coding types p own head_is a kept ws upgraded many belongs extra floor c1 t);
      there = tails.values_inside times enough coding types p own head_is a kept ws upgraded many belongs extra floor c1 t;
      rich =
          let z : suc x ≤ left.weight = left.heavier in
          let y : 3 * left.weight ≤ times * left.weight = mul-le-mul_right left.weight enough in
          let o : extra + 4 ≤ extra1 = more.1 in
          omega (arith, z, y, o, pays, fw);
      deep = let z : d ≤ left.depth = left.deeper in let m : live_all (names_from (count a.last) a.total) ≡ 0 = live_names (count a.last) a.total in omega (arith, z, le, i, m);
    }

    abbrev tuple : Configuration
    tuple = tuple_at times enough coding types p own head_is a kept ws upgraded many belongs extra floor c1 t g

    away : Leads s back tuple
    unfolding g
    away =
        Then _ (conf w d' prints out store (Give v) in_let) _ refl (given _ _ _ _ _ _ _ in_let (λ known. tt) meets) (omega arith) (omega arith) refl free
        (Then _ tuple _ refl (given _ _ _ _ _ _ _ t.l (λ known w b. (tt, tt)) meets) (omega arith) (omega arith) refl free
        (Here _))

    back_tail : T back
    unfolding g
    back_tail =
        tails.lead_tail times enough coding types p own head_is a kept ws upgraded many belongs extra floor c1 t back tuple away
        (tails.ending_early times enough coding types p own head_is a kept ws upgraded many belongs extra floor c1 t g) (tails.ending_tail times enough coding types p own head_is a kept ws upgraded many belongs extra floor c1 t g)

  -- the tail from where the hook was left
  record AfterHook (j : ℕ) : Type 0 where
    to : Configuration
    rest : ℕ
    is : steps s j beside ≡ steps s rest to
    tail : T to

  after_hook : (j : ℕ) → PA j → AfterHook j
  after_hook j r = by (steps s r.so_far real) (steps s r.so_far beside) refl refl r.past
    where
      by : (u v : Run) → steps s r.so_far real ≡ u → steps s r.so_far beside ≡ v → Q2 u v → AfterHook j
      by u u2 e q (Left x w d d' prints out store v pays le fw n i) = record {
        to = conf w d' prints out store (Give v) below;
        rest = r.rest_of;
        is = ap (λ i. steps s i beside) r.is ∙ steps_and s r.so_far r.rest_of beside (conf w d' prints out store (Give v) below) q;
        tail = back_tail x w d d' prints out store v r.so_far pays le fw n i e;
      }

  -- ---- both in the hook

  abbrev still_or : Configuration → Run → Configuration
  still_or d (Still c) = c
  still_or d (Ended c end) = d

  serves_both : (j : ℕ) (c : Configuration) (u v : Run) → steps s j real ≡ u → v ≡ Still c → P2 u v → Serves c
  serves_both j c u v q i (Both x w d d' prints out store g0 s0 pays le fw o m) = subst (λ (x : Configuration). Serves x) (ap (still_or c) i) (both g0 s0 (sound.serves (moves + j) (conf x d prints out store g0 (s0 ++ one)) (behind j ∙ q)))
    where
      suits_too : (known : List Known) (g : Focus) (s0 : Stack) → Suits known g (s0 ++ one) → Suits known g (s0 ++ two)
      suits_too known (Eval e env) s0 h = tt
      suits_too known (Ready a vs) s0 h = ready_suits one two meets known a vs s0 h
      suits_too known (Give v) [] h = tt
      suits_too known (Give v) (fr ∷ s0) h = value_suits one two meets known v fr s0 h

      both : (g0 : Focus) (s0 : Stack) → Serves (conf x d prints out store g0 (s0 ++ one)) → Serves (conf w d' prints out store g0 (s0 ++ two))
      both g0 s0 h = record { suits = λ known. suits_too known g0 s0 (h.suits known); handles = λ known u e. handlers one two meets s0 u (h.handles known u e) }
  serves_both j c u v q i (Over x w d d' prints out store g0 s0 end halts pays le) = absurd (let z : Ended (conf w d' prints out store g0 (s0 ++ two)) end ≡ Still c = i in cc)

  whole_both : (j : ℕ) (c : Configuration) (u v : Run) → steps s j real ≡ u → v ≡ Ended c Breaks → P2 u v → ⊥
  whole_both j c u v q i (Both x w d d' prints out store g0 s0 pays le fw o m) = let z : Still (conf w d' prints out store g0 (s0 ++ two)) ≡ Ended c Breaks = i in cc
  whole_both j c u v q i (Over x w d d' prints out store g0 s0 end halts pays le) =
      let y : end ≡ Breaks = starting.end_is times enough coding types p own head_is a (conf w d' prints out store g0 (s0 ++ two)) c end Breaks i in
      sound.whole (moves + j) (conf x d prints out store g0 (s0 ++ one)) (behind j ∙ (q ∙ ap (λ o. Ended (conf x d prints out store g0 (s0 ++ one)) o) y))

  shown_both : (j : ℕ) (u v : Run) → steps s j real ≡ u → P2 u v → (y : Stand State Waiting) → Cov v y → B (X u) (Y y)
  shown_both j u v q (Both x w d d' prints out store g0 s0 pays le fw o m) y c =
      let i : extra + 4 ≤ extra1 = more.1 in
      showing.both_shown times enough coding types p own head_is a extra floor x w d d' prints out store g0 (s0 ++ one) g0 (s0 ++ two) (omega (arith, i, pays)) le (same_owed s0)
      (subst (λ (r : Run). 2 * (reached r).weight + owed (reached r).stack ≤ times * (reached r).weight) (behind j ∙ q) (sound.light (moves + j))) y c
  shown_both j u v q (Over x w d d' prints out store g0 s0 end halts pays le) y c =
      let i : extra + 4 ≤ extra1 = more.1 in
      showing.ended_shown times enough coding types p own head_is a extra floor x w d d' prints out store g0 (s0 ++ one) g0 (s0 ++ two) (omega (arith, i, pays)) le (same_owed s0)
      (subst (λ (r : Run). 2 * (reached r).weight + owed (reached r).stack ≤ times * (reached r).weight) (behind j ∙ q) (sound.light (moves + j))) end halts y c

  hook_tail : T beside
  hook_tail = record {
    serves = λ j c e. serves j c e (lock j);
    whole = λ j c e. whole j c e (lock j);
    shown = λ j y c. shown j y c (lock j);
  }
    where
      serves : (j : ℕ) (c : Configuration) → steps s j beside ≡ Still c → P2 (steps s j real) (steps s j beside) ⊎ PA j → Serves c
      serves j c e (inl r) = serves_both j c (steps s j real) (steps s j beside) refl e r
      serves j c e (inr r) = let k = after_hook j r in k.tail.serves k.rest c (sym k.is ∙ e)

      whole : (j : ℕ) (c : Configuration) → steps s j beside ≡ Ended c Breaks → P2 (steps s j real) (steps s j beside) ⊎ PA j → ⊥
      whole j c e (inl r) = whole_both j c (steps s j real) (steps s j beside) refl e r
      whole j c e (inr r) = let k = after_hook j r in k.tail.whole k.rest c (sym k.is ∙ e)

      shown : (j : ℕ) (y : Stand State Waiting) → Cov (steps s j beside) y → P2 (steps s j real) (steps s j beside) ⊎ PA j → (m : ℕ) × B (X (steps s m c1)) (Y y)
      shown j y c (inl r) = (moves + j, subst (λ x. B (X x) (Y y)) (sym (behind j)) (shown_both j (steps s j real) (steps s j beside) refl r y c))
      shown j y c (inr r) = let k = after_hook j r in k.tail.shown k.rest y (subst (λ x. Cov x y) k.is c)

  -- ---- before the hook

  early : tails.Early times enough coding types p own head_is a kept ws upgraded many belongs extra floor c1 t beside
  early c b (execution.Still wy dy py wo st) k = (
    moves,
    subst (λ x. B (X x) (Y (execution.Still wy dy py wo st))) (sym comes)
        (starting.pays_with times enough coding types p own head_is a extra floor (Still real) wy dy py None (subst (λ ps. IsPrefix py ps) (sym b.prints) (k.0))
        (let z : wy ≤ 2 * c.weight + owed c.stack = k.1 in
        let y : owed c.stack ≡ 0 = b.owes in
        let x : c.weight ≤ w2 = b.light in
        let o : extra + 4 ≤ extra1 = more.1 in
        let i : x1 ≡ extra1 + w2 = more.0 in
        let m : 3 * x1 ≤ times * x1 = mul-le-mul_right x1 enough in
        omega (arith, z, y, x, o, i, m))
        (let z : dy ≤ c.depth = k.2 in let x : c.depth ≤ d3 = b.shallow in let y : max floor d3 ≤ called.way.depth = deep_enough in omega (arith, x, y, z)) tt tt),
  )
  early c b (execution.Over wy dy py wo e) k = absurd (starting.nothing_left times enough coding types p own head_is a (k.0) wy dy py wo (Still c) e c (k.2) refl)

  pub upgraded_tail : T (C t.w t.d' (Eval e0 t.env) t.l)
  upgraded_tail = tails.lead_tail times enough coding types p own head_is a kept ws upgraded many belongs extra floor c1 t (C t.w t.d' (Eval e0 t.env) t.l) beside leads early hook_tail

  -- ---- how it ends

  after_closes : (j : ℕ) → PA j → Closes s beside
  after_closes j r = by (steps s r.so_far real) (steps s r.so_far beside) refl refl r.past
    where
      by : (u v : Run) → steps s r.so_far real ≡ u → steps s r.so_far beside ≡ v → Q2 u v → Closes s beside
      by u u2 e q (Left x w d d' prints out store v pays le fw n i) =
          let l = leads_steps s (back x w d d' prints out store v r.so_far pays le fw n i e) (tuple x w d d' prints out store v r.so_far pays le fw n i e) (away x w d d' prints out store v r.so_far pays le fw n i e) in
          closes_on s r.so_far beside (back x w d d' prints out store v r.so_far pays le fw n i e) (λ m. steps_and s r.so_far m beside (back x w d d' prints out store v r.so_far pays le fw n i e) q)
          (closes_on s (l.0) (back x w d d' prints out store v r.so_far pays le fw n i e) (tuple x w d d' prints out store v r.so_far pays le fw n i e) (l.1)
          (endings.tail_closes times enough coding types p own head_is a kept ws upgraded many belongs extra floor c1 t (g x w d d' prints out store v r.so_far pays le fw n i e)))

  -- a trap in the hook
  trap_closes : (q : ℕ) (cl d0 : Configuration) (text : Bytes) → steps s q beside ≡ Still cl → step s cl ≡ Ended d0 (Traps text) → Closes s beside
  trap_closes q cl d0 text e i = by (steps s q real) (steps s q beside) refl e (lock q)
    where
      paired : (u v : Run) → steps s q real ≡ u → v ≡ Still cl → P2 u v → Closes s beside
      paired u v r o (Both x w d d' prints out store g0 s0 pays le fw k m) =
          let same : conf w d' prints out store g0 (s0 ++ two) ≡ cl = ap (still_or cl) o in
          stopped s q beside (conf w d' prints out store g0 (s0 ++ two)) d0 text (e ∙ ap (λ c. Still c) (sym same)) (ap (step s) same ∙ i)
          (hooking.plain_beside s one two above below leaves_one leaves_two stays_one gives_one gives_two low x w d d' prints out store g0 s0 (sound.inside (moves + q) (conf x d prints out store g0 (s0 ++ one)) (behind q ∙ r))
          (λ c b. sound.whole (moves + q + 1) c (steps_and s (moves + q) 1 c1 (conf x d prints out store g0 (s0 ++ one)) (behind q ∙ r) ∙ ap (then_steps s (steps s 0)) b)) d0 text (ap (step s) same ∙ i))
      paired u v r o (Over x w d d' prints out store g0 s0 end halts pays le) = absurd (let z : Ended (conf w d' prints out store g0 (s0 ++ two)) end ≡ Still cl = o in cc)

      by : (u v : Run) → steps s q real ≡ u → v ≡ Still cl → P2 u v ⊎ PA q → Closes s beside
      by u v r o (inl k) = paired u v r o k
      by u v r o (inr k) = after_closes q k

  hook_closes : (m : ℕ) (d0 : Configuration) (end : End) → steps s m real ≡ Ended d0 end → Closes s beside
  hook_closes m d0 end e = by (lock m)
    where
      paired : (u v : Run) → steps s m real ≡ u → u ≡ Ended d0 end → steps s m beside ≡ v → P2 u v → Closes s beside
      paired u v q r o (Both x w d d' prints out store g0 s0 pays le fw k i) = absurd (let z : Still (conf x d prints out store g0 (s0 ++ one)) ≡ Ended d0 end = r in cc)
      paired u v q r o (Over x w d d' prints out store g0 s0 (Traps text) halts pays le) =
          let l = last_step s m beside (conf w d' prints out store g0 (s0 ++ two)) (Traps text) o in trap_closes (l.0) (l.1) (conf w d' prints out store g0 (s0 ++ two)) text (l.2) (l.3)
      paired u v q r o (Over x w d d' prints out store g0 s0 Breaks halts pays le) = absurd (sound.whole (moves + m) (conf x d prints out store g0 (s0 ++ one)) (behind m ∙ q))
      paired u v q r o (Over x w d d' prints out store g0 s0 _ halts pays le) = absurd halts

      by : P2 (steps s m real) (steps s m beside) ⊎ PA m → Closes s beside
      by (inl k) = paired (steps s m real) (steps s m beside) refl e refl k
      by (inr k) = after_closes m k

  pub upgraded_closes : (m : ℕ) (d0 : Configuration) (end : End) → steps s m c1 ≡ Ended d0 end → Closes s (C t.w t.d' (Eval e0 t.env) t.l)
  upgraded_closes m d0 end e =
      let l = leads_steps s (C t.w t.d' (Eval e0 t.env) t.l) beside leads in
      closes_on s (l.0) (C t.w t.d' (Eval e0 t.env) t.l) beside (l.1)
      (hook_closes m d0 end (sym (behind m) ∙ (ap (λ i. steps s i c1) (let z : moves + m ≡ m + moves = omega arith in z) ∙ ended_stays s m moves c1 d0 end e)))
