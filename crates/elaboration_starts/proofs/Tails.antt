-- Behind the declarations of an actor where no hook is called: there is none behind an upgrade, or this is no upgrade.
use Rattle.std.proofs.Common.{◌≡◌, ◌⊎◌, inl, inr, ℕ, suc, ◌+◌, ◌*◌, ◌≤◌, Bool, false, List, [], ◌∷◌, length, map, Option, Some, None, slice_get, refl, sym, ap, ◌∙◌, subst, arith}
use Rattle.std.specs.Prelude.{max}
use Rattle.std.proofs.Math.Nat.{mul-le-mul_right}
use Rattle.mo_types.specs.declared.datum.Datum.TheVariants as part
use Rattle.mo_types.specs.Graph.{head_at}
use Rattle.mo_values.specs.declared.operation.Operation.TheVariants as op
use Rattle.mo_values.specs.Shapes.{Bytes}
use Rattle.mo_actor.specs.Executions.{Progress}
use Rattle.mo_actor.specs.Results.{IsPrefix}
use Rattle.core_ir.specs.Actor as core_actor
use Rattle.core_ir.specs.CoreMachine.{State, Waiting}
use Rattle.core_ir.specs.Executions as execution
use Rattle.core_ir.specs.Executions.{Stand}
use Rattle.core_ir.specs.Values as core_value
use Rattle.core_ir.specs.Worlds.{Context}
use Rattle.core_ir.specs.Expressions.{Core}
use Rattle.typed_tree.specs.declared.action.Action.TheVariants as action
use Rattle.typed_tree.specs.Language as source
use Rattle.typed_tree.specs.Language.{Exp, Functions, NoFunction, AFunction, Val, Name, Do, If, Group, NoExp, AnExp, NoCase, ACase, then}
use Rattle.typed_tree.specs.Patterns.{Wildcard}
use Rattle.typed_tree.specs.Programs.{Program}
use Rattle.typed_tree.specs.Substitution.{count, group_nodes}
use Rattle.mo_meaning.specs.Coding.{Types, Coding}
use Rattle.mo_meaning.specs.Configurations.{Surroundings}
use Rattle.mo_meaning.specs.Saving.{alone}
use Rattle.mo_machine.specs.ActorLanguage.{Fields}
use Rattle.mo_machine.specs.Values.{Value, load}
use Rattle.mo_machine.specs.Values as values
use Rattle.mo_machine.specs.Configurations.{Configuration, Breaks, Run, Still, Ended, live_on, live_state}
use Rattle.mo_machine.specs.Environments.{Environment, at, closures, with_group}
use Rattle.mo_machine.specs.Frames as machine
use Rattle.mo_machine.specs.Frames.{Choosing, Switching, Joining, Stack, Focus, Eval, Give}
use Rattle.mo_machine.specs.Starting.{kept_value}
use Rattle.mo_machine.specs.Turns.{steps}
use Rattle.elaboration.specs.Programs.{elaborated}
use Rattle.elaboration_values.specs.Belonging.{Known, EachBelongs}
use Rattle.elaboration_steps.specs.Stacks.{owed}
use Rattle.elaboration_steps.specs.Follows.{HandlerMeets, Suits}
use Rattle.elaboration_runs.specs.Ending.{Covers}
use Rattle.elaboration_runs.specs.Whole.{Serves}
use Rattle.elaboration_starts.specs.Declarations as declarations
use Rattle.elaboration_starts.specs.Declarations.{names_from, made, finish}
use Rattle.elaboration_starts.specs.Starts.{ActorStands}
use Rattle.mo_meaning.specs.Depth.{live_all}
use Rattle.elaboration_starts.proofs.Alongside.{Bases, Joined, conf, bottom, base_live, live_names}
use Rattle.elaboration_starts.proofs.Calm.{base_calm, owes_nothing}
use Rattle.elaboration_starts.proofs.Endings as endings
use Rattle.elaboration_starts.proofs.Endings.{Ending, tuple_at}
use Rattle.elaboration_starts.proofs.Evaluating.{at_front, steps_and}
use Rattle.elaboration_starts.proofs.Exporting.{CallsNone, Whole, ends_whole}
use Rattle.elaboration_starts.proofs.Closing.{Closes, closes_on}
use Rattle.elaboration_starts.proofs.Leading.{Leads, Here, Then, Before, on_the_way, leads_steps}
use Rattle.elaboration_starts.proofs.Serving.{base_handles}
use Rattle.elaboration_starts.proofs.Starting as starting
use Rattle.elaboration_starts.proofs.Starting.{Pays, AtEnds, Tail}

-- ---- names behind those of a group

closures_behind : (group fns : Functions) (env : Environment) (i : ℕ) (others : Environment) (j : ℕ) → at (closures env group fns i others) (count fns + j) ≡ at others j
closures_behind group NoFunction env i others j = ap (at others) (let z : 0 + j ≡ j = omega arith in z)
closures_behind group (AFunction how nodes ps body fns) env i others j =
    ap (at (closures env group (AFunction how nodes ps body fns) i others)) (let z : suc (count fns) + j ≡ suc (count fns + j) = omega arith in z) ∙ closures_behind group fns env (suc i) others j

pub behind_names : (fns : Functions) (env : Environment) (j : ℕ) → at (with_group fns env) (count fns + j) ≡ at env j
behind_names fns env j = closures_behind fns fns env 0 env j

-- ---- nothing is asked at these frames

pub quiet : (e : Exp) (env : Environment) (w d : ℕ) (prints : List Bytes) (calls : List _) (store : _) (k : Stack) → ((u : core_value.Value) → HandlerMeets k u) → Serves (conf w d prints calls store (Eval e env) k)
quiet e env w d prints calls store k h = record { suits = λ known. tt; handles = λ known u b. h u }

pub given : (v : Value) (w d : ℕ) (prints : List Bytes) (calls : List _) (store : _) (f : machine.Frame) (k : Stack) → ((known : List Known) → Suits known (Give v) (f ∷ k)) → ((u : core_value.Value) → HandlerMeets (f ∷ k) u) → Serves (conf w d prints calls store (Give v) (f ∷ k))
given v w d prints calls store f k suits h = record { suits = suits; handles = λ known u b. h u }

module _ (times : ℕ) (enough : 3 ≤ times) (coding : Coding) (types : Types) (p : Program) (own : Bytes) (head_is : (elaborated p).head ≡ head_at types) (a : ActorStands p)
    (kept : List (Option source.Value)) (ws : List core_value.Value) (upgraded : Bool) (many : length kept ≡ length p.stable) (belongs : (known : List Known) → EachBelongs known (map kept_value kept) ws) (extra floor : ℕ) (c1 : Configuration)
    (t : AtEnds times enough coding types p own head_is a kept ws upgraded many belongs extra floor c1) where
  abbrev code : Core
  code = elaborated p

  abbrev s : Surroundings
  s = alone coding types own

  abbrev context : Context
  context = starting.context times enough coding types p own head_is a

  abbrev X : Run → Progress Fields
  X = starting.X times enough coding types p own head_is a

  abbrev Y : Stand State Waiting → Progress core_actor.Fields
  Y = starting.Y times enough coding types p own head_is a

  abbrev B : Progress Fields → Progress core_actor.Fields → Type 0
  B = Pays times enough coding types p own head_is a extra floor

  abbrev pub T : Configuration → Type 0
  T = Tail times enough coding types p own head_is a kept ws upgraded many belongs extra floor c1

  abbrev pub E : Type 0
  E = Ending times enough coding types p own head_is a kept ws upgraded many belongs extra floor c1 t

  -- ---- tails

  -- before a configuration whose tail is followed
  abbrev pub Early : Configuration → Type 0
  Early c2 = (c : Configuration) → Before s c c2 → (y : Stand State Waiting) → Covers code context p.nodes [] (Still c) y → (m : ℕ) × B (X (steps s m c1)) (Y y)

  pub lead_tail : (c c2 : Configuration) → Leads s c c2 → Early c2 → T c2 → T c
  lead_tail c c2 l early tail = record {
    serves = λ i c3 e. serves i c3 e (on_the_way s i c c2 l);
    whole = λ i c3 e. whole i c3 e (on_the_way s i c c2 l);
    shown = λ i y h. shown i y h (on_the_way s i c c2 l);
  }
    where
      Way-there : ℕ → Type 0
      Way-there i = ((c3 : Configuration) × (steps s i c ≡ Still c3) × Before s c3 c2) ⊎ ((j : ℕ) × (steps s i c ≡ steps s j c2))

      still_or : Configuration → Run → Configuration
      still_or d (Still c) = c
      still_or d (Ended c end) = d

      serves : (i : ℕ) (c3 : Configuration) → steps s i c ≡ Still c3 → ((c4 : Configuration) × (steps s i c ≡ Still c4) × Before s c4 c2) ⊎ ((j : ℕ) × (steps s i c ≡ steps s j c2)) → Serves c3
      serves i c3 e (inl r) = subst (λ (x : Configuration). Serves x) (ap (still_or c3) (sym (r.1) ∙ e)) r.2.serves
      serves i c3 e (inr r) = tail.serves (r.0) c3 (sym (r.1) ∙ e)

      whole : (i : ℕ) (c3 : Configuration) → steps s i c ≡ Ended c3 Breaks → ((c4 : Configuration) × (steps s i c ≡ Still c4) × Before s c4 c2) ⊎ ((j : ℕ) × (steps s i c ≡ steps s j c2)) → ⊥
      whole i c3 e (inl r) = let z : Still (r.0) ≡ Ended c3 Breaks = sym (r.1) ∙ e in cc
      whole i c3 e (inr r) = tail.whole (r.0) c3 (sym (r.1) ∙ e)

      shown : (i : ℕ) (y : Stand State Waiting) → Covers code context p.nodes [] (steps s i c) y → ((c4 : Configuration) × (steps s i c ≡ Still c4) × Before s c4 c2) ⊎ ((j : ℕ) × (steps s i c ≡ steps s j c2)) → (m : ℕ) × B (X (steps s m c1)) (Y y)
      shown i y h (inl r) = early (r.0) (r.2) y (subst (λ x. Covers code context p.nodes [] x y) (r.1) h)
      shown i y h (inr r) = tail.shown (r.0) y (subst (λ x. Covers code context p.nodes [] x y) (r.1) h)

  pub ending_tail : (g : E) → T (tuple_at times enough coding types p own head_is a kept ws upgraded many belongs extra floor c1 t g)
  ending_tail g = record {
    serves = endings.tail_serves times enough coding types p own head_is a kept ws upgraded many belongs extra floor c1 t g;
    whole = endings.tail_whole times enough coding types p own head_is a kept ws upgraded many belongs extra floor c1 t g;
    shown = endings.tail_shown times enough coding types p own head_is a kept ws upgraded many belongs extra floor c1 t g;
  }

  -- the first is at its end
  pub ending_early : (g : E) → Early (tuple_at times enough coding types p own head_is a kept ws upgraded many belongs extra floor c1 t g)
  ending_early g c b (execution.Still wy dy py wo st) h = (
    g.moves,
    subst (λ x. B (X x) (Y (execution.Still wy dy py wo st))) (sym g.arrives)
        (endings.shows_at_end times enough coding types p own head_is a kept ws upgraded many belongs extra floor c1 t g c (let z : c.weight ≤ g.w = b.light in omega (arith, z)) (let z : c.depth ≤ g.d' = b.shallow in omega (arith, z)) (sym b.prints) b.owes wy dy py (h.0) (h.1) (h.2)),
  )
  ending_early g c b (execution.Over wy dy py wo e) h = absurd (starting.nothing_left times enough coding types p own head_is a (h.0) wy dy py wo (Still c) e c (h.2) refl)

  -- the first has begun with what stands behind the declarations
  pub ends_early : (o : Option ℕ) → Early (starting.ends_at times enough coding types p own head_is a kept ws upgraded many belongs extra floor c1 t o)
  ends_early o c b (execution.Still wy dy py wo st) h = (
    t.so_far + 1,
    subst (λ x. B (X x) (Y (execution.Still wy dy py wo st))) (sym begun)
        (starting.pays_with times enough coding types p own head_is a extra floor (Still next) wy dy py None (subst (λ ps. IsPrefix py ps) (sym b.prints) (h.0))
        (let z : wy ≤ 2 * c.weight + owed c.stack = h.1 in
        let y : owed c.stack ≡ 0 = b.owes in
        let x : c.weight ≤ t.w = b.light in
        let i : extra + t.w ≤ suc t.x = t.paid in
        let m : 3 * next.weight ≤ times * next.weight = mul-le-mul_right next.weight enough in
        omega (arith, z, y, x, i, m))
        (let z : dy ≤ c.depth = h.2 in let x : c.depth ≤ t.d' = b.shallow in let y : max floor t.d' ≤ t.d = t.shallow in omega (arith, x, y, z)) tt tt),
  )
    where
      next : Configuration
      next =
          conf (t.x + (1 + group_nodes a.last))
          (max (max t.d (live_state (Eval (Group a.last (declarations.parts (length p.methods) a.last a.before a.after a.labels a.cells)) t.env) t.k + 16 * 0)) (live_state (Eval (declarations.parts (length p.methods) a.last a.before a.after a.labels a.cells) (with_group a.last t.env)) t.k))
          t.prints t.calls t.store (Eval (declarations.parts (length p.methods) a.last a.before a.after a.labels a.cells) (with_group a.last t.env)) t.k

      begun : steps s (t.so_far + 1) c1 ≡ Still next
      begun = steps_and s t.so_far 1 c1 (starting.parts_at times enough coding types p own head_is a kept ws upgraded many belongs extra floor c1 t) t.first
  ends_early o c b (execution.Over wy dy py wo e) h = absurd (starting.nothing_left times enough coding types p own head_is a (h.0) wy dy py wo (Still c) e c (h.2) refl)

  -- ---- the first comes to its end by itself

  abbrev pub l0 : Bases false t.l t.l
  l0 = bottom t.k t.l t.bases

  pub free : owed t.l ≡ 0
  free = owes_nothing t.l (base_calm t.l t.l l0)

  pub meets : (u : core_value.Value) → HandlerMeets t.l u
  meets u = base_handles t.l t.l l0 u

  at_values : (j : ℕ) (u : Value) → slice_get t.under.values j ≡ Some u → at t.env j ≡ Some u
  at_values j u e = subst (λ env. at env j ≡ Some u) (sym t.under.is) (at_front t.under.values (starting.env0 times enough coding types p own head_is a kept ws upgraded many belongs) j u e)

  pub inner : Environment
  inner = with_group a.last t.env

  pub values_inside : (j : ℕ) (u : Value) → slice_get t.under.values j ≡ Some u → at (with_group a.last t.env) (count a.last + j) ≡ Some u
  values_inside j u e = behind_names a.last t.env j ∙ at_values j u e

  module _ (none : CallsNone upgraded a.after) where
    whole_end : Whole s (starting.env0 times enough coding types p own head_is a kept ws upgraded many belongs) (length p.methods) a.last a.before a.after a.labels a.cells a.total a.parts t.env t.x t.d t.prints t.calls t.store t.k
    whole_end = ends_whole s (starting.env0 times enough coding types p own head_is a kept ws upgraded many belongs) (length p.methods) a.last a.before a.after a.labels a.cells a.total a.parts none t.env t.under t.k t.l t.bases t.x t.d t.prints t.calls t.store

    -- beside a tuple that is made with so much weight, and so deep
    ended_with : (w d' : ℕ) (env : Environment) (first_name : ℕ) (l : Stack) → Bases false l l → ((j : ℕ) (u : Value) → slice_get t.under.values j ≡ Some u → at env (first_name + j) ≡ Some u)
        → extra + 2 * (w + (2 + a.total) + 1) ≤ 3 * (t.x + group_nodes a.last + 8) → max floor (max d' (live_on l)) ≤ max t.d (live_on t.k) → E
    ended_with w d' env first_name l base there rich deep =
        let e = whole_end in
        record {
          held = e.held;
          cells_are = e.cells_are;
          moves = t.so_far + e.steps_to;
          weight = e.weight;
          depth = e.depth;
          prints = t.prints;
          calls = t.calls;
          store = t.store;
          arrives = steps_and s t.so_far e.steps_to c1 (starting.parts_at times enough coding types p own head_is a kept ws upgraded many belongs extra floor c1 t) t.first ∙ e.by;
          w = w;
          d' = d';
          env = env;
          first_name = first_name;
          l = l;
          base = base;
          there = there;
          rich = let z : t.x + group_nodes a.last + 8 ≤ e.weight = e.heavier in let y : 3 * e.weight ≤ times * e.weight = mul-le-mul_right e.weight enough in omega (arith, y, z, rich);
          deep = let y : t.d ≤ e.depth = e.deeper in let z : live_on t.k ≤ e.depth = e.live in omega (arith, y, z, deep);
        }

    -- no hook
    pub unhooked : T (starting.ends_at times enough coding types p own head_is a kept ws upgraded many belongs extra floor c1 t None)
    unfolding ended_with
    unhooked =
        let o : extra + t.w ≤ suc t.x = t.paid in
        let r : a.total + a.total ≤ t.w = t.few_names in
        let z : max floor t.d' ≤ t.d = t.shallow in
        let y : live_on t.k ≡ live_on t.l = base_live t.k t.l t.bases in
        ending_tail (ended_with t.w t.d' t.env 0 t.l l0 (λ j u e. subst (λ m. at t.env m ≡ Some u) (let z : j ≡ 0 + j = omega arith in z) (at_values j u e)) (omega (arith, o, r)) (omega (arith, y, z)))

    pub unhooked_closes : Closes s (starting.ends_at times enough coding types p own head_is a kept ws upgraded many belongs extra floor c1 t None)
    unfolding ended_with
    unhooked_closes =
        let o : extra + t.w ≤ suc t.x = t.paid in
        let r : a.total + a.total ≤ t.w = t.few_names in
        let z : max floor t.d' ≤ t.d = t.shallow in
        let y : live_on t.k ≡ live_on t.l = base_live t.k t.l t.bases in
        endings.tail_closes times enough coding types p own head_is a kept ws upgraded many belongs extra floor c1 t
        (ended_with t.w t.d' t.env 0 t.l l0 (λ j u e. subst (λ m. at t.env m ≡ Some u) (let z : j ≡ 0 + j = omega arith in z) (at_values j u e)) (omega (arith, o, r)) (omega (arith, y, z)))

    -- one, and this is no upgrade
    module _ (h : ℕ) where
      abbrev calls : Exp
      calls = Do action.Call (AnExp (Name h) NoExp)

      abbrev flag : Value
      flag = load (source.leaf (part.Flag false))

      abbrev choice : Exp
      choice = If (Val (source.leaf (part.Flag false))) calls (Val source.unit)

      abbrev names : Exp
      names = made op.MakeTuple (names_from (count a.last) a.total)

      abbrev env1 : Environment
      env1 = with_group a.last t.env

      abbrev in_let : Stack
      in_let = Switching (ACase Wildcard names NoCase) env1 ∷ t.l

      abbrev in_choice : Stack
      in_choice = Choosing calls (Val source.unit) env1 ∷ in_let

      abbrev w1 : ℕ
      w1 = t.w + (1 + group_nodes a.last)

      abbrev e0 : Exp
      e0 = finish a.last false (Some h) a.total

      abbrev d1 : ℕ
      d1 = max (max t.d' (live_state (Eval e0 t.env) t.l + 16 * 0)) (live_state (Eval (then choice names) env1) t.l)

      abbrev d2 : ℕ
      d2 = max (max d1 (live_state (Give flag) in_choice + 16 * 0)) (live_state (Eval (Val source.unit) env1) (Joining ∷ in_let))

      abbrev d3 : ℕ
      d3 = max (max d2 (live_state (Give values.unit) in_let + 16 * 0)) (live_state (Eval names env1) (Joining ∷ t.l))

      abbrev C : ℕ → ℕ → Focus → Stack → Configuration
      C w d f k = conf w d t.prints t.calls t.store f k

      g : E
      g =
          let o : extra + t.w ≤ suc t.x = t.paid in
          let r : a.total + a.total ≤ t.w = t.few_names in
          let z : max floor t.d' ≤ t.d = t.shallow in
          let y : live_on t.k ≡ live_on t.l = base_live t.k t.l t.bases in
          let m : live_all (names_from (count a.last) a.total) ≡ 0 = live_names (count a.last) a.total in
          ended_with (w1 + 1 + 2) d3 env1 (count a.last) (Joining ∷ t.l) (Joined t.l t.l l0) values_inside (omega (arith, o, r)) (omega (arith, y, z, m))

      leads : Leads s (C t.w t.d' (Eval e0 t.env) t.l) (C (w1 + 1 + 2) d3 (Eval names env1) (Joining ∷ t.l))
      leads =
          Then _ (C w1 d1 (Eval (then choice names) env1) t.l) _ refl (quiet _ _ _ _ _ _ _ t.l meets) (omega arith) (omega arith) refl free
          (Then _ (C w1 d1 (Eval choice env1) in_let) _ refl (quiet _ _ _ _ _ _ _ t.l meets) (omega arith) (omega arith) refl free
          (Then _ (C w1 d1 (Eval (Val (source.leaf (part.Flag false))) env1) in_choice) _ refl (quiet _ _ _ _ _ _ _ in_let meets) (omega arith) (omega arith) refl free
          (Then _ (C w1 d1 (Give flag) in_choice) _ refl (quiet _ _ _ _ _ _ _ in_choice meets) (omega arith) (omega arith) refl free
          (Then _ (C (w1 + 1) d2 (Eval (Val source.unit) env1) (Joining ∷ in_let)) _ refl (given _ _ _ _ _ _ _ in_let (λ known. tt) meets) (omega arith) (omega arith) refl free
          (Then _ (C (w1 + 1) d2 (Give values.unit) (Joining ∷ in_let)) _ refl (quiet _ _ _ _ _ _ _ (Joining ∷ in_let) meets) (omega arith) (omega arith) refl free
          (Then _ (C (w1 + 1) d2 (Give values.unit) in_let) _ refl (given _ _ _ _ _ _ _ in_let (λ known. tt) meets) (omega arith) (omega arith) refl free
          (Then _ (C (w1 + 1 + 2) d3 (Eval names env1) (Joining ∷ t.l)) _ refl (given _ _ _ _ _ _ _ t.l (λ known w b. (tt, tt)) meets) (omega arith) (omega arith) refl free
          (Here _))))))))

      pub installed : T (C t.w t.d' (Eval e0 t.env) t.l)
      unfolding ended_with g
      installed = lead_tail (C t.w t.d' (Eval e0 t.env) t.l) (C (w1 + 1 + 2) d3 (Eval names env1) (Joining ∷ t.l)) leads (ending_early g) (ending_tail g)

      pub installed_closes : Closes s (C t.w t.d' (Eval e0 t.env) t.l)
      unfolding ended_with g
      installed_closes =
          let l = leads_steps s (C t.w t.d' (Eval e0 t.env) t.l) (C (w1 + 1 + 2) d3 (Eval names env1) (Joining ∷ t.l)) leads in
          closes_on s (l.0) (C t.w t.d' (Eval e0 t.env) t.l) (C (w1 + 1 + 2) d3 (Eval names env1) (Joining ∷ t.l)) (l.1) (endings.tail_closes times enough coding types p own head_is a kept ws upgraded many belongs extra floor c1 t g)
