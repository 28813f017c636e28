-- Behind the declarations of an actor: where only a tuple of their names is to come, what was made of them is shown and begins alike.
use Rattle.std.proofs.Common.{◌≡◌, inl, inr, ℕ, suc, ◌+◌, ◌*◌, ◌≤◌, Bool, false, List, [], ◌∷◌, ◌++◌, length, map, Option, Some, None, slice_get, refl, sym, ap, ◌∙◌, subst, arith}
use Rattle.std.specs.Prelude.{max}
use Rattle.mo_types.specs.Calls.{no_calls}
use Rattle.mo_types.specs.Graph.{head_at}
use Rattle.mo_values.specs.declared.operation.Operation.TheVariants as op
use Rattle.mo_values.specs.Alike.{AlikeAll}
use Rattle.mo_values.specs.Costs.{weighing}
use Rattle.mo_values.specs.Shapes as shape
use Rattle.mo_values.specs.Shapes.{Bytes, Tuple}
use Rattle.mo_values.specs.Views.{tuple_of}
use Rattle.mo_actor.specs.Executions.{Progress, Completes}
use Rattle.mo_actor.specs.Results.{IsPrefix}
use Rattle.core_ir.specs.Actor as core_actor
use Rattle.core_ir.specs.Actor.{outer_names}
use Rattle.core_ir.specs.Choices.{on_some}
use Rattle.core_ir.specs.CoreMachine as core_machine
use Rattle.core_ir.specs.CoreMachine.{State, Waiting}
use Rattle.core_ir.specs.Executions as execution
use Rattle.core_ir.specs.Executions.{Machine, Stand}
use Rattle.core_ir.specs.Expressions.{Core}
use Rattle.core_ir.specs.Messages.{Messages}
use Rattle.core_ir.specs.Values as core_value
use Rattle.core_ir.specs.Values.{flag_value}
use Rattle.core_ir.specs.Worlds.{World, Context}
use Rattle.typed_tree.specs.Language as source
use Rattle.typed_tree.specs.Programs.{Program}
use Rattle.mo_meaning.specs.Coding.{Types, Coding}
use Rattle.mo_meaning.specs.Configurations.{Surroundings}
use Rattle.mo_meaning.specs.Kernel.{Kept, Outgoing}
use Rattle.mo_meaning.specs.Saving.{alone}
use Rattle.mo_machine.specs.Values.{Value, Made, gathered, shapes_of}
use Rattle.mo_machine.specs.Acts.{Store}
use Rattle.mo_machine.specs.ActorLanguage.{Fields}
use Rattle.mo_machine.specs.Configurations.{Configuration, Returns, Traps, Breaks, Run, Still, Ended, End, live_on}
use Rattle.mo_machine.specs.Configurations as configuration
use Rattle.mo_machine.specs.Environments.{Environment, at, with_group}
use Rattle.mo_machine.specs.Exports.{part_at, values_in}
use Rattle.mo_machine.specs.Frames as machine
use Rattle.mo_machine.specs.Frames.{Stack}
use Rattle.mo_machine.specs.Starting.{kept_value, outer_values}
use Rattle.mo_machine.specs.Jumps.{nodes_around}
use Rattle.mo_machine.specs.Turns.{rejects, steps}
use Rattle.elaboration.specs.Scopes.{Place}
use Rattle.elaboration.specs.Checks.{locals}
use Rattle.elaboration.specs.Playing.{messages_of}
use Rattle.elaboration.specs.Programs.{Actor, start_scope, firsts, elaborate_actor, elaborated}
use Rattle.elaboration_values.specs.Belonging.{Known, Names, Belongs, EachBelongs, EnvironmentBelongs}
use Rattle.elaboration_values.proofs.Belong.{names_extend}
use Rattle.elaboration_steps.proofs.Values.{as_many}
use Rattle.elaboration_steps.specs.Stacks.{owed, WorldBelongs, GroupsBelong}
use Rattle.elaboration_runs.specs.Ending.{Shows, Leaves, Finish, Returned, Thrown, Trapped, Suspended, Asleep, Covers}
use Rattle.elaboration_runs.specs.Whole.{Serves}
use Rattle.elaboration_actors.specs.Saving.{CellsAt, SavingBelongs}
use Rattle.elaboration_actors.specs.Starts.{EndsOfStarts, ReadNames, MethodBodies}
use Rattle.elaboration_actors.proofs.Starts.{starts_end}
use Rattle.elaboration_starts.specs.Declarations.{names_from, made, places_known}
use Rattle.elaboration_starts.specs.Starts.{ActorStands}
use Rattle.elaboration_starts.proofs.Alongside.{Bases, conf}
use Rattle.elaboration_starts.proofs.Calm as calm
use Rattle.elaboration_starts.proofs.Closing.{Closes, Tells}
use Rattle.elaboration_starts.proofs.Calm.{CalmRun, base_calm, names_plain, owes_nothing, stays_calm, calm_serves, ends_once, under_end}
use Rattle.elaboration_starts.proofs.SavedCode.{SavedBy}
use Rattle.elaboration_starts.proofs.DeclaredCode.{levels_down, levels_many, known_is, front}
use Rattle.elaboration_starts.proofs.Exporting.{exported, cells_there, function_there}
use Rattle.elaboration_starts.proofs.Names.{names_before, read_each, read_names}
use Rattle.elaboration_starts.proofs.Starting as starting
use Rattle.elaboration_starts.proofs.Starting.{no_more, no_still, no_value, Pays, pays_with, AtEnds}
use Rattle.elaboration_starts.proofs.Tuples.{Last, tuple_last}

module _ (times : ℕ) (enough : 3 ≤ times) (coding : Coding) (types : Types) (p : Program) (own : Bytes) (head_is : (elaborated p).head ≡ head_at types) (a : ActorStands p)
    (kept : List (Option source.Value)) (ws : List core_value.Value) (upgraded : Bool) (many : length kept ≡ length p.stable) (belongs : (known : List Known) → EachBelongs known (map kept_value kept) ws) (extra floor : ℕ) (c1 : Configuration)
    (t : AtEnds times enough coding types p own head_is a kept ws upgraded many belongs extra floor c1) where
  abbrev code : Core
  code = elaborated p

  abbrev M : Machine State Waiting
  M = core_machine.core_machine code

  abbrev messages : Messages Kept
  messages = messages_of coding types p

  abbrev s : Surroundings
  s = alone coding types own

  abbrev context : Context
  context = core_actor.context_of M messages code own (no_calls 0) []

  abbrev few : List core_value.Value
  few = outer_names own code.methods

  abbrev n : ℕ
  n = p.nodes

  abbrev the_actor : Actor
  the_actor = elaborate_actor (length p.methods) (length p.stable) (start_scope (length p.methods) (length p.stable)) 0 p.body

  abbrev X : Run → Progress Fields
  X = starting.X times enough coding types p own head_is a

  abbrev Y : Stand State Waiting → Progress core_actor.Fields
  Y = starting.Y times enough coding types p own head_is a

  abbrev B : Progress Fields → Progress core_actor.Fields → Type 0
  B = Pays times enough coding types p own head_is a extra floor

  abbrev env0 : Environment
  env0 = outer_values own p.methods kept

  abbrev vals0 : List core_value.Value
  vals0 = ws ++ flag_value upgraded ∷ []

  abbrev Fin : List Known → ℕ → ℕ → List Bytes → World → Run → execution.End Waiting → Type 0
  Fin = Finish code context n

  -- the first has come to its end, and the second to a tuple of names
  pub record Ending : Type 0 where
    pub held : List Value
    pub cells_are : CellsAt (with_group a.last t.env) a.cells held
    pub moves : ℕ
    pub weight : ℕ
    pub depth : ℕ
    pub prints : List Bytes
    pub calls : List Outgoing
    pub store : Store
    pub arrives : steps s moves c1 ≡ Ended (conf weight depth prints calls store (machine.Give (exported a.last t.env (length p.methods) a.before a.after a.labels held)) []) (Returns (exported a.last t.env (length p.methods) a.before a.after a.labels held))
    pub w : ℕ
    pub d' : ℕ
    pub env : Environment
    pub first_name : ℕ
    pub l : Stack
    pub base : Bases false l l
    pub there : (j : ℕ) (u : Value) → slice_get t.under.values j ≡ Some u → at env (first_name + j) ≡ Some u
    pub rich : extra + 2 * (w + (2 + a.total) + 1) ≤ times * weight
    pub deep : max floor (max d' (live_on l)) ≤ depth

  module _ (g : Ending) where
    abbrev value_of_all : Value
    value_of_all = exported a.last t.env (length p.methods) a.before a.after a.labels g.held

    abbrev pub last_one : Configuration
    last_one = conf g.weight g.depth g.prints g.calls g.store (machine.Give value_of_all) []

    abbrev names_value : Value
    names_value = Made Tuple (gathered t.under.values)

    abbrev pub tuple_at : Configuration
    tuple_at = conf g.w g.d' g.prints g.calls g.store (machine.Eval (made op.MakeTuple (names_from g.first_name a.total)) g.env) g.l

    abbrev most : ℕ
    most = g.w + (2 + a.total) + 1

    abbrev highest : ℕ
    highest = max g.d' (live_on g.l)

    f : Last s g.prints g.calls g.store g.w g.d' (machine.Eval (made op.MakeTuple (names_from g.first_name a.total)) g.env) g.l names_value most highest
    f =
        subst (λ m. Last s g.prints g.calls g.store g.w g.d' (machine.Eval (made op.MakeTuple (names_from g.first_name m)) g.env) g.l names_value (g.w + (2 + m) + 1) highest) t.under.many
        (tuple_last s g.prints g.calls g.store g.first_name t.under.values g.env g.there g.l g.l g.base g.w g.d')

    abbrev last_two : Configuration
    last_two = conf f.weight f.depth g.prints g.calls g.store (machine.Give names_value) []

    abbrev tuple_steps : ℕ → Run
    tuple_steps i = steps s i tuple_at

    calm_at : (i : ℕ) → CalmRun tuple_at (tuple_steps i)
    calm_at i = stays_calm s i tuple_at (tt, names_plain g.first_name a.total) (base_calm g.l g.l g.base)

    pub tail_serves : (i : ℕ) (c : Configuration) → tuple_steps i ≡ Still c → Serves c
    tail_serves i c e = calmly (tuple_steps i) e (calm_at i)
      where
        still_or : Configuration → Run → Configuration
        still_or d (Still c) = c
        still_or d (Ended c end) = d

        calmly : (r : Run) → r ≡ Still c → CalmRun tuple_at r → Serves c
        calmly (Still c2) q h = subst (λ (x : Configuration). Serves x) (ap (still_or c2) q) (calm_serves s c2 (h.0) h.1.calm)
        calmly (Ended c2 end) q h = absurd (let z : Ended c2 end ≡ Still c = q in cc)

    pub tail_whole : (i : ℕ) (c : Configuration) → tuple_steps i ≡ Ended c Breaks → ⊥
    tail_whole i c e = let z : Ended c Breaks ≡ Ended last_two (Returns names_value) = ends_once s i f.steps_to tuple_at c last_two Breaks (Returns names_value) e f.by in cc

    weighs_at_end : (c : Configuration) (wy : ℕ) → c.weight ≤ most → wy ≤ 2 * c.weight + 0 → extra + wy ≤ times * g.weight
    weighs_at_end c wy h i = let z : extra + 2 * most ≤ times * g.weight = g.rich in omega (arith, z, h, i)

    deep_at_end : (c : Configuration) (dy : ℕ) → c.depth ≤ highest → dy ≤ c.depth → max floor dy ≤ g.depth
    deep_at_end c dy h i = let z : max floor highest ≤ g.depth = g.deep in omega (arith, z, h, i)

    pub shows_at_end : (c : Configuration) → c.weight ≤ most → c.depth ≤ highest → c.prints ≡ g.prints → owed c.stack ≡ 0 → (wy dy : ℕ) (py : List Bytes) → IsPrefix py c.prints → wy ≤ 2 * c.weight + owed c.stack → dy ≤ c.depth
        → B (X (Ended last_one (Returns value_of_all))) (core_actor.progress wy dy py (weighing 0) None)
    shows_at_end c light shallow same owing wy dy py b h i =
        pays_with times enough coding types p own head_is a extra floor (Ended last_one (Returns value_of_all)) wy dy py None (subst (λ ps. IsPrefix py ps) same b) (weighs_at_end c wy light (subst (λ m. wy ≤ 2 * c.weight + m) owing h)) (deep_at_end c dy shallow i) tt tt

    -- what an upgrade saves from here on
    saving_so : (known : List Known) (all : List core_value.Value) → EnvironmentBelongs known all (places_known (length p.methods) (length p.stable) a.total a.last) (with_group a.last t.env) [] → SavingBelongs p code known all value_of_all
    saving_so known all around = by a.before (starting.is_code_of times enough coding types p own head_is a upgraded).ends.save
      where
        cells_at : (before : Option ℕ) → CellsAt (with_group a.last t.env) a.cells (values_in (part_at 3 (exported a.last t.env (length p.methods) before a.after a.labels g.held)))
        cells_at before = subst (λ vs. CellsAt (with_group a.last t.env) a.cells vs) (sym (cells_there a.last t.env (length p.methods) before a.after a.labels g.held)) g.cells_are

        by : (before : Option ℕ) → SavedBy code.groups (places_known (length p.methods) (length p.stable) a.total a.last) a.cells (length p.stable) a.last before code.save → SavingBelongs p code known all (exported a.last t.env (length p.methods) before a.after a.labels g.held)
        by None (y, save, reads) = record {
          places = places_known (length p.methods) (length p.stable) a.total a.last;
          env = with_group a.last t.env;
          cells = a.cells;
          names_belong = around;
          as_many = a.as_many;
          cells_are = cells_at None;
          code = y;
          nodes = length p.stable;
          save = save;
          hook = inl (refl, refl, reads);
        }
        by (Some h) (f, y, there, plain, any, save, reads) = record {
          places = places_known (length p.methods) (length p.stable) a.total a.last;
          env = with_group a.last t.env;
          cells = a.cells;
          names_belong = around;
          as_many = a.as_many;
          cells_are = cells_at (Some h);
          code = y;
          nodes = length p.stable + f.nodes;
          save = save;
          hook = inr (a.last, h, t.env, f, refl, refl, there, plain, refl, any, reads);
        }

    -- the names of the start
    module _ (known : List Known) (world : World) (u : core_value.Value) (us : List core_value.Value) (each : EachBelongs known t.under.values us) (worlds : WorldBelongs code.groups known context.globals g.store world) where
      abbrev at_end : List core_value.Value
      at_end = us ++ vals0

      abbrev levels : List ℕ
      levels = levels_down (length vals0) (length us)

      many_us : length us ≡ a.total
      many_us = sym (as_many known t.under.values us each) ∙ t.under.many

      abbrev places : List Place
      places = locals levels ++ (start_scope (length p.methods) (length p.stable)).places

      so_many_levels : length levels ≡ a.total
      so_many_levels = levels_many (length vals0) (length us) ∙ many_us

      begun_so : EndsOfStarts p code own known (record { cells = g.store; exports = value_of_all }) (record { cells = world.store; groups = world.groups; names = us })
      begun_so = record {
        places = places;
        env = t.env;
        vals = at_end;
        fns = a.last;
        bodies = the_actor.methods;
        cells = worlds.cells;
        groups = subst (λ gs. GroupsBelong code.groups known gs world.groups) (sym (no_more few)) worlds.groups;
        names = subst (λ e. EnvironmentBelongs known few places e at_end) (sym t.under.is)
            (names_extend known few (start_scope (length p.methods) (length p.stable)).places env0 vals0 at_end levels t.under.values us (starting.names0 times enough coding types p own head_is a kept ws upgraded many belongs known) (names_before us vals0) (read_each us vals0) each);
        read = subst (λ ps. ReadNames at_end ps us) (sym (front code.groups (length p.methods) (length p.stable) a.last a.before a.after a.labels a.cells a.total upgraded levels places refl)) (read_names at_end levels us 0 (suc (length p.methods)) (read_each us vals0));
        methods = refl;
        enough = a.parts.enough;
        code = subst (λ ps. MethodBodies code.groups ps (firsts (length p.methods) a.last) the_actor.methods) (sym (known_is code.groups (length p.methods) (length p.stable) a.last a.before a.after a.labels a.cells a.total upgraded levels places refl so_many_levels)) (starting.is_code_of times enough coding types p own head_is a upgraded).ends.bodies;
        functions = λ i h. function_there a.last t.env (length p.methods) a.before a.after a.labels g.held i h;
        saving = λ around. saving_so known (outer_names own code.methods ++ us) (subst (λ ps. EnvironmentBelongs known (outer_names own code.methods ++ us) ps (with_group a.last t.env) []) (known_is code.groups (length p.methods) (length p.stable) a.last a.before a.after a.labels a.cells a.total upgraded levels places refl so_many_levels) around);
      }

    names_belong : (known : List Known) (vs : List Value) (us : shape.Shapes core_value.Handle) → AlikeAll (Names known) (shapes_of (gathered vs)) us → EachBelongs known vs (shape.listed us)
    names_belong known [] shape.NoShape h = tt
    names_belong known [] (shape.AShape u us) h = absurd h
    names_belong known (v ∷ vs) shape.NoShape h = absurd h
    names_belong known (v ∷ vs) (shape.AShape u us) h = (h.0, names_belong known vs us (h.1))

    -- both have the value of their declarations
    returned_at_end : (known : List Known) (wy dy : ℕ) (py : List Bytes) (wo : World) (u : core_value.Value) → Shows code context n last_two wy dy py → Leaves code context n known last_two wo → Belongs known names_value u
        → B (X (Ended last_one (Returns value_of_all))) (Y (execution.Over wy dy py wo (execution.Replies u)))
    returned_at_end known wy dy py wo (shape.Function h) shows leaves value = absurd value
    returned_at_end known wy dy py wo (shape.Made head us) shows leaves value =
        subst (λ o. B (X (Ended last_one (Returns value_of_all))) (core_actor.progress wy dy py (weighing 0) (on_some None (tuple_of (shape.Made o us)) (λ names. Some (Completes (core_actor.fields_of M messages code wo names)))))) (value.0)
        (pays_with times enough coding types p own head_is a extra floor (Ended last_one (Returns value_of_all)) wy dy py (Some (Completes (record { cells = wo.store; groups = wo.groups; names = shape.listed us }))) ([], sym shows.prints_are ∙ no_more py)
        (weighs_at_end last_two wy (let o : f.weight ≤ most = f.light in omega (arith, o)) shows.light) (deep_at_end last_two dy (let o : f.depth ≤ highest = f.shallow in omega (arith, o)) shows.shallow) shows.prints_are
        (starts_end coding types p code messages own known (record { cells = g.store; exports = value_of_all }) (record { cells = wo.store; groups = wo.groups; names = shape.listed us })
        (begun_so known wo (shape.Made head us) (shape.listed us) (names_belong known t.under.values us (value.1)) leaves.worlds)))

    ended_at_end : (num : ℕ) (known : List Known) (wy dy : ℕ) (py : List Bytes) (wo : World) (r : Run) (e : execution.End Waiting) → r ≡ tuple_steps num → Fin known wy dy py wo r e → B (X (Ended last_one (Returns value_of_all))) (Y (execution.Over wy dy py wo e))
    ended_at_end num known wy dy py wo r e i (Returned c v u shows leaves value) =
        let z : Ended c (Returns v) ≡ Ended last_two (Returns names_value) = ends_once s num f.steps_to tuple_at c last_two (Returns v) (Returns names_value) (sym i) f.by in
        let q : c ≡ last_two = starting.conf_is times enough coding types p own head_is a c last_two (Returns v) (Returns names_value) z in
        let o : Returns v ≡ Returns names_value = starting.end_is times enough coding types p own head_is a c last_two (Returns v) (Returns names_value) z in
        let x : v ≡ names_value = cc in
        returned_at_end known wy dy py wo u (subst (λ (o : Configuration). Shows code context n o wy dy py) q shows) (subst (λ (o : Configuration). Leaves code context n known o wo) q leaves) (subst (λ v. Belongs known v u) x value)
    ended_at_end num known wy dy py wo r e i (Thrown c error u shows leaves value) = absurd (by (rejects c error) refl i)
      where
        by : (r : Run) → rejects c error ≡ r → r ≡ tuple_steps num → ⊥
        by (Still c2) q i = no_still c error c2 q
        by (Ended c2 end) q i =
            let z : Ended c2 end ≡ Ended last_two (Returns names_value) = ends_once s num f.steps_to tuple_at c2 last_two end (Returns names_value) (sym i) f.by in
            no_value c error last_two names_value (q ∙ z)
    ended_at_end num known wy dy py wo r e i (Trapped c text shows) =
        let z : Ended c (Traps text) ≡ Ended last_two (Returns names_value) = ends_once s num f.steps_to tuple_at c last_two (Traps text) (Returns names_value) (sym i) f.by in absurd cc
    ended_at_end num known wy dy py wo r e i (Suspended c call stack shows leaves stops) =
        let z : Ended c (configuration.Suspends call (nodes_around 0 c.stack)) ≡ Ended last_two (Returns names_value) = ends_once s num f.steps_to tuple_at c last_two (configuration.Suspends call (nodes_around 0 c.stack)) (Returns names_value) (sym i) f.by in absurd cc
    ended_at_end num known wy dy py wo r e i (Asleep c stack shows leaves) =
        let z : Ended c configuration.Sleeps ≡ Ended last_two (Returns names_value) = ends_once s num f.steps_to tuple_at c last_two configuration.Sleeps (Returns names_value) (sym i) f.by in absurd cc

    tuple_shown : (num : ℕ) (v : Run) → v ≡ tuple_steps num → CalmRun tuple_at v → calm.Under s last_two v → (y : Stand State Waiting) → Covers code context n [] v y → B (X (Ended last_one (Returns value_of_all))) (Y y)
    tuple_shown num (Still c) i calm under (execution.Still wy dy py wo st) h = shows_at_end c (let z : c.weight ≤ f.weight = under.0 in let o : f.weight ≤ most = f.light in omega (arith, z, o)) (let z : c.depth ≤ f.depth = under.1 in let o : f.depth ≤ highest = f.shallow in omega (arith, z, o)) calm.1.same_prints (owes_nothing c.stack calm.1.calm) wy dy py (h.0) (h.1) (h.2)
    tuple_shown num (Still c) i calm under (execution.Over wy dy py wo e) h = absurd (starting.nothing_left times enough coding types p own head_is a (h.0) wy dy py wo (Still c) e c (h.2) refl)
    tuple_shown num (Ended c end) i calm under (execution.Still wy dy py wo st) h = shows_at_end c (let z : c.weight ≤ f.weight = under.0 in let o : f.weight ≤ most = f.light in omega (arith, z, o)) (let z : c.depth ≤ f.depth = under.1 in let o : f.depth ≤ highest = f.shallow in omega (arith, z, o)) calm.same_prints (owes_nothing c.stack calm.calm) wy dy py (h.0) (h.1) (h.2)
    tuple_shown num (Ended c end) i calm under (execution.Over wy dy py wo e) h = ended_at_end num (h.0) wy dy py wo (Ended c end) e i (h.2)

    -- after any number of steps from there
    pub tail_shown : (i : ℕ) (y : Stand State Waiting) → Covers code context n [] (tuple_steps i) y → (m : ℕ) × B (X (steps s m c1)) (Y y)
    tail_shown i y h = (
      g.moves,
      subst (λ x. B (X x) (Y y)) (sym g.arrives)
          (tuple_shown i (tuple_steps i) refl (calm_at i) (under_end s i f.steps_to tuple_at last_two (Returns names_value) (tt, names_plain g.first_name a.total) (base_calm g.l g.l g.base) f.by) y h),
    )

    pub tail_closes : Closes s tuple_at
    tail_closes = Tells f.steps_to last_two (gathered t.under.values) f.by
