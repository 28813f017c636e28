-- A save of the actor of an elaborated program shows no more than that of the typed program, and keeps the same.
use Rattle.std.proofs.Common.{◌≡◌, false, ℕ, suc, ◌+◌, ◌*◌, ◌≤◌, List, [], ◌∷◌, ◌++◌, length, Option, Some, None, refl, sym, ap, ◌∙◌, subst, arith}
use Rattle.std.specs.Prelude.{max}
use Rattle.std.proofs.Math.Nat.{mul-le-mul_right}
use Rattle.mo_types.specs.declared.node.TypeId.{TypeId}
use Rattle.mo_types.specs.Calls.{no_calls}
use Rattle.mo_types.specs.Code.{Variable}
use Rattle.mo_types.specs.Graph.{head_at}
use Rattle.mo_values.specs.Alike.{AlikeAll}
use Rattle.mo_values.specs.Costs.{weighing, sizes, most_levels}
use Rattle.mo_values.specs.Shapes as shape
use Rattle.mo_values.specs.Shapes.{Bytes, Tuple, size}
use Rattle.mo_values.specs.Views.{tuple_of}
use Rattle.mo_actor.specs.Executions.{Progress, Completion, Completes}
use Rattle.mo_actor.specs.Results.{IsPrefix}
use Rattle.core_ir.specs.Actor as core_actor
use Rattle.core_ir.specs.Choices.{on_some}
use Rattle.core_ir.specs.CoreMachine as core_machine
use Rattle.core_ir.specs.CoreMachine.{State, Waiting}
use Rattle.core_ir.specs.Executions as execution
use Rattle.core_ir.specs.Executions.{Machine, Stand, run, after_step}
use Rattle.core_ir.specs.Expressions as core_body
use Rattle.core_ir.specs.Expressions.{Core}
use Rattle.core_ir.specs.Messages.{Messages}
use Rattle.core_ir.specs.Values as core_value
use Rattle.core_ir.specs.Worlds.{World, Context}
use Rattle.typed_tree.specs.Language as source
use Rattle.typed_tree.specs.Opening as opening
use Rattle.typed_tree.specs.Programs.{Program}
use Rattle.mo_meaning.specs.Coding.{Types, Coding, stable_memory}
use Rattle.mo_meaning.specs.Configurations.{Surroundings}
use Rattle.mo_meaning.specs.Exports.{stable_cells}
use Rattle.mo_meaning.specs.Kernel.{Kept, Outgoing}
use Rattle.mo_meaning.specs.Saving.{alone, held_in, variables_of, saved_progress, kept_progress}
use Rattle.mo_machine.specs.Values.{Value, Made, gathered, shapes_of}
use Rattle.mo_machine.specs.Acts.{Store}
use Rattle.mo_machine.specs.ActorLanguage.{Fields}
use Rattle.mo_machine.specs.Configurations.{Configuration, Returns, Traps, Breaks, Run, Still, Ended, End, live_on}
use Rattle.mo_machine.specs.Configurations as configuration
use Rattle.mo_machine.specs.Environments.{Environment}
use Rattle.mo_machine.specs.Exports.{part_at, values_in}
use Rattle.mo_machine.specs.Frames as machine
use Rattle.mo_machine.specs.Frames.{Stack}
use Rattle.mo_machine.specs.Jumps.{nodes_around}
use Rattle.mo_machine.specs.Runs.{unload_configuration, unload_run}
use Rattle.mo_machine.specs.Starting.{saving_from}
use Rattle.mo_machine.specs.Turns.{rejects, steps}
use Rattle.mo_machine.specs.Unload.{unload, unload_list}
use Rattle.elaboration.specs.Playing.{messages_of, variables_in}
use Rattle.elaboration_values.specs.Belonging.{Known, Names, Belongs, EachBelongs}
use Rattle.elaboration_steps.specs.Stacks.{owed}
use Rattle.elaboration_runs.specs.Calling.{Surrounded}
use Rattle.elaboration_runs.specs.Ending.{Shows, Finish, Returned, Thrown, Trapped, Suspended, Asleep, Covers}
use Rattle.elaboration_runs.specs.Waiting.{Accounted}
use Rattle.elaboration_runs.specs.Whole.{Serves}
use Rattle.elaboration_runs.proofs.Whole.{no_end}
use Rattle.elaboration_actors.specs.Actors.{globals}
use Rattle.elaboration_actors.specs.Bodies.{reached, CompletionsBelong, ShownWhole, ProgressBelongs, FieldsBelong}
use Rattle.elaboration_actors.proofs.Messages.{messages_are_told}
use Rattle.elaboration_actors.specs.Saving.{reads_of, reading, CellsAt, SavingBelongs}
use Rattle.elaboration_starts.specs.Saves.{HoldEach, SaveIsSound}
use Rattle.elaboration_starts.proofs.Alongside.{Bases, conf}
use Rattle.elaboration_starts.proofs.Calm as calm
use Rattle.elaboration_starts.proofs.Calm.{ArePlain, CalmRun, base_calm, owes_nothing, stays_calm, calm_serves, ends_once, under_end}
use Rattle.elaboration_starts.proofs.Evaluating.{steps_and}
use Rattle.elaboration_starts.proofs.Reading.{Hold, Cheaply, reading_cheap}
use Rattle.elaboration_starts.proofs.Saved.{cells_same, held_are, variables_both, sizes_both, levels_both}
use Rattle.elaboration_starts.proofs.Starting.{no_still, no_value}
use Rattle.elaboration_starts.proofs.Tuples.{Last, based}

pub no_more : {A : Type 0} (xs : List A) → xs ≡ xs ++ []
no_more [] = refl
no_more (x ∷ xs) = ap (λ r. x ∷ r) (no_more xs)

reads_plain : (xs : List ℕ) → ArePlain (reads_of xs)
reads_plain [] = tt
reads_plain (x ∷ xs) = ((tt, (tt, tt)), reads_plain xs)

-- names of cells that hold values
hold : (env : Environment) (store : Store) (xs : List ℕ) (cs vs : List Value) → CellsAt env xs cs → HoldEach store cs vs → Hold env store xs vs
hold env store [] [] [] a h = tt
hold env store [] [] (v ∷ vs) a h = absurd h
hold env store [] (c ∷ cs) vs a h = absurd a
hold env store (x ∷ xs) [] vs a h = absurd a
hold env store (x ∷ xs) (c ∷ cs) [] a h = absurd h
hold env store (x ∷ xs) (c ∷ cs) (v ∷ vs) a h = ((c, a.0, h.0), hold env store xs cs vs (a.1) (h.1))

as_many_held : (env : Environment) (store : Store) (xs : List ℕ) (vs : List Value) → Hold env store xs vs → length vs ≡ length xs
as_many_held env store [] [] h = refl
as_many_held env store [] (v ∷ vs) h = absurd h
as_many_held env store (x ∷ xs) [] h = absurd h
as_many_held env store (x ∷ xs) (v ∷ vs) h = ap (λ n. suc n) (as_many_held env store xs vs (h.1))

-- each value has a part at least
size_any : (v : source.Value) → 1 ≤ size (opening.shape_of v)
size_any (source.Made head inside) = omega arith
size_any (source.Function group which) = omega arith
size_any (source.BuiltIn m holds) = omega arith

sizes_enough : (vs : List Value) → length vs ≤ sizes (opening.shapes_list (unload_list vs))
sizes_enough [] = omega arith
sizes_enough (v ∷ vs) =
    let x : 1 ≤ size (opening.shape_of (unload v)) = size_any (unload v) in
    let y : length vs ≤ sizes (opening.shapes_list (unload_list vs)) = sizes_enough vs in
    omega (arith, x, y)

-- a form number and a length stand before the message
memory_long : (message : Bytes) → 4 ≤ length (stable_memory message)
memory_long message = omega arith

module _ (times : ℕ) (enough : 3 ≤ times) (coding : Coding) (types : Types) (p : Program) (program : Core) (own : Bytes) (head_is : program.head ≡ head_at types) (known : List Known) (f : Fields) (g : core_actor.Fields)
    (fields : FieldsBelong program g.names (globals program own g.names) known f g) (b : SavingBelongs p program known (globals program own g.names) f.exports) (sound : SaveIsSound times coding types p own f) where
  abbrev pub M : Machine State Waiting
  M = core_machine.core_machine program

  abbrev pub messages : Messages Kept
  messages = messages_of coding types p

  abbrev pub s : Surroundings
  s = alone coding types own

  abbrev pub context : Context
  context = core_actor.context_of M messages program own (no_calls 0) g.names

  abbrev pub world0 : World
  world0 = record { store = g.cells; groups = g.groups; requests = [] }

  abbrev n : ℕ
  n = b.nodes

  abbrev many : ℕ
  many = length p.stable

  abbrev pub c0 : Configuration
  c0 = saving_from p f

  pub surrounded : Surrounded program context n s
  surrounded = record { room = refl; next = refl; bytes = λ known ts vs ws al. (messages_are_told coding types p).spell known ts vs ws al }

  pub accounted : Accounted program context n s
  accounted = record { own = refl; states = λ number. tt }

  abbrev Same-kept : Kept → Kept → Type 0
  Same-kept k l = l ≡ k

  abbrev pub X : Run → Progress Kept
  X r = kept_progress coding types p (unload f.exports) (unload_run r)

  abbrev pub Y : Stand State Waiting → Progress Kept
  Y y = core_actor.save_progress M messages program y

  abbrev pub At : ℕ → Stand State Waiting
  At k = run M context k (1 + n) 0 [] world0 (core_machine.at program context n (core_machine.Eval b.code []) [])

  pub saves_as : (k : ℕ) → execution.execution M context k world0 execution.Saves ≡ At k
  saves_as k =
      ap (λ (body : core_body.Body). after_step (run M context k) 0 0 0 [] (core_machine.begins program context world0 0 body [])) b.save
      ∙ ap (λ w. run M context k w 0 [] world0 (core_machine.at program context n (core_machine.Eval b.code []) [])) (let z : 0 + (0 + (1 + n)) ≡ 1 + n = omega arith in z)

  abbrev pub Fin : List Known → ℕ → ℕ → List Bytes → World → Run → execution.End Waiting → Type 0
  Fin = Finish program context n

  pub nothing_left : (known : List Known) (w d : ℕ) (prints : List Bytes) (world : World) (r : Run) (end : execution.End Waiting) (c : Configuration) → Fin known w d prints world r end → r ≡ Still c → ⊥
  nothing_left known w d prints world r end c f e = no_end program context n s head_is surrounded accounted known w d prints world r end c f e

  abbrev end_or : End → Run → End
  end_or d (Still c) = d
  end_or d (Ended c end) = end

  pub end_is : (c c2 : Configuration) (x y : End) → Ended c x ≡ Ended c2 y → x ≡ y
  end_is c c2 x y e = ap (end_or x) e

  pub conf_is : (c c2 : Configuration) (x y : End) → Ended c x ≡ Ended c2 y → c ≡ c2
  conf_is c c2 x y e = ap reached e

  -- where the typed program has no value yet
  abbrev pub NotReturned : Run → Type 0
  NotReturned (Still c) = Unit {0}
  NotReturned (Ended c (Returns v)) = ⊥
  NotReturned (Ended c end) = Unit {0}

  x_parts : (r : Run) → NotReturned r → ((X r).prints ≡ (reached r).prints) × ((X r).weight ≡ (reached r).weight) × ((X r).depth ≡ (reached r).depth)
  x_parts (Still c) h = (refl, refl, refl)
  x_parts (Ended c (Returns v)) h = absurd h
  x_parts (Ended c (Traps text)) h = (refl, refl, refl)
  x_parts (Ended c end) h = (refl, refl, refl)

  abbrev pub Pays : Progress Kept → Progress Kept → Type 0
  Pays = ProgressBelongs times Same-kept

  pub pays_with : (r : Run) → NotReturned r → (w d : ℕ) (prints : List Bytes) (completion : Option (Completion Kept)) → IsPrefix prints (reached r).prints → w ≤ times * (reached r).weight → d ≤ (reached r).depth → ShownWhole times Same-kept (reached r).prints prints completion
      → CompletionsBelong times Same-kept (X r).completion completion → Pays (X r) (core_actor.progress w d prints (weighing 0) completion)
  pays_with r not w d prints completion a h i whole belongs = record {
    begun = subst (λ ps. IsPrefix prints ps) (sym ((x_parts r not).0)) a;
    whole = subst (λ ps. ShownWhole times Same-kept ps prints completion) (sym ((x_parts r not).0)) whole;
    weight = subst (λ m. w + 0 ≤ times * m) (sym ((x_parts r not).1)) (let z : w ≤ times * (reached r).weight = h in omega (arith, z));
    depth = let z : (X r).depth ≡ (reached r).depth = (x_parts r not).2 in omega (arith, z, i);
    completion = belongs;
  }

  -- ---- what is saved

  module _ (j : ℕ) (xe de : ℕ) (prints : List Bytes) (calls : List Outgoing) (store : Store) (v : Value) (ends : steps s j c0 ≡ Ended (conf xe de prints calls store (machine.Give v) []) (Returns v)) where
    abbrev ce : Configuration
    ce = conf xe de prints calls store (machine.Give v) []

    pub held_values : (vs : List Value) × HoldEach store (values_in (part_at 3 f.exports)) vs
    held_values = sound.holds j ce v ends

    abbrev vs : List Value
    vs = held_values.0

    abbrev gone : List source.Value
    gone = held_in (unload_list store) (stable_cells (unload f.exports))

    gone_is : gone ≡ unload_list vs
    gone_is = ap (held_in (unload_list store)) (cells_same f.exports) ∙ held_are store (values_in (part_at 3 f.exports)) vs (held_values.1)

    kept_variables : (variables : List (Variable TypeId)) × (variables_of types p.stable gone ≡ Some variables)
    kept_variables = sound.saves j ce v ends

    abbrev variables : List (Variable TypeId)
    variables = kept_variables.0

    abbrev memory : ℕ
    memory = length (stable_memory (coding.save types variables))

    abbrev saved_as : Progress Kept
    saved_as = record {
      prints = prints;
      weight = xe + (sizes (opening.shapes_list (unload_list vs)) + memory);
      depth = max de (0 + 16 * most_levels (opening.shapes_list (unload_list vs)));
      completion = Some (Completes (record { types = types; variables = variables }));
    }

    x_is : X (Ended ce (Returns v)) ≡ saved_as
    x_is =
        ap (saved_progress coding types p gone (unload_configuration ce)) (kept_variables.1)
        ∙ ap (λ ws. saved_progress coding types p ws (unload_configuration ce) (Some variables)) gone_is

    -- the typed program's save stands so after so many steps
    pub x_at : (y : Stand State Waiting) → Pays (X (Ended ce (Returns v))) (Y y) → Pays (X (steps s j c0)) (Y y)
    x_at y h = subst (λ r. Pays (X r) (Y y)) (sym ends) h

    -- ---- the cells are read, from here on

    module _ (w d : ℕ) (kb0 kb : Stack) (bases : Bases false kb0 kb) (rich : 2 * (w + (many + (2 + many)) + 1) ≤ 3 * xe + 2 * many + 8) (deep : max d (live_on kb) ≤ de) where
      abbrev tail : Configuration
      tail = conf w d prints calls store (machine.Eval (reading b.cells) b.env) kb

      abbrev pub tuple : Value
      tuple = Made Tuple (gathered vs)

      held_names : Hold b.env store b.cells vs
      held_names = hold b.env store b.cells (values_in (part_at 3 f.exports)) vs b.cells_are (held_values.1)

      so_many : length vs ≡ many
      so_many = as_many_held b.env store b.cells vs held_names ∙ b.as_many

      last : Last s prints calls store w d (machine.Eval (reading b.cells) b.env) kb tuple (w + (many + (2 + many)) + 1) (max d (live_on kb))
      last = joined (reading_cheap s prints calls store b.env kb b.cells vs w d held_names)
        where
          joined : Cheaply s prints calls store w d (machine.Eval (reading b.cells) b.env) kb (machine.Give tuple) kb (w + length vs + (2 + length vs)) (max d (live_on kb)) → Last s prints calls store w d (machine.Eval (reading b.cells) b.env) kb tuple (w + (many + (2 + many)) + 1) (max d (live_on kb))
          joined r =
              let q : Last s prints calls store r.weight r.depth (machine.Give tuple) kb tuple (r.weight + 1) (max r.depth (live_on kb)) = based s prints calls store tuple kb0 kb bases r.weight r.depth in
              record {
                steps_to = r.steps_to + q.steps_to;
                weight = q.weight;
                depth = q.depth;
                by = steps_and s r.steps_to q.steps_to tail (conf r.weight r.depth prints calls store (machine.Give tuple) kb) r.by ∙ q.by;
                light = let x : r.weight ≤ w + length vs + (2 + length vs) = r.light in let y : q.weight ≤ r.weight + 1 = q.light in let z : length vs ≡ many = so_many in omega (arith, x, y, z);
                shallow = let x : r.depth ≤ max d (live_on kb) = r.shallow in let y : q.depth ≤ max r.depth (live_on kb) = q.shallow in omega (arith, x, y);
              }

      abbrev last_one : Configuration
      last_one = conf last.weight last.depth prints calls store (machine.Give tuple) []

      weighs : (c : Configuration) (wy : ℕ) → c.weight ≤ last.weight → wy ≤ 2 * c.weight + 0 → wy ≤ 3 * xe + 2 * many + 8
      weighs c wy h i = let x : last.weight ≤ w + (many + (2 + many)) + 1 = last.light in omega (arith, x, h, i, rich)

      abbrev coded : ℕ
      coded = sizes (opening.shapes_list (unload_list vs)) + memory

      paid : (wy more : ℕ) → wy ≤ 3 * xe + 2 * many + 8 → more ≤ coded → wy + more ≤ times * (xe + coded)
      paid wy more h i =
          let x : 4 ≤ memory = memory_long (coding.save types variables) in
          let z : length vs ≤ sizes (opening.shapes_list (unload_list vs)) = sizes_enough vs in
          let o : length vs ≡ many = so_many in
          let y : 3 * (xe + coded) ≤ times * (xe + coded) = mul-le-mul_right (xe + coded) enough in
          omega (arith, x, y, z, o, h, i)

      low : (c : Configuration) (dy : ℕ) → c.depth ≤ last.depth → dy ≤ c.depth → dy ≤ de
      low c dy h i = let x : last.depth ≤ max d (live_on kb) = last.shallow in omega (arith, x, h, i, deep)

      still_shown : (c : Configuration) → c.weight ≤ last.weight → c.depth ≤ last.depth → c.prints ≡ prints → owed c.stack ≡ 0 → (wy dy : ℕ) (py : List Bytes) → IsPrefix py c.prints → wy ≤ 2 * c.weight + owed c.stack → dy ≤ c.depth → Pays saved_as (core_actor.progress wy dy py (weighing 0) None)
      still_shown c light shallow same owing wy dy py a h i = record {
        begun = subst (λ ps. IsPrefix py ps) same a;
        whole = tt;
        weight = paid wy 0 (weighs c wy light (subst (λ m. wy ≤ 2 * c.weight + m) owing h)) (omega arith);
        depth = let x : dy ≤ de = low c dy shallow i in omega (arith, x);
        completion = tt;
      }

      names_belong : (known : List Known) (vs : List Value) (us : shape.Shapes core_value.Handle) → AlikeAll (Names known) (shapes_of (gathered vs)) us → EachBelongs known vs (shape.listed us)
      names_belong known [] shape.NoShape h = tt
      names_belong known [] (shape.AShape u us) h = absurd h
      names_belong known (v ∷ vs) shape.NoShape h = absurd h
      names_belong known (v ∷ vs) (shape.AShape u us) h = (h.0, names_belong known vs us (h.1))

      returned : (known' : List Known) (wy dy : ℕ) (py : List Bytes) (wo : World) (u : core_value.Value) → Shows program context n last_one wy dy py → Belongs known' tuple u → Pays saved_as (Y (execution.Over wy dy py wo (execution.Replies u)))
      returned known' wy dy py wo (shape.Function h) shows value = absurd value
      returned known' wy dy py wo (shape.Made head us) shows value =
          subst (λ o. Pays saved_as (on_some (core_actor.progress wy dy py (weighing 0) None) (tuple_of (shape.Made o us)) (λ us. core_actor.saved M messages program wy dy py us (messages.save us)))) (value.0)
          (subst (λ o. Pays saved_as (core_actor.saved M messages program wy dy py (shape.listed us) (on_some None o (λ variables. Some (record { kept = record { types = types; variables = variables }; size = length (stable_memory (coding.save types variables)) }))))) is
          (record {
            begun = ([], sym shows.prints_are ∙ no_more py);
            whole = shows.prints_are;
            weight = paid wy (sizes (shape.listed us) + memory) (weighs last_one wy (omega arith) shows.light) (let z : sizes (opening.shapes_list (unload_list vs)) ≡ sizes (shape.listed us) = sizes_both known' vs (shape.listed us) each in omega (arith, z));
            depth = let x : dy ≤ de = low last_one dy (omega arith) shows.shallow in let z : most_levels (opening.shapes_list (unload_list vs)) ≡ most_levels (shape.listed us) = levels_both known' vs (shape.listed us) each in omega (arith, x, z);
            completion = refl;
          }))
        where
          each : EachBelongs known' vs (shape.listed us)
          each = names_belong known' vs us (value.1)

          is : Some variables ≡ variables_in coding types p p.stable (shape.listed us)
          is = sym (kept_variables.1) ∙ (ap (variables_of types p.stable) gone_is ∙ variables_both coding types p known' p.stable vs (shape.listed us) each)

      ended_shown : (i : ℕ) (known' : List Known) (wy dy : ℕ) (py : List Bytes) (wo : World) (r : Run) (e : execution.End Waiting) → r ≡ steps s i tail → Fin known' wy dy py wo r e → Pays saved_as (Y (execution.Over wy dy py wo e))
      ended_shown i known' wy dy py wo r e q (Returned c u0 u shows leaves value) =
          let z : Ended c (Returns u0) ≡ Ended last_one (Returns tuple) = ends_once s i last.steps_to tail c last_one (Returns u0) (Returns tuple) (sym q) last.by in
          let o : Returns u0 ≡ Returns tuple = end_is c last_one (Returns u0) (Returns tuple) z in
          let x : u0 ≡ tuple = cc in
          returned known' wy dy py wo u (subst (λ (o : Configuration). Shows program context n o wy dy py) (conf_is c last_one (Returns u0) (Returns tuple) z) shows) (subst (λ v. Belongs known' v u) x value)
      ended_shown i known' wy dy py wo r e q (Thrown c error u shows leaves value) = absurd (by (rejects c error) refl q)
        where
          by : (r : Run) → rejects c error ≡ r → r ≡ steps s i tail → ⊥
          by (Still c2) o q = no_still c error c2 o
          by (Ended c2 end) o q = no_value c error last_one tuple (o ∙ ends_once s i last.steps_to tail c2 last_one end (Returns tuple) (sym q) last.by)
      ended_shown i known' wy dy py wo r e q (Trapped c text shows) =
          let z : Ended c (Traps text) ≡ Ended last_one (Returns tuple) = ends_once s i last.steps_to tail c last_one (Traps text) (Returns tuple) (sym q) last.by in absurd cc
      ended_shown i known' wy dy py wo r e q (Suspended c call stack shows leaves stops) =
          let z : Ended c (configuration.Suspends call (nodes_around 0 c.stack)) ≡ Ended last_one (Returns tuple) = ends_once s i last.steps_to tail c last_one (configuration.Suspends call (nodes_around 0 c.stack)) (Returns tuple) (sym q) last.by in absurd cc
      ended_shown i known' wy dy py wo r e q (Asleep c stack shows leaves) =
          let z : Ended c configuration.Sleeps ≡ Ended last_one (Returns tuple) = ends_once s i last.steps_to tail c last_one configuration.Sleeps (Returns tuple) (sym q) last.by in absurd cc

      calm_tail : (i : ℕ) → CalmRun tail (steps s i tail)
      calm_tail i = stays_calm s i tail (tt, reads_plain b.cells) (base_calm kb0 kb bases)

      run_shown : (i : ℕ) (r : Run) → r ≡ steps s i tail → CalmRun tail r → calm.Under s last_one r → (y : Stand State Waiting) → Covers program context n known r y → Pays saved_as (Y y)
      run_shown i (Still c) q calm under (execution.Still wy dy py wo st) h = still_shown c (under.0) (under.1) calm.1.same_prints (owes_nothing c.stack calm.1.calm) wy dy py (h.0) (h.1) (h.2)
      run_shown i (Still c) q calm under (execution.Over wy dy py wo e) h = absurd (nothing_left (h.0) wy dy py wo (Still c) e c (h.2) refl)
      run_shown i (Ended c end) q calm under (execution.Still wy dy py wo st) h = still_shown c (under.0) (under.1) calm.same_prints (owes_nothing c.stack calm.calm) wy dy py (h.0) (h.1) (h.2)
      run_shown i (Ended c end) q calm under (execution.Over wy dy py wo e) h = ended_shown i (h.0) wy dy py wo (Ended c end) e q (h.2)

      -- what a run shows that has come so far
      pub tail_shown : (i : ℕ) (y : Stand State Waiting) → Covers program context n known (steps s i tail) y → Pays (X (Ended ce (Returns v))) (Y y)
      tail_shown i y h =
          subst (λ x. Pays x (Y y)) (sym x_is) (run_shown i (steps s i tail) refl (calm_tail i) (under_end s i last.steps_to tail last_one (Returns tuple) (tt, reads_plain b.cells) (base_calm kb0 kb bases) last.by) y h)

      -- nothing is asked on the way, and it does not break
      pub tail_serves : (i : ℕ) (c : Configuration) → steps s i tail ≡ Still c → Serves c
      tail_serves i c e = by (steps s i tail) e (calm_tail i)
        where
          by : (r : Run) → r ≡ Still c → CalmRun tail r → Serves c
          by (Still c2) q h = subst (λ (x : Configuration). Serves x) (ap reached q) (calm_serves s c2 (h.0) h.1.calm)
          by (Ended c2 end) q h = absurd (let z : Ended c2 end ≡ Still c = q in cc)

      pub tail_whole : (i : ℕ) (c : Configuration) → steps s i tail ≡ Ended c Breaks → ⊥
      tail_whole i c e = let z : Ended c Breaks ≡ Ended last_one (Returns tuple) = ends_once s i last.steps_to tail c last_one Breaks (Returns tuple) e last.by in cc

      -- how it ends
      pub tail_tells : (i : ℕ) × (d1 : Configuration) × (steps s i tail ≡ Ended d1 (Returns tuple))
      tail_tells = (last.steps_to, last_one, last.by)

      abbrev pub Has : Progress Kept → Type 0
      Has x = (other : Completion Kept) × (x.completion ≡ Some other)

      pub told : (known' : List Known) (wy dy : ℕ) (py : List Bytes) (wo : World) (u : core_value.Value) → Belongs known' tuple u → Has (Y (execution.Over wy dy py wo (execution.Replies u)))
      told known' wy dy py wo (shape.Function h) value = absurd value
      told known' wy dy py wo (shape.Made head us) value =
          subst (λ o. Has (on_some (core_actor.progress wy dy py (weighing 0) None) (tuple_of (shape.Made o us)) (λ us. core_actor.saved M messages program wy dy py us (messages.save us)))) (value.0)
          (subst (λ o. Has (core_actor.saved M messages program wy dy py (shape.listed us) (on_some None o (λ variables. Some (record { kept = record { types = types; variables = variables }; size = length (stable_memory (coding.save types variables)) }))))) is
          (Completes (record { types = types; variables = variables }), refl))
        where
          is : Some variables ≡ variables_in coding types p p.stable (shape.listed us)
          is = sym (kept_variables.1) ∙ (ap (variables_of types p.stable) gone_is ∙ variables_both coding types p known' p.stable vs (shape.listed us) (names_belong known' vs us (value.1)))
