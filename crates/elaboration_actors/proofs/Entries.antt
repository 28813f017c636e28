-- A method of both actors: an execution of Core's shows no more than that of the typed one, and ends as it does.
use Rattle.std.proofs.Common.{◌≡◌, ◌⊎◌, inl, inr, ℕ, zero, suc, ◌+◌, ◌*◌, ◌≤◌, List, [], ◌∷◌, ◌++◌, length, Some, None, refl, sym, ap, ◌∙◌, subst, arith}
use Rattle.mo_types.specs.declared.node.TypeId.{TypeId}
use Rattle.mo_types.specs.Calls.{CallTable}
use Rattle.mo_types.specs.Graph.{head_at}
use Rattle.mo_values.specs.Costs.{weighing}
use Rattle.mo_values.specs.Shapes.{Bytes, Shape}
use Rattle.mo_actor.specs.Executions.{Progress}
use Rattle.mo_actor.specs.Programs.{Effects}
use Rattle.core_ir.specs.Choices.{on_some}
use Rattle.core_ir.specs.Contexts.{call_context}
use Rattle.core_ir.specs.Values as core_value
use Rattle.core_ir.specs.Worlds as worlds
use Rattle.core_ir.specs.Worlds.{World, Context}
use Rattle.core_ir.specs.Executions.{Go, Over, Stand, Begins, after_step, run}
use Rattle.core_ir.specs.Executions as execution
use Rattle.core_ir.specs.Expressions.{Core}
use Rattle.core_ir.specs.CoreMachine as core_machine
use Rattle.core_ir.specs.CoreMachine.{Eval, State, at, begins, stuck}
use Rattle.core_ir.specs.Messages.{Messages}
use Rattle.core_ir.specs.Actor.{MethodEntry, core_language}
use Rattle.core_ir.specs.Actor as core_actor
use Rattle.typed_tree.specs.declared.action.Action.TheVariants as action
use Rattle.typed_tree.specs.Language as language
use Rattle.typed_tree.specs.Patterns.{Found, matches_all}
use Rattle.mo_meaning.specs.Bodies as meaning
use Rattle.mo_meaning.specs.Calls.{failing}
use Rattle.mo_meaning.specs.Configurations.{Surroundings}
use Rattle.mo_meaning.specs.Depth.{levels_of_body}
use Rattle.mo_meaning.specs.Kernel.{Entry, Kept}
use Rattle.mo_meaning.specs.Matching.{pattern_failed}
use Rattle.mo_machine.specs.Values.{Value, Closure, Code, load, load_list, shapes_list, values_list}
use Rattle.mo_machine.specs.ActorLanguage.{machine, Fields, Enters}
use Rattle.mo_machine.specs.Bodies.{beginning, entering, execution_of}
use Rattle.mo_machine.specs.Calls as calls
use Rattle.mo_machine.specs.Configurations.{Configuration, Traps, Run, Still, Ended, End, moved, weighed}
use Rattle.mo_machine.specs.Environments.{extended, with_group}
use Rattle.mo_machine.specs.Frames as machine_frame
use Rattle.mo_machine.specs.Frames.{Returning, Ready}
use Rattle.mo_machine.specs.Turns.{turn, then_steps, step, steps, turns}
use Rattle.elaboration_values.specs.Belonging.{Known, EachBelongs}
use Rattle.elaboration_steps.specs.Stacks.{WorldBelongs}
use Rattle.elaboration_steps.proofs.Paths.{nothing_more}
use Rattle.elaboration_runs.specs.Calling.{Surrounded}
use Rattle.elaboration_runs.specs.Entering.{Function, Entered, paid}
use Rattle.elaboration_runs.specs.Ending.{Trapped, Finish, Finishes, Covers}
use Rattle.elaboration_runs.specs.Waiting.{Accounted}
use Rattle.elaboration_runs.specs.Whole.{Reaches}
use Rattle.elaboration_runs.proofs.Ending.{IsDone, done, early, ended, covers}
use Rattle.elaboration_runs.proofs.Entering.{entries}
use Rattle.elaboration_actors.specs.Bodies.{Sound, Follows, FieldsBelong, EffectsBelong, SameMethod, Takes}
use Rattle.elaboration_actors.specs.Ends.{HasEnd, EndsToo}
use Rattle.elaboration_actors.specs.Laws.{MethodsFollow, MethodsEnd}
use Rattle.elaboration_actors.proofs.Ends.{ends_some}
use Rattle.elaboration_actors.proofs.Methods.{two_ways, X, Y, P, shown, by_turns}
use Rattle.elaboration_actors.proofs.Turns.{turns_for, ended_by}

module _ {K : Type 0} (coding : Messages K) (program : Core) (own : Bytes) (table : CallTable (List TypeId) worlds.Given) (names : List core_value.Value) (times : ℕ) (one : 1 ≤ times) (s : Surroundings) where
  abbrev context : Context
  context = core_actor.context_of (core_machine.core_machine program) coding program own table names

  module _ (head_is : context.head ≡ head_at s.types) (same : (nodes : ℕ) → Surrounded program context nodes s) (accounted : (nodes : ℕ) → Accounted program context nodes s) (known : List Known) (f : Fields) (g : core_actor.Fields) (fields : FieldsBelong program names context.globals known f g)
      (entry : Entry) (m : MethodEntry) (e : SameMethod program context known f.exports entry m) (caller : Bytes) (vs : List language.Value) (ws : List core_value.Value) (al : EachBelongs known (load_list vs) ws) (takes : Takes e.function caller ws)
      (sound : Sound times s (entering f entry caller vs)) where
    abbrev fn : Function
    fn = e.function

    abbrev given : List Value
    given = load (meaning.context caller) ∷ load_list vs

    abbrev taken : List core_value.Value
    taken = call_context caller ∷ ws

    abbrev world : World
    world = record { store = g.cells; groups = g.groups; requests = [] }

    abbrev c0 : Configuration
    c0 = beginning (2 + length caller) f.cells (Ready action.Call (Closure e.group e.which e.env ∷ given)) []

    begins_same : entering f entry caller vs ≡ c0
    begins_same = ap (λ v. beginning (2 + length caller) f.cells (Ready action.Call (v ∷ given)) []) e.is

    sound0 : Sound times s c0
    sound0 = subst (λ c. Sound times s c) begins_same sound

    belongs : EachBelongs known given taken
    belongs = ((refl, ((refl, tt), tt)), al)

    worlds_belong : WorldBelongs program.groups known context.globals f.cells world
    worlds_belong = record { cells = fields.cells; groups = fields.groups }

    abbrev paid0 : ℕ
    paid0 = paid program context known f.cells world caller e.group e.which e.env fn given taken

    both : (begins program context world (2 + length caller) e.method.body taken ≡ Go (weighing paid0) [] world (at program context fn.nodes (Eval e.method.body.expression taken) []))
        × Entered program context known f.cells world caller e.group e.which e.env fn given taken e.method.body (matches_all fn.parameters (shapes_list given))
    both = entries program context known f.cells world caller e.group e.which e.env fn e.method.body given taken worlds_belong e.same belongs (takes.0) (takes.1)

    abbrev At : ℕ → Stand State core_machine.Waiting
    At k = run (core_machine.core_machine program) context k paid0 0 [] world (at program context fn.nodes (Eval e.method.body.expression taken) [])

    abbrev C : Run → Stand State core_machine.Waiting → Type 0
    C = Covers program context fn.nodes known

    module _ (us : List (Shape Code)) (o : Entered program context known f.cells world caller e.group e.which e.env fn given taken e.method.body (Some us)) where
      abbrev c1 : Configuration
      c1 = moved (weighing (calls.entering fn.nodes fn.parameters (shapes_list given))) f.cells (machine_frame.Eval fn.body (extended (values_list us) (with_group e.group e.env))) (Returning fn.nodes ∷ []) c0

      entered : step s c0 ≡ Still c1
      entered = ap (turn s c0) (o.0)

      abbrev reaches : Reaches program context fn.nodes known paid0 0 [] world (Eval e.method.body.expression taken) [] c1
      reaches = record {
        steps = o.1.steps;
        weight' = o.1.weight';
        depth' = o.1.depth';
        prints' = o.1.prints';
        held' = 0;
        known' = known;
        world' = world;
        f' = o.1.f';
        k' = o.1.k';
        by = o.1.by;
        grows = ([], nothing_more known);
        calls = tt;
        together = o.1.together;
      }

      covered : (k : ℕ) → (m : ℕ) × C (steps s m c0) (At k)
      covered k = by (two_ways k reaches.steps)
        where
          by : (k ≤ reaches.steps) ⊎ ((rest : ℕ) × (k ≡ reaches.steps + rest)) → (m : ℕ) × C (steps s m c0) (At k)
          by (inl h) = (1, subst (λ r. C r (At k)) (sym (ap (then_steps s (steps s 0)) entered)) (early program context fn.nodes s head_is (same fn.nodes) (accounted fn.nodes) k known paid0 0 [] world (Eval e.method.body.expression taken) [] c1 reaches h (At k) refl))
          by (inr (rest, is)) =
              let h : (m : ℕ) × C (steps s m c1) (run (core_machine.core_machine program) context rest reaches.weight' reaches.depth' reaches.prints' world (at program context fn.nodes reaches.f' reaches.k')) =
              covers program context fn.nodes s head_is (same fn.nodes) (accounted fn.nodes) 0 known c1 reaches.weight' reaches.depth' reaches.prints' world reaches.f' reaches.k' reaches.together tt
              (λ j c' i. sound0.serves (suc j) c' (ap (then_steps s (steps s j)) entered ∙ i)) (λ j c' i. sound0.whole (suc j) c' (ap (then_steps s (steps s j)) entered ∙ i)) rest in
              (suc (h.0), subst (λ r. C r (At k)) (sym (ap (then_steps s (steps s (h.0))) entered)) (subst (λ y. C (steps s (h.0) c1) y) (sym (ap At is ∙ reaches.by rest)) (h.1)))

    -- the arguments do not match: both trap
    module _ (o : Entered program context known f.cells world caller e.group e.which e.env fn given taken e.method.body None) where
      abbrev c2 : Configuration
      c2 = weighed (failing (calls.entering fn.nodes fn.parameters (shapes_list given)) fn.nodes) c0

      fails : step s c0 ≡ Ended c2 (Traps pattern_failed)
      fails = ap (turn s c0) (o.0)

      over : Finishes program context fn.nodes known paid0 0 [] world (Eval e.method.body.expression taken) [] (Ended c2 (Traps pattern_failed))
      over = record {
        steps = o.1.steps;
        weight' = o.1.weight';
        depth' = o.1.depth';
        prints' = o.1.prints';
        known' = known;
        world' = world;
        end = execution.Traps pattern_failed;
        by = o.1.by;
        grows = ([], nothing_more known);
        finish = Trapped c2 pattern_failed (record {
          prints_are = o.1.shown;
          light = let z : o.1.weight' ≤ 2 * (2 + length caller + (calls.entering fn.nodes fn.parameters (shapes_list given) + length pattern_failed)) = o.1.light in omega (arith, z);
          shallow = let z : o.1.depth' ≤ 16 * levels_of_body fn.nodes = o.1.shallow in omega (arith, z);
        });
      }

      failed : (k : ℕ) → (m : ℕ) × C (steps s m c0) (At k)
      failed k = (
        1,
        subst (λ r. C r (At k)) (sym (ap (then_steps s (steps s 0)) fails))
            (ended program context fn.nodes s head_is (same fn.nodes) (accounted fn.nodes) k known paid0 0 [] world (Eval e.method.body.expression taken) [] c2 (Traps pattern_failed) over (At k) refl),
      )

    all_covered : (o : Found Code) → matches_all fn.parameters (shapes_list given) ≡ o → (k : ℕ) → (m : ℕ) × C (steps s m c0) (At k)
    all_covered None is k = failed (subst (λ o. Entered program context known f.cells world caller e.group e.which e.env fn given taken e.method.body o) is (both.1)) k
    all_covered (Some us) is k = covered us (subst (λ o. Entered program context known f.cells world caller e.group e.which e.env fn given taken e.method.body o) is (both.1)) k

    abbrev Q : Progress (Effects machine) → Progress (Effects (core_language core_machine.Waiting K)) → Type 0
    Q = P coding program own table names fn.nodes times one s f g fields.names_are entry.results known (same fn.nodes)

    abbrev XX : Run → Progress (Effects machine)
    XX = X coding program own table names fn.nodes times one s f g fields.names_are entry.results

    abbrev YY : Stand State core_machine.Waiting → Progress (Effects (core_language core_machine.Waiting K))
    YY = Y coding program own table names fn.nodes times one s f g fields.names_are entry.results

    follows : (k : ℕ) → (n : ℕ) × Q (XX (turns s n c0)) (YY (At k))
    follows k =
        let h : (m : ℕ) × C (steps s m c0) (At k) = all_covered (matches_all fn.parameters (shapes_list given)) refl k in
        let t = turns_for s (h.0) c0 in (
          t.0,
          by_turns coding program own table names fn.nodes times one s f g fields.names_are entry.results known (same fn.nodes) (turns s (t.0) c0) (steps s (h.0) c0) (YY (At k)) (t.1)
              (shown coding program own table names fn.nodes times one s f g fields.names_are entry.results known (same fn.nodes) (steps s (h.0) c0) (At k) (h.1) (sound0.whole (h.0)) (sound0.light (h.0))),
        )

    enters_core : (k : ℕ) → execution.execution (core_machine.core_machine program) context k world (Begins m.place caller ws) ≡ At k
    enters_core k =
        ap (after_step (run (core_machine.core_machine program) context k) 0 0 0 [])
        (ap (λ o. on_some (stuck program context 0 world) o (λ method. begins program context world (2 + length caller) method.body taken)) e.there ∙ both.0)
        ∙ ap (λ w. run (core_machine.core_machine program) context k w 0 [] world (at program context fn.nodes (Eval e.method.body.expression taken) [])) (let z : 0 + paid0 ≡ paid0 = omega arith in z)

    -- the method's execution is followed
    pub method_follows : Follows times (EffectsBelong program names context.globals f.exports known) (execution_of s f (Enters entry caller vs)) (core_actor.run_body (core_machine.core_machine program) coding program own table g (core_actor.Enters m caller ws))
    method_follows zero = (0, record { begun = ([], refl); whole = tt; weight = omega arith; depth = omega arith; completion = tt })
    method_follows (suc k) =
        let h : (n : ℕ) × Q (XX (turns s n c0)) (YY (At k)) = follows k in (
          h.0,
          subst (λ ns. Q (XX (turns s (h.0) (entering f entry caller vs))) (core_actor.body_progress (core_machine.core_machine program) coding program g m.results (execution.execution (core_machine.core_machine program) (core_actor.context_of (core_machine.core_machine program) coding program own table ns) k world (Begins m.place caller ws)))) (sym fields.names_are)
              (subst (λ c. Q (XX (turns s (h.0) c)) (core_actor.body_progress (core_machine.core_machine program) coding program g m.results (execution.execution (core_machine.core_machine program) context k world (Begins m.place caller ws)))) (sym begins_same)
              (subst (λ rs. Q (XX (turns s (h.0) c0)) (core_actor.body_progress (core_machine.core_machine program) coding program g rs (execution.execution (core_machine.core_machine program) context k world (Begins m.place caller ws)))) (sym e.results)
              (subst (λ y. Q (XX (turns s (h.0) c0)) (YY y)) (sym (enters_core k)) (h.1)))),
        )

    -- ---- where the typed method has ended, the run is over as it is

    abbrev Over-so : Configuration → End → Type 0
    Over-so d end =
        (k : ℕ) × (w e : ℕ) × (prints : List Bytes) × (later : World) × (known' : List Known) × (last : execution.End core_machine.Waiting) × (At k ≡ Over w e prints later last) × ((more : List Known) × (known' ≡ known ++ more)) × Finish program context fn.nodes known' w e prints later (Ended d end) last

    module _ (us : List (Shape Code)) (o : Entered program context known f.cells world caller e.group e.which e.env fn given taken e.method.body (Some us)) where
      entered_over : (q : ℕ) (d : Configuration) (end : End) → steps s q (c1 us o) ≡ Ended d end → Over-so d end
      entered_over q d end is =
          let r : Reaches program context fn.nodes known paid0 0 [] world (Eval e.method.body.expression taken) [] (c1 us o) = reaches us o in
          let h : IsDone program context fn.nodes s head_is (same fn.nodes) (accounted fn.nodes) known r.weight' r.depth' r.prints' world r.f' r.k' (steps s q (c1 us o)) =
          done program context fn.nodes s head_is (same fn.nodes) (accounted fn.nodes) q 0 known (c1 us o) r.weight' r.depth' r.prints' world r.f' r.k' r.together tt
          (λ j c' i. sound0.serves (suc j) c' (ap (then_steps s (steps s j)) (entered us o) ∙ i)) (λ j c' i. sound0.whole (suc j) c' (ap (then_steps s (steps s j)) (entered us o) ∙ i)) in
          let fin : Finishes program context fn.nodes known r.weight' r.depth' r.prints' world r.f' r.k' (Ended d end) = subst (λ x. IsDone program context fn.nodes s head_is (same fn.nodes) (accounted fn.nodes) known r.weight' r.depth' r.prints' world r.f' r.k' x) is h in
          (r.steps + (fin.steps + 0), fin.weight', fin.depth', fin.prints', fin.world', fin.known', fin.end, r.by (fin.steps + 0) ∙ fin.by 0, fin.grows, fin.finish)

    module _ (o : Entered program context known f.cells world caller e.group e.which e.env fn given taken e.method.body None) where
      failed_over : (q : ℕ) (d : Configuration) (end : End) → steps s (suc q) c0 ≡ Ended d end → Over-so d end
      failed_over q d end is =
          let fin : Finishes program context fn.nodes known paid0 0 [] world (Eval e.method.body.expression taken) [] (Ended (c2 o) (Traps pattern_failed)) = over o in (
            fin.steps + 0,
            fin.weight',
            fin.depth',
            fin.prints',
            fin.world',
            fin.known',
            fin.end,
            fin.by 0,
            fin.grows,
            subst (λ r. Finish program context fn.nodes fin.known' fin.weight' fin.depth' fin.prints' fin.world' r fin.end) (sym (ap (then_steps s (steps s q)) (fails o)) ∙ is) fin.finish,
          )

    over_by : (o : Found Code) → matches_all fn.parameters (shapes_list given) ≡ o → (m : ℕ) (d : Configuration) (end : End) → steps s m c0 ≡ Ended d end → Over-so d end
    over_by o is zero d end i = absurd (let z : Still c0 ≡ Ended d end = i in cc)
    over_by None is (suc q) d end i = failed_over (subst (λ o. Entered program context known f.cells world caller e.group e.which e.env fn given taken e.method.body o) is (both.1)) q d end i
    over_by (Some us) is (suc q) d end i =
        let o : Entered program context known f.cells world caller e.group e.which e.env fn given taken e.method.body (Some us) = subst (λ o. Entered program context known f.cells world caller e.group e.which e.env fn given taken e.method.body o) is (both.1) in
        entered_over us o q d end (sym (ap (then_steps s (steps s q)) (entered us o)) ∙ i)

    pub method_ends : EndsToo (execution_of s f (Enters entry caller vs)) (core_actor.run_body (core_machine.core_machine program) coding program own table g (core_actor.Enters m caller ws))
    method_ends (n, last, is) = by (turns s n c0) refl (subst (λ c. (XX (turns s n c)).completion ≡ Some last) begins_same is)
      where
        by : (r : Run) → turns s n c0 ≡ r → (XX r).completion ≡ Some last → HasEnd (core_actor.run_body (core_machine.core_machine program) coding program own table g (core_actor.Enters m caller ws))
        by (Still c) i h = absurd (let z : None ≡ Some last = h in cc)
        by (Ended d end) i h =
            let b = ended_by s n c0 d end i in
            let o : Over-so d end = over_by (matches_all fn.parameters (shapes_list given)) refl (b.0) d end (b.1) in
            let z = ends_some coding program own table names fn.nodes times one s f g fields.names_are entry.results known (same fn.nodes) o.5 o.8 o.1 o.2 o.3 o.4 (Ended d end) o.6 o.9 last h in (
              suc (o.0),
              z.0,
              subst (λ ns. (core_actor.body_progress (core_machine.core_machine program) coding program g m.results (execution.execution (core_machine.core_machine program) (core_actor.context_of (core_machine.core_machine program) coding program own table ns) o.0 world (Begins m.place caller ws))).completion ≡ Some z.0) (sym fields.names_are)
                  (subst (λ rs. (core_actor.body_progress (core_machine.core_machine program) coding program g rs (execution.execution (core_machine.core_machine program) context o.0 world (Begins m.place caller ws))).completion ≡ Some z.0) (sym e.results)
                  (ap (λ y. (YY y).completion) (enters_core o.0 ∙ o.7) ∙ z.1)),
            )

pub methods : (coding : Messages Kept) (program : Core) (own : Bytes) (table : CallTable (List TypeId) worlds.Given) (names : List core_value.Value) (s : Surroundings) → MethodsFollow coding program own table names s
methods coding program own table names s times one around known f g fields entry m e caller vs ws al takes sound =
    method_follows coding program own table names times one s around.head around.surrounded around.accounted known f g fields entry m e caller vs ws al takes sound

pub methods_end : (coding : Messages Kept) (program : Core) (own : Bytes) (table : CallTable (List TypeId) worlds.Given) (names : List core_value.Value) (s : Surroundings) → MethodsEnd coding program own table names s
methods_end coding program own table names s times one around known f g fields entry m e caller vs ws al takes sound =
    method_ends coding program own table names times one s around.head around.surrounded around.accounted known f g fields entry m e caller vs ws al takes sound
