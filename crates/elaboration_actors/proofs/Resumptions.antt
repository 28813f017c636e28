-- What waited goes on with its answer: an execution of Core's actor shows no more than that of the typed one, and ends as it does.
use Rattle.std.proofs.Common.{◌≡◌, ℕ, zero, suc, ◌+◌, ◌*◌, ◌≤◌, Bool, true, false, List, [], ◌∷◌, ◌++◌, length, Option, Some, None, refl, sym, ap, ◌∙◌, subst, arith}
use Rattle.std.specs.Prelude.{max, nat_lt, cond}
use Rattle.mo_types.specs.declared.node.TypeId.{TypeId}
use Rattle.mo_types.specs.Calls.{CallTable}
use Rattle.mo_types.specs.Graph.{head_at}
use Rattle.mo_values.specs.Costs.{Cost, weighing}
use Rattle.mo_values.specs.Shapes.{Bytes, Error, Future, Shape}
use Rattle.mo_actor.specs.Executions.{Progress, Completion}
use Rattle.mo_actor.specs.Programs.{Effects}
use Rattle.mo_actor.specs.Programs as actor
use Rattle.core_ir.specs.Values as core_value
use Rattle.core_ir.specs.Worlds as worlds
use Rattle.core_ir.specs.Worlds.{World, Context}
use Rattle.core_ir.specs.Executions.{Go, Over, Stand, Machine, Step, Resumes, after_step, deep_with, heavier, run}
use Rattle.core_ir.specs.Executions as execution
use Rattle.core_ir.specs.Expressions.{Core}
use Rattle.core_ir.specs.CoreMachine as core_machine
use Rattle.core_ir.specs.CoreMachine.{Frame, Give, State, at, depth_of, enters, focused}
use Rattle.core_ir.specs.Messages.{Messages}
use Rattle.core_ir.specs.Actor.{Pending, core_language}
use Rattle.core_ir.specs.Actor as core_actor
use Rattle.typed_tree.specs.declared.action.Action.TheVariants as action
use Rattle.typed_tree.specs.Language as language
use Rattle.typed_tree.specs.Patterns.{matches}
use Rattle.mo_meaning.specs.Acts.{Given, Gets, Fails}
use Rattle.mo_meaning.specs.Configurations.{Surroundings}
use Rattle.mo_meaning.specs.Kernel.{Kept}
use Rattle.mo_meaning.specs.Turns.{most_bytes, too_long}
use Rattle.mo_machine.specs.Values.{Value, Made, NoValue, Code, load, shape_of, values_list}
use Rattle.mo_machine.specs.Acts.{Store, Act, Goes, Prints, Asks, Awaits, Throws, Traps, Stuck}
use Rattle.mo_machine.specs.Acts as acts
use Rattle.mo_machine.specs.ActorLanguage.{machine, Fields, Waiting}
use Rattle.mo_machine.specs.ActorLanguage as kernel
use Rattle.mo_machine.specs.Bodies.{beginning, shared_progress, execution_of}
use Rattle.mo_machine.specs.Configurations as configuration
use Rattle.mo_machine.specs.Configurations.{Configuration, Run, Still, Ended, moved, weighed}
use Rattle.mo_machine.specs.Frames as machine_frame
use Rattle.mo_machine.specs.Frames.{Labelled, Trying, Stack, Ready}
use Rattle.mo_machine.specs.Jumps.{throw}
use Rattle.mo_machine.specs.Matching.{on_match}
use Rattle.mo_machine.specs.Measure.{measure}
use Rattle.mo_machine.specs.Moves.{Reduces, move}
use Rattle.mo_machine.specs.Turns.{rejects, as_reply, give, given_turn, turn, then_steps, step, steps, settle, turns, given_step, turns_given}
use Rattle.elaboration_values.specs.Belonging.{Known}
use Rattle.elaboration_steps.specs.Stacks.{Labels, StackBelongs, WorldBelongs}
use Rattle.elaboration_steps.specs.Follows.{owed}
use Rattle.elaboration_runs.specs.Calling.{Surrounded}
use Rattle.elaboration_runs.specs.Resuming.{endings, waits_with, throwing, GoesWith, ThrowsWith}
use Rattle.elaboration_runs.specs.Ending.{Shows, Finish, Returned, Thrown, Trapped, Suspended, Asleep, Finishes, configuration_of, Covers}
use Rattle.elaboration_runs.specs.Waiting.{Accounted}
use Rattle.elaboration_runs.proofs.Ending.{IsDone, done, covers}
use Rattle.elaboration_runs.proofs.Resuming.{answers}
use Rattle.elaboration_actors.specs.Bodies.{Going, reached, Sound, ProgressBelongs, Follows, FieldsBelong, WaitingBelongs, EffectsBelong, GivenBelongs, continued}
use Rattle.elaboration_actors.specs.Ends.{EndsToo}
use Rattle.elaboration_actors.specs.Laws.{ResumptionsFollow, ResumptionsEnd}
use Rattle.elaboration_actors.proofs.Ends.{ends_some}
use Rattle.elaboration_actors.proofs.Methods.{X, Y, P, shown, by_turns}
use Rattle.elaboration_actors.proofs.Turns.{turns_for, due_settles, ended_by}

-- ---- a run that was less deep

module _ {S W : Type 0} where
  abbrev pub with_depth : ℕ → Stand S W → Stand S W
  with_depth d (execution.Still w e prints world s) = execution.Still w d prints world s
  with_depth d (Over w e prints world end) = Over w d prints world end

  abbrev pub depth_now : Stand S W → ℕ
  depth_now (execution.Still w d prints world s) = d
  depth_now (Over w d prints world end) = d

  abbrev pub Lower : Stand S W → Stand S W → Type 0
  Lower x y = (d : ℕ) × (d ≤ depth_now y) × (x ≡ with_depth d y)

  module _ (m : Machine S W) (context : Context) where
    lower_by : (n : ℕ) → ((w d e : ℕ) (prints : List Bytes) (world : World) (s : S) → d ≤ e → Lower (run m context n w d prints world s) (run m context n w e prints world s))
        → (w d e low high : ℕ) (prints : List Bytes) (r : Step S W) → d ≤ e → low ≤ high → Lower (after_step (run m context n) low w d prints r) (after_step (run m context n) high w e prints r)
    lower_by n go w d e low high prints (Go cost out world s) h b = go (w + cost.weight) (max d (deep_with low cost)) (max e (deep_with high cost)) (prints ++ out) world s (omega (arith, h, b))
    lower_by n go w d e low high prints (execution.Ends cost out world end) h b = (max d (deep_with low cost), omega (arith, h, b), refl)

    lower : (n w d e : ℕ) (prints : List Bytes) (world : World) (s : S) → d ≤ e → Lower (run m context n w d prints world s) (run m context n w e prints world s)
    lower zero w d e prints world s h = (d, h, refl)
    lower (suc n) w d e prints world s h = lower_by n (lower n) w d e (m.depth s) (m.depth s) prints (m.step context world s) h (omega arith)

    pub lower_step : (n w d e low high : ℕ) (prints : List Bytes) (r : Step S W) → d ≤ e → low ≤ high → Lower (after_step (run m context n) low w d prints r) (after_step (run m context n) high w e prints r)
    lower_step n w d e low high prints r h b = lower_by n (lower n) w d e low high prints r h b

    -- what is heavier weighs more from the beginning
    pub heavier_step : (n w d bodies extra : ℕ) (prints : List Bytes) (r : Step S W) → after_step (run m context n) bodies w d prints (heavier extra r) ≡ after_step (run m context n) bodies (w + extra) d prints r
    heavier_step n w d bodies extra prints (Go cost out world s) = ap (λ i. run m context n i (max d (deep_with bodies cost)) (prints ++ out) world s) (let z : w + (extra + cost.weight) ≡ w + extra + cost.weight = omega arith in z)
    heavier_step n w d bodies extra prints (execution.Ends cost out world end) = ap (λ i. Over i (max d (deep_with bodies cost)) (prints ++ out) world end) (let z : w + (extra + cost.weight) ≡ w + extra + cost.weight = omega arith in z)

module _ (program : Core) (context : Context) (nodes : ℕ) (known : List Known) where
  shows_lower : (c : Configuration) (w d e : ℕ) (prints : List Bytes) → e ≤ d → Shows program context nodes c w d prints → Shows program context nodes c w e prints
  shows_lower c w d e prints h shows = record { prints_are = shows.prints_are; light = shows.light; shallow = let z : d ≤ c.depth = shows.shallow in omega (arith, z, h) }

  finish_lower : (known' : List Known) (w d e : ℕ) (prints : List Bytes) (world : World) (r : Run) (end : execution.End core_machine.Waiting) → e ≤ d → Finish program context nodes known' w d prints world r end → Finish program context nodes known' w e prints world r end
  finish_lower known' w d e prints world r end h (Returned c v u shows leaves value) = Returned c v u (shows_lower c w d e prints h shows) leaves value
  finish_lower known' w d e prints world r end h (Thrown c error u shows leaves value) = Thrown c error u (shows_lower c w d e prints h shows) leaves value
  finish_lower known' w d e prints world r end h (Trapped c text shows) = Trapped c text (shows_lower c w d e prints h shows)
  finish_lower known' w d e prints world r end h (Suspended c call stack shows leaves stops) = Suspended c call stack (shows_lower c w d e prints h shows) leaves stops
  finish_lower known' w d e prints world r end h (Asleep c stack shows leaves) = Asleep c stack (shows_lower c w d e prints h shows) leaves

  covers_lower : (r : Run) (y : Stand State core_machine.Waiting) (d : ℕ) → d ≤ depth_now y → Covers program context nodes known r y → Covers program context nodes known r (with_depth d y)
  covers_lower r (execution.Still w e prints world s) d h o = (o.0, o.1, (let z : e ≤ (configuration_of program context nodes r).depth = o.2 in omega (arith, z, h)))
  covers_lower r (Over w e prints world end) d h o = (o.0, o.1, finish_lower (o.0) w e d prints world r end h (o.2))

  pub covers_less : (r : Run) (x y : Stand State core_machine.Waiting) → Lower x y → Covers program context nodes known r y → Covers program context nodes known r x
  covers_less r x y l o = subst (λ x. Covers program context nodes known r x) (sym (l.2)) (covers_lower r y (l.0) (l.1) o)

-- ---- an error that is thrown

-- it goes on, leaves the body, or traps
abbrev IsThrown : Act → Type 0
IsThrown (Goes cost store f k) = Unit {0}
IsThrown (Throws cost error) = Unit {0}
IsThrown (Traps cost text) = Unit {0}
IsThrown _ = ⊥

thrown_match : (o : Option (List (Shape Code))) (on : List Value → Act) (x : Act) → ((vs : List Value) → IsThrown (on vs)) → IsThrown x → IsThrown (on_match o on x)
thrown_match None on x f h = h
thrown_match (Some vs) on x f h = f (values_list vs)

thrown_on : (store : Store) (cost : Cost) (error : Value) (k : Stack) → IsThrown (throw store cost error k)
thrown_on store cost error [] = tt
thrown_on store cost error (Labelled ∷ k) = tt
thrown_on store cost error (Trying p b env ∷ k) = thrown_match (matches p (shape_of error)) _ _ (λ vs. tt) tt
thrown_on store cost error (_ ∷ k) = thrown_on store cost error k

-- ---- the given part

module _ (s : Surroundings) where
  given_turns : (g : Given) (n : ℕ) (c : Configuration) → move c.focus c.stack ≡ Reduces → turns_given s g (suc n) c ≡ then_steps s (turns s n) (give s g c)
  given_turns g n c e =
      ap (λ d. then_steps s (turns s n) (given_step s g d (move d.focus d.stack))) (ap (settle (measure c.focus c.stack) c) e ∙ due_settles (measure c.focus c.stack) c)
      ∙ ap (λ m. then_steps s (turns s n) (given_step s g c m)) e

module _ {K : Type 0} (coding : Messages K) (program : Core) (own : Bytes) (table : CallTable (List TypeId) worlds.Given) (names : List core_value.Value) (times : ℕ) (one : 1 ≤ times) (s : Surroundings) where
  abbrev M : Machine State core_machine.Waiting
  M = core_machine.core_machine program

  abbrev context : Context
  context = core_actor.context_of M coding program own table names

  module _ (head_is : context.head ≡ head_at s.types) (same : (nodes : ℕ) → Surrounded program context nodes s) (accounted : (nodes : ℕ) → Accounted program context nodes s) (known : List Known) (f : Fields) (g : core_actor.Fields) (fields : FieldsBelong program names context.globals known f g)
      (results : List TypeId) (nodes call : ℕ) (stack : Stack) (frames : List Frame) where
    abbrev world : World
    world = record { store = g.cells; groups = g.groups; requests = [] }

    abbrev focus : machine_frame.Focus
    focus = Ready action.Await (Made (Future call) NoValue ∷ [])

    abbrev waiting : Waiting
    waiting = record { nodes = nodes; results = results; focus = focus; stack = stack }

    abbrev c0 : Configuration
    c0 = beginning nodes f.cells focus stack

    worlds_belong : WorldBelongs program.groups known context.globals f.cells world
    worlds_belong = record { cells = fields.cells; groups = fields.groups }

    abbrev Q : Progress (Effects machine) → Progress (Effects (core_language core_machine.Waiting K)) → Type 0
    Q = P coding program own table names nodes times one s f g fields.names_are results known (same nodes)

    abbrev XX : Run → Progress (Effects machine)
    XX = X coding program own table names nodes times one s f g fields.names_are results

    abbrev YY : Stand State core_machine.Waiting → Progress (Effects (core_language core_machine.Waiting K))
    YY = Y coding program own table names nodes times one s f g fields.names_are results

    abbrev C : Run → Stand State core_machine.Waiting → Type 0
    C = Covers program context nodes known

    -- where it goes on from a configuration
    from : (c1 : Configuration) → Sound times s c1 → (m : ℕ) (y : Stand State core_machine.Waiting) → C (steps s m c1) y → (n : ℕ) × Q (XX (turns s n c1)) (YY y)
    from c1 sound m y h =
        let t = turns_for s m c1 in (
          t.0,
          by_turns coding program own table names nodes times one s f g fields.names_are results known (same nodes) (turns s (t.0) c1) (steps s m c1) (YY y) (t.1)
              (shown coding program own table names nodes times one s f g fields.names_are results known (same nodes) (steps s m c1) y h (sound.whole m) (sound.light m)),
        )

    abbrev Ends-with : Given → worlds.Given → ℕ → Type 0
    Ends-with given answer k = (n : ℕ) × Q (XX (turns_given s given n c0)) (YY (execution.execution M context k world (Resumes (waits_with program context nodes s frames) answer)))

    enters_same : (w : core_value.Value) → enters program context world (Resumes (waits_with program context nodes s frames) (worlds.Gets w)) ≡ Go (weighing (1 + nodes)) [] world (at program context nodes (Give w) frames) → (k : ℕ)
        → execution.execution M context k world (Resumes (waits_with program context nodes s frames) (worlds.Gets w)) ≡ run M context k (1 + nodes) 0 [] world (at program context nodes (Give w) frames)
    enters_same w e k = ap (after_step (run M context k) 0 0 0 []) e ∙ ap (λ i. run M context k i 0 [] world (at program context nodes (Give w) frames)) (let z : 0 + (1 + nodes) ≡ 1 + nodes = omega arith in z)

    -- with a value
    gets : (v : language.Value) (w : core_value.Value) → GoesWith program context nodes s known f.cells world call stack frames v w → Sound times s (continued (Gets v) f.cells waiting) → (k : ℕ) → Ends-with (Gets v) (worlds.Gets w) k
    gets v w r sound k =
        let y : Stand State core_machine.Waiting = run M context k (1 + nodes) 0 [] world (at program context nodes (Give w) frames) in
        let h : (m : ℕ) × C (steps s m (continued (Gets v) f.cells waiting)) y =
        covers program context nodes s head_is (same nodes) (accounted nodes) r.held known (continued (Gets v) f.cells waiting) (1 + nodes) 0 [] world (Give w) frames r.together tt (λ j c' i. sound.serves j c' i) (λ j c' i. sound.whole j c' i) k in
        let n : (n : ℕ) × Q (XX (turns s n (continued (Gets v) f.cells waiting))) (YY y) = from (continued (Gets v) f.cells waiting) sound (h.0) y (h.1) in (
          suc (n.0),
          subst (λ r. Q (XX r) (YY (execution.execution M context k world (Resumes (waits_with program context nodes s frames) (worlds.Gets w))))) (sym (given_turns s (Gets v) (n.0) c0 refl ∙ ap (then_steps s (turns s (n.0))) r.turn))
              (subst (λ y. Q (XX (turns s (n.0) (continued (Gets v) f.cells waiting))) (YY y)) (sym (enters_same w r.entry k)) (n.1)),
        )

    -- with an error
    module _ (err : language.Value) where
      abbrev ct : Configuration
      ct = continued (Fails err) f.cells waiting

      abbrev thrown : Act
      thrown = throw f.cells (weighing 1) (load err) stack

      -- an error that leaves the body is the same from both
      rejects_same : (cost : Cost) (error : Value) → XX (rejects (weighed cost c0) error) ≡ XX (rejects (weighed cost ct) error)
      rejects_same cost (Made (Error code text) NoValue) = by (nat_lt most_bytes (length text))
        where
          a : Configuration
          a = weighed (weighing (length text)) (weighed cost c0)

          b : Configuration
          b = weighed (weighing (length text)) (weighed cost ct)

          by : (long : Bool) → XX (cond long (Ended a (configuration.Traps too_long)) (Ended a (configuration.Responds (actor.Rejects 4 text)))) ≡ XX (cond long (Ended b (configuration.Traps too_long)) (Ended b (configuration.Responds (actor.Rejects 4 text))))
          by true = refl
          by false = refl
      rejects_same cost _ = refl

      -- what is over stays so
      rejects_stay : (n : ℕ) (c : Configuration) (error : Value) → XX (then_steps s (steps s n) (rejects c error)) ≡ XX (rejects c error)
      rejects_stay n c (Made (Error code text) NoValue) = by (nat_lt most_bytes (length text))
        where
          b : Configuration
          b = weighed (weighing (length text)) c

          by : (long : Bool) → XX (then_steps s (steps s n) (cond long (Ended b (configuration.Traps too_long)) (Ended b (configuration.Responds (actor.Rejects 4 text))))) ≡ XX (cond long (Ended b (configuration.Traps too_long)) (Ended b (configuration.Responds (actor.Rejects 4 text))))
          by true = refl
          by false = refl
      rejects_stay n c _ = refl

      turns_stay : (n : ℕ) (c : Configuration) (error : Value) → XX (then_steps s (turns s n) (rejects c error)) ≡ XX (rejects c error)
      turns_stay n c (Made (Error code text) NoValue) = by (nat_lt most_bytes (length text))
        where
          b : Configuration
          b = weighed (weighing (length text)) c

          by : (long : Bool) → XX (then_steps s (turns s n) (cond long (Ended b (configuration.Traps too_long)) (Ended b (configuration.Responds (actor.Rejects 4 text))))) ≡ XX (cond long (Ended b (configuration.Traps too_long)) (Ended b (configuration.Responds (actor.Rejects 4 text))))
          by true = refl
          by false = refl
      turns_stay n c _ = refl

      -- the first step
      behind : (m : ℕ) (y : Stand State core_machine.Waiting) (a : Act) → IsThrown a → Sound times s ct → step s ct ≡ turn s ct a → give s (Fails err) c0 ≡ given_turn s c0 a → C (steps s (suc m) ct) y → (n : ℕ) × Q (XX (then_steps s (turns s n) (given_turn s c0 a))) (YY y)
      behind m y (Goes cost store h k) i sound is e o =
          let c1 : Configuration = moved cost store h k ct in
          from c1 (record {
            serves = λ j c' q. sound.serves (suc j) c' (ap (then_steps s (steps s j)) is ∙ q);
            whole = λ j c' q. sound.whole (suc j) c' (ap (then_steps s (steps s j)) is ∙ q);
            light = λ j. subst (λ r. 2 * (reached r).weight + owed (reached r).stack ≤ times * (reached r).weight) (ap (then_steps s (steps s j)) is) (sound.light (suc j));
          }) m y (subst (λ r. C r y) (ap (then_steps s (steps s m)) is) o)
      behind m y (Throws cost error) i sound is e o = (
        0,
        subst (λ x. Q x (YY y)) (sym (turns_stay 0 (weighed cost c0) error ∙ rejects_same cost error))
            (subst (λ x. Q x (YY y)) (ap (λ r. XX (then_steps s (steps s m) r)) is ∙ rejects_stay m (weighed cost ct) error)
            (shown coding program own table names nodes times one s f g fields.names_are results known (same nodes) (steps s (suc m) ct) y o (sound.whole (suc m)) (sound.light (suc m)))),
      )
      behind m y (Traps cost text) i sound is e o = (
        0,
        subst (λ x. Q x (YY y)) (ap (λ r. XX (then_steps s (steps s m) r)) is)
            (shown coding program own table names nodes times one s f g fields.names_are results known (same nodes) (steps s (suc m) ct) y o (sound.whole (suc m)) (sound.light (suc m))),
      )
      behind m y (Prints cost text h k) i sound is e o = absurd i
      behind m y (Asks request) i sound is e o = absurd i
      behind m y (Awaits n number) i sound is e o = absurd i
      behind m y (acts.Leaves n v) i sound is e o = absurd i
      behind m y Stuck i sound is e o = absurd i

      throws_by : (w : core_value.Value) → ThrowsWith program context nodes s known f.cells world call stack frames err w → Sound times s ct → (y : Stand State core_machine.Waiting) (m : ℕ) → C (steps s m ct) y → (n : ℕ) × Q (XX (turns_given s (Fails err) n c0)) (YY y)
      throws_by w r sound y zero o = (
        0,
        by_turns coding program own table names nodes times one s f g fields.names_are results known (same nodes) (Still c0) (Still ct) (YY y) (Going c0 ct refl refl refl)
            (shown coding program own table names nodes times one s f g fields.names_are results known (same nodes) (Still ct) y o (sound.whole 0) (sound.light 0)),
      )
      throws_by w r sound y (suc m) o =
          let h : (n : ℕ) × Q (XX (then_steps s (turns s n) (given_turn s c0 thrown))) (YY y) = behind m y thrown (thrown_on f.cells (weighing 1) (load err) stack) sound refl r.turn o in
          (suc (h.0), subst (λ x. Q (XX x) (YY y)) (sym (given_turns s (Fails err) (h.0) c0 refl ∙ ap (then_steps s (turns s (h.0))) r.turn)) (h.1))

      abbrev High : core_value.Value → ℕ → Stand State core_machine.Waiting
      High w k = run M context k nodes 0 [] world (at program context nodes (Give w) (throwing program context nodes s known f.cells world call stack frames w))

      throws_lower : (w : core_value.Value) → ThrowsWith program context nodes s known f.cells world call stack frames err w → (k : ℕ) → Lower (execution.execution M context k world (Resumes (waits_with program context nodes s frames) (worlds.Throws w))) (High w (suc k))
      throws_lower w r k =
          (subst (λ x. Lower x (High w (suc k))) (sym (ap (after_step (run M context k) 0 0 0 []) r.entry ∙ heavier_step M context k 0 0 0 nodes [] step_of ∙ ap (λ i. after_step (run M context k) 0 i 0 [] step_of) (let z : 0 + nodes ≡ nodes = omega arith in z)))
          (lower_step M context k nodes 0 0 0 (16 + nodes + depth_of (throwing program context nodes s known f.cells world call stack frames w)) [] step_of (omega arith) (omega arith)))
        where
          step_of : Step State core_machine.Waiting
          step_of = focused program context nodes world (Give w) (throwing program context nodes s known f.cells world call stack frames w)

      throws : (w : core_value.Value) → ThrowsWith program context nodes s known f.cells world call stack frames err w → Sound times s ct → (k : ℕ) → Ends-with (Fails err) (worlds.Throws w) k
      throws w r sound k =
          let high : Stand State core_machine.Waiting = run M context (suc k) nodes 0 [] world (at program context nodes (Give w) (throwing program context nodes s known f.cells world call stack frames w)) in
          let h : (m : ℕ) × C (steps s m ct) high =
          covers program context nodes s head_is (same nodes) (accounted nodes) r.held known ct nodes 0 [] world (Give w) (throwing program context nodes s known f.cells world call stack frames w) r.together tt (λ j c' i. sound.serves j c' i) (λ j c' i. sound.whole j c' i) (suc k) in
          throws_by w r sound (execution.execution M context k world (Resumes (waits_with program context nodes s frames) (worlds.Throws w))) (h.0)
          (covers_less program context nodes known (steps s (h.0) ct) (execution.execution M context k world (Resumes (waits_with program context nodes s frames) (worlds.Throws w))) high
          (throws_lower w r k) (h.1))

    -- with any answer that belongs
    pub answered : (l : Labels) (held : ℕ) → StackBelongs program.groups known context.globals nodes true l held stack frames → endings stack ≤ nodes + owed stack → (given : Given) (answer : worlds.Given) → GivenBelongs known given answer
        → Sound times s (continued given f.cells waiting) → (k : ℕ) → Ends-with given answer k
    answered l held around few (Gets v) (worlds.Gets w) value sound k = gets v w ((answers program context nodes s known f.cells world call l held stack frames around worlds_belong few).0 v w value) sound k
    answered l held around few (Fails e) (worlds.Throws w) value sound k = throws e w ((answers program context nodes s known f.cells world call l held stack frames around worlds_belong few).1 e w value) sound k
    answered l held around few (Gets v) (worlds.Throws w) value sound k = absurd value
    answered l held around few (Fails e) (worlds.Gets w) value sound k = absurd value

    -- ---- where the typed execution has ended, the run has

    abbrev HasY : worlds.Given → Type 0
    HasY answer = (k : ℕ) × (other : Completion (Effects (core_language core_machine.Waiting K))) × ((YY (execution.execution M context k world (Resumes (waits_with program context nodes s frames) answer))).completion ≡ Some other)

    gets_end : (v : language.Value) (w : core_value.Value) → GoesWith program context nodes s known f.cells world call stack frames v w → Sound times s (continued (Gets v) f.cells waiting) → (n : ℕ) (last : Completion (Effects machine)) → (XX (turns_given s (Gets v) n c0)).completion ≡ Some last → HasY (worlds.Gets w)
    gets_end v w r sound zero last e = absurd (let z : None ≡ Some last = e in cc)
    gets_end v w r sound (suc n) last e = by (turns s n cv) refl (subst (λ r. (XX r).completion ≡ Some last) (given_turns s (Gets v) n c0 refl ∙ ap (then_steps s (turns s n)) r.turn) e)
      where
        cv : Configuration
        cv = continued (Gets v) f.cells waiting

        by : (x : Run) → turns s n cv ≡ x → (XX x).completion ≡ Some last → HasY (worlds.Gets w)
        by (Still c) i h = absurd (let z : None ≡ Some last = h in cc)
        by (Ended c end) i h =
            let b = ended_by s n cv c end i in
            let q : IsDone program context nodes s head_is (same nodes) (accounted nodes) known (1 + nodes) 0 [] world (Give w) frames (steps s (b.0) cv) =
            done program context nodes s head_is (same nodes) (accounted nodes) (b.0) r.held known cv (1 + nodes) 0 [] world (Give w) frames r.together tt (λ j c' i. sound.serves j c' i) (λ j c' i. sound.whole j c' i) in
            let fin : Finishes program context nodes known (1 + nodes) 0 [] world (Give w) frames (Ended c end) = subst (λ x. IsDone program context nodes s head_is (same nodes) (accounted nodes) known (1 + nodes) 0 [] world (Give w) frames x) (b.1) q in
            let z = ends_some coding program own table names nodes times one s f g fields.names_are results known (same nodes) fin.known' fin.grows fin.weight' fin.depth' fin.prints' fin.world' (Ended c end) fin.end fin.finish last h in
            (fin.steps + 0, z.0, ap (λ y. (YY y).completion) (enters_same w r.entry (fin.steps + 0) ∙ fin.by 0) ∙ z.1)

    module _ (err : language.Value) where
      abbrev Comes-to : Completion (Effects machine) → Type 0
      Comes-to last = (m : ℕ) × ((XX (steps s m (ct err))).completion ≡ Some last)

      -- the first step
      behind_end : (n : ℕ) (a : Act) → IsThrown a → step s (ct err) ≡ turn s (ct err) a → (last : Completion (Effects machine)) → (XX (then_steps s (turns s n) (given_turn s c0 a))).completion ≡ Some last → Comes-to last
      behind_end n (Goes cost store h k) i is last e = by (turns s n c1) refl e
        where
          c1 : Configuration
          c1 = moved cost store h k (ct err)

          by : (x : Run) → turns s n c1 ≡ x → (XX x).completion ≡ Some last → Comes-to last
          by (Still c) j h = absurd (let z : None ≡ Some last = h in cc)
          by (Ended c end) j h = let b = ended_by s n c1 c end j in (suc (b.0), subst (λ x. (XX x).completion ≡ Some last) (sym (ap (then_steps s (steps s (b.0))) is ∙ b.1)) h)
      behind_end n (Throws cost error) i is last e =
          (1, ap (λ r. (XX (then_steps s (steps s 0) r)).completion) is ∙ (ap (λ p. p.completion) (rejects_stay err 0 (weighed cost (ct err)) error ∙ (sym (turns_stay err n (weighed cost c0) error ∙ rejects_same err cost error))) ∙ e))
      behind_end n (Traps cost text) i is last e = (1, ap (λ r. (XX (then_steps s (steps s 0) r)).completion) is ∙ e)
      behind_end n (Prints cost text h k) i is last e = absurd i
      behind_end n (Asks request) i is last e = absurd i
      behind_end n (Awaits m number) i is last e = absurd i
      behind_end n (acts.Leaves m v) i is last e = absurd i
      behind_end n Stuck i is last e = absurd i

      abbrev Low : core_value.Value → ℕ → Stand State core_machine.Waiting
      Low w k = execution.execution M context k world (Resumes (waits_with program context nodes s frames) (worlds.Throws w))

      throws_end : (w : core_value.Value) → ThrowsWith program context nodes s known f.cells world call stack frames err w → Sound times s (ct err) → (n : ℕ) (last : Completion (Effects machine)) → (XX (turns_given s (Fails err) n c0)).completion ≡ Some last → HasY (worlds.Throws w)
      throws_end w r sound zero last e = absurd (let z : None ≡ Some last = e in cc)
      throws_end w r sound (suc n) last e =
          let b : Comes-to last = behind_end n (thrown err) (thrown_on f.cells (weighing 1) (load err) stack) refl last (subst (λ r. (XX r).completion ≡ Some last) (given_turns s (Fails err) n c0 refl ∙ ap (then_steps s (turns s n)) r.turn) e) in
          by (b.0) (steps s (b.0) (ct err)) refl (b.1)
        where
          frames' : List Frame
          frames' = throwing program context nodes s known f.cells world call stack frames w

          lowered : (c : Configuration) (end : configuration.End) → (fin : Finishes program context nodes known nodes 0 [] world (Give w) frames' (Ended c end)) → (XX (Ended c end)).completion ≡ Some last
              → (l : Lower (Low w fin.steps) (Over fin.weight' fin.depth' fin.prints' fin.world' fin.end)) → HasY (worlds.Throws w)
          lowered c end fin h l =
              let z = ends_some coding program own table names nodes times one s f g fields.names_are results known (same nodes) fin.known' fin.grows fin.weight' (l.0) fin.prints' fin.world' (Ended c end) fin.end
              (finish_lower program context nodes known fin.known' fin.weight' fin.depth' (l.0) fin.prints' fin.world' (Ended c end) fin.end (l.1) fin.finish) last h in
              (fin.steps, z.0, ap (λ y. (YY y).completion) (l.2) ∙ z.1)

          by : (m : ℕ) (x : Run) → steps s m (ct err) ≡ x → (XX x).completion ≡ Some last → HasY (worlds.Throws w)
          by m (Still c) i h = absurd (let z : None ≡ Some last = h in cc)
          by m (Ended c end) i h =
              let q : IsDone program context nodes s head_is (same nodes) (accounted nodes) known nodes 0 [] world (Give w) frames' (steps s m (ct err)) =
              done program context nodes s head_is (same nodes) (accounted nodes) m r.held known (ct err) nodes 0 [] world (Give w) frames' r.together tt (λ j c' i. sound.serves j c' i) (λ j c' i. sound.whole j c' i) in
              let fin : Finishes program context nodes known nodes 0 [] world (Give w) frames' (Ended c end) = subst (λ x. IsDone program context nodes s head_is (same nodes) (accounted nodes) known nodes 0 [] world (Give w) frames' x) i q in
              lowered c end fin h
              (subst (λ y. Lower (Low w fin.steps) y) (ap (λ i. run M context i nodes 0 [] world (at program context nodes (Give w) frames')) (let z : suc fin.steps ≡ fin.steps + 1 = omega arith in z) ∙ fin.by 1) (throws_lower err w r fin.steps))

    pub answered_end : (l : Labels) (held : ℕ) → StackBelongs program.groups known context.globals nodes true l held stack frames → endings stack ≤ nodes + owed stack → (given : Given) (answer : worlds.Given) → GivenBelongs known given answer
        → Sound times s (continued given f.cells waiting) → (n : ℕ) (last : Completion (Effects machine)) → (XX (turns_given s given n c0)).completion ≡ Some last → HasY answer
    answered_end l held around few (Gets v) (worlds.Gets w) value sound n last e = gets_end v w ((answers program context nodes s known f.cells world call l held stack frames around worlds_belong few).0 v w value) sound n last e
    answered_end l held around few (Fails e) (worlds.Throws w) value sound n last i = throws_end e w ((answers program context nodes s known f.cells world call l held stack frames around worlds_belong few).1 e w value) sound n last i
    answered_end l held around few (Gets v) (worlds.Throws w) value sound n last e = absurd value
    answered_end l held around few (Fails e) (worlds.Gets w) value sound n last i = absurd value

  module _ (head_is : context.head ≡ head_at s.types) (same : (nodes : ℕ) → Surrounded program context nodes s) (accounted : (nodes : ℕ) → Accounted program context nodes s) (known : List Known) (f : Fields) (g : core_actor.Fields) (fields : FieldsBelong program names context.globals known f g) where
    abbrev Goal : Waiting → Pending core_machine.Waiting → Given → worlds.Given → Type 0
    Goal w p given answer = Follows times (EffectsBelong program names context.globals f.exports known) (execution_of s f (kernel.Resumes w given)) (core_actor.run_body M coding program own table g (core_actor.GoesOn p answer))

    pub resumption_follows : (w : Waiting) (p : Pending core_machine.Waiting) → WaitingBelongs program names context.globals known w p → endings w.stack ≤ w.nodes + owed w.stack → (given : Given) (answer : worlds.Given) → GivenBelongs known given answer → Sound times s (continued given f.cells w) → Goal w p given answer
    resumption_follows w p r few given answer value sound zero = (0, record { begun = ([], refl); whole = tt; weight = omega arith; depth = omega arith; completion = tt })
    resumption_follows w p r few given answer value sound (suc k) =
        let h = answered head_is same accounted known f g fields w.results w.nodes r.future w.stack p.waiting.stack r.labels r.held r.around few given answer value
        (subst (λ fo. Sound times s (continued given f.cells (record { nodes = w.nodes; results = w.results; focus = fo; stack = w.stack }))) r.focus sound) k in (
          h.0,
          subst (λ ns. B (XX (turns_given s given (h.0) (beginning w.nodes f.cells w.focus w.stack))) (core_actor.body_progress M coding program g p.results (execution.execution M (core_actor.context_of M coding program own table ns) k world_now (Resumes p.waiting answer)))) (sym fields.names_are)
              (subst (λ fo. B (XX (turns_given s given (h.0) (beginning w.nodes f.cells fo w.stack))) (core_actor.body_progress M coding program g p.results (execution.execution M context k world_now (Resumes p.waiting answer)))) (sym r.focus)
              (subst (λ n. B (XX (turns_given s given (h.0) (beginning w.nodes f.cells (Ready action.Await (Made (Future r.future) NoValue ∷ [])) w.stack))) (core_actor.body_progress M coding program g p.results (execution.execution M context k world_now (Resumes (record { stack = p.waiting.stack; nodes = n }) answer)))) (sym r.nodes)
              (subst (λ rs. B (XX (turns_given s given (h.0) (beginning w.nodes f.cells (Ready action.Await (Made (Future r.future) NoValue ∷ [])) w.stack))) (core_actor.body_progress M coding program g rs (execution.execution M context k world_now (Resumes (record { stack = p.waiting.stack; nodes = w.nodes }) answer)))) (sym r.results)
              (h.1)))),
        )
      where
        B : Progress (Effects machine) → Progress (Effects (core_language core_machine.Waiting K)) → Type 0
        B = ProgressBelongs times (EffectsBelong program names context.globals f.exports known)

        XX : Run → Progress (Effects machine)
        XX r = shared_progress f w.results (as_reply s w.results r)

        world_now : World
        world_now = record { store = g.cells; groups = g.groups; requests = [] }

    pub resumption_ends : (w : Waiting) (p : Pending core_machine.Waiting) → WaitingBelongs program names context.globals known w p → endings w.stack ≤ w.nodes + owed w.stack → (given : Given) (answer : worlds.Given) → GivenBelongs known given answer → Sound times s (continued given f.cells w)
        → EndsToo (execution_of s f (kernel.Resumes w given)) (core_actor.run_body M coding program own table g (core_actor.GoesOn p answer))
    resumption_ends w p r few given answer value sound (n, last, e) =
        let h = answered_end head_is same accounted known f g fields w.results w.nodes r.future w.stack p.waiting.stack r.labels r.held r.around few given answer value
        (subst (λ fo. Sound times s (continued given f.cells (record { nodes = w.nodes; results = w.results; focus = fo; stack = w.stack }))) r.focus sound) n last
        (subst (λ fo. (shared_progress f w.results (as_reply s w.results (turns_given s given n (beginning w.nodes f.cells fo w.stack)))).completion ≡ Some last) r.focus e) in (
          suc (h.0),
          h.1,
          subst (λ ns. (core_actor.body_progress M coding program g p.results (execution.execution M (core_actor.context_of M coding program own table ns) (h.0) world_now (Resumes p.waiting answer))).completion ≡ Some (h.1)) (sym fields.names_are)
              (subst (λ n. (core_actor.body_progress M coding program g p.results (execution.execution M context (h.0) world_now (Resumes (record { stack = p.waiting.stack; nodes = n }) answer))).completion ≡ Some (h.1)) (sym r.nodes)
              (subst (λ rs. (core_actor.body_progress M coding program g rs (execution.execution M context (h.0) world_now (Resumes (record { stack = p.waiting.stack; nodes = w.nodes }) answer))).completion ≡ Some (h.1)) (sym r.results)
              (h.2))),
        )
      where
        world_now : World
        world_now = record { store = g.cells; groups = g.groups; requests = [] }

pub resumptions : (coding : Messages Kept) (program : Core) (own : Bytes) (table : CallTable (List TypeId) worlds.Given) (names : List core_value.Value) (s : Surroundings) → ResumptionsFollow coding program own table names s
resumptions coding program own table names s times one around known f g fields w p waits few given answer value sound =
    resumption_follows coding program own table names times one s around.head around.surrounded around.accounted known f g fields w p waits few given answer value sound

pub resumptions_end : (coding : Messages Kept) (program : Core) (own : Bytes) (table : CallTable (List TypeId) worlds.Given) (names : List core_value.Value) (s : Surroundings) → ResumptionsEnd coding program own table names s
resumptions_end coding program own table names s times one around known f g fields w p waits few given answer value sound =
    resumption_ends coding program own table names times one s around.head around.surrounded around.accounted known f g fields w p waits few given answer value sound
