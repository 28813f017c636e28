-- The actor of a well-typed program is as elaboration asks, and each event leaves it typed.
use Rattle.std.proofs.Common.{◌≡◌, ℕ, zero, suc, ◌+◌, ◌≤◌, List, [], ◌∷◌, length, map, Bool, true, false, true≢false, Option, Some, None, refl, sym, ap, ◌∙◌, subst, slice_get, replicate, codes, arith, append-nil}
use Rattle.mo_types.specs.declared.node.TypeId.{TypeId}
use Rattle.mo_types.specs.Calls.{Answered, Call, CallTable, call_at, is_open_state, set_state}
use Rattle.mo_types.specs.Sub.{AtSome}
use Rattle.mo_values.specs.Shapes.{Bytes, Future}
use Rattle.mo_actor.specs.CallAnswers.{Received, Reply, Reject, received_value, reply_value, filled, broken, answering, resumed, no_effects}
use Rattle.mo_actor.specs.Completions.{committed}
use Rattle.mo_actor.specs.Executions.{Completion, Completes, Execution, trapping}
use Rattle.mo_actor.specs.IncomingCalls.{arrived, entered, entered_body}
use Rattle.mo_actor.specs.Measures.{Unmeasured}
use Rattle.mo_actor.specs.Passes.{fresh_state, answer_event}
use Rattle.mo_actor.specs.Programs as actor
use Rattle.mo_actor.specs.Programs.{Effects, Ending, Unchanged}
use Rattle.mo_actor.specs.Results.{Completed, HasResult}
use Rattle.mo_actor.specs.States.{Activation, IsAnswered, WaitsFor, Actor, activation_at, waiting_on}
use Rattle.mo_actor.proofs.Events.{event_of}
use Rattle.typed_tree.specs.declared.action.Action.TheVariants as action
use Rattle.typed_tree.specs.declared.program.Program.{Program as TypedProgram}
use Rattle.typed_tree.specs.Language as language
use Rattle.typed_tree.specs.Language.{Functions}
use Rattle.typed_tree.specs.Programs.{Program}
use Rattle.typed_tree.specs.ProgramView.{program}
use Rattle.typed_tree.specs.Basics.{HasBasics}
use Rattle.typed_tree.specs.Types.{AreLawful}
use Rattle.typed_tree.specs.Wants.{Of}
use Rattle.typed_tree.specs.WellTyped.{WellTyped}
use Rattle.mo_meaning.specs.Acts as meaning_act
use Rattle.mo_meaning.specs.Acts.{Given, Gets, Fails}
use Rattle.mo_meaning.specs.Actor.{meaning, method_from, surroundings}
use Rattle.mo_meaning.specs.Bodies.{context}
use Rattle.mo_meaning.specs.Coding.{Coding, IsFaithful}
use Rattle.mo_meaning.specs.Configurations.{Surroundings}
use Rattle.mo_meaning.specs.Kernel as kernel
use Rattle.mo_meaning.specs.Kernel.{Entry, Kept}
use Rattle.mo_meaning.specs.Messages.{read_values}
use Rattle.mo_soundness.specs.Answered.{IsAsking}
use Rattle.mo_soundness.specs.Keeps as soundness
use Rattle.mo_soundness.specs.Lawful.{IsLawful}
use Rattle.mo_soundness.specs.Running.{AnswerTypes, HasValue}
use Rattle.mo_soundness.proofs.More.{longer_self}
use Rattle.program_soundness.specs.Actors.{IsProper, WaitFits}
use Rattle.program_soundness.specs.Agreement.{GivenFits, Agrees, WaitsOn}
use Rattle.program_soundness.specs.Bodies.{IsEntry, BodyFits, EffectsFit}
use Rattle.program_soundness.specs.Roles.{AMethod, IsFunctionAs, calling}
use Rattle.program_soundness.specs.Starts.{quiet}
use Rattle.program_soundness.specs.Worlds.{running}
use Rattle.program_soundness.proofs.Actors as soundly
use Rattle.program_soundness.proofs.Actors.{method_is, parameters_of, answered_agrees, resumes_fit}
use Rattle.program_soundness.proofs.Bodies.{body_left}
use Rattle.program_soundness.proofs.Given.{lawful_types, program_shares, variables_share}
use Rattle.program_soundness.proofs.Installs.{start_left}
use Rattle.program_soundness.proofs.Read.{read_typed}
use Rattle.program_soundness.proofs.Tables.{in_range}
use Rattle.program_soundness.proofs.Turns.{grows_self}
use Rattle.mo_machine.specs.Acts.{Store}
use Rattle.mo_machine.specs.ActorLanguage.{machine, Fields, Waiting, Body, Enters, Resumes, unload_fields, unload_waiting, unload_body, unload_effects, on_completion}
use Rattle.mo_machine.specs.Bodies.{beginning, entering, execution_of, shared_progress}
use Rattle.mo_machine.specs.Configurations.{Configuration, Returns, Responds, Suspends, Sleeps, Traps, Breaks, Run, Still, Ended}
use Rattle.mo_machine.specs.Environments.{Environment}
use Rattle.mo_machine.specs.Exports.{function_at}
use Rattle.mo_machine.specs.Frames.{Focus, Stack, Ready}
use Rattle.mo_machine.specs.States as states
use Rattle.mo_machine.specs.States.{with_states}
use Rattle.mo_machine.specs.Turns.{steps, steps_given}
use Rattle.mo_machine.specs.Unload.{unload, unload_list, unload_state}
use Rattle.mo_machine.specs.Values.{Value, Made, Closure, NoValue, load, load_list}
use Rattle.mo_machine.proofs.States.{runs_alike, starts_alike}
use Rattle.elaboration_actors.specs.Bodies.{continued}
use Rattle.elaboration_premises.specs.Methods.{IsCall}
use Rattle.elaboration_premises.specs.Serving.{Served, IsTyped}
use Rattle.elaboration_premises.proofs.Executions.{executions_serve, resumptions_serve}
use Rattle.elaboration_premises.proofs.Methods.{methods_meet, methods_serve}
use Rattle.elaboration_premises.proofs.Replaced.{errors_are_typed}
use Rattle.elaboration_sound.specs.Events.{ServedActor, ActorsServe}
use Rattle.elaboration_sound.specs.Typed.{WaitsAs, CommittedTyped}
use Rattle.elaboration_sound.proofs.Functions.{method_function, closure_of}
use Rattle.elaboration_sound.proofs.Held.{Row, Known, known_committed, committed_known}
use Rattle.elaboration_sound.proofs.Left.{known_arrived, known_filled, known_broken, known_left}

-- ---- executions

never_completes : {A : Type 0} (text : Bytes) (n : ℕ) (x : A) → (trapping {A = A} text n).completion ≡ Some (Completes x) → ⊥
never_completes text zero x q = cc
never_completes text (suc n) x q = cc

-- an execution of a body leaves its activation in another state
is_unchanged : Ending machine → Bool
is_unchanged Unchanged = true
is_unchanged _ = false

stays : Option (Completion (Effects machine)) → Bool
stays (Some (Completes e)) = is_unchanged e.ending
stays _ = false

never_stays : (fields : Fields) (results : List TypeId) (r : Run) → stays (shared_progress fields results r).completion ≡ false
unfolding stays is_unchanged
never_stays fields results (Still c) = refl
never_stays fields results (Ended c (Returns v)) = refl
never_stays fields results (Ended c (Responds answer)) = refl
never_stays fields results (Ended c (Suspends call nodes)) = refl
never_stays fields results (Ended c Sleeps) = refl
never_stays fields results (Ended c (Traps text)) = refl
never_stays fields results (Ended c Breaks) = refl

changes : (fields : Fields) (results : List TypeId) (r : Run) (effects : Effects machine) → (shared_progress fields results r).completion ≡ Some (Completes effects) → effects.ending ≡ Unchanged → ⊥
unfolding stays is_unchanged
changes fields results r effects q e = true≢false (sym (ap is_unchanged e) ∙ sym (ap stays q) ∙ never_stays fields results r)

-- ---- a body that waits for a future goes on with what it is given

module _ (s : Surroundings) (graph : AreLawful s.types) (basics : HasBasics s.types) (results : List TypeId) (store : Store) (nodes : ℕ) (stack : Stack) (future : ℕ) where
  abbrev awaiting : Focus
  awaiting = Ready action.Await (Made (Future future) NoValue ∷ [])

  abbrev begin : Configuration
  begin = beginning nodes store awaiting stack

  module _ (answers : AnswerTypes) (kinds : List TypeId) (typed : IsTyped s results answers kinds begin) (may : answers.may_call ≡ true) (call : ℕ) (t : TypeId) (known : answers.types call ≡ Some t) (waits : WaitsOn (running s.types) call (unload_state awaiting stack)) where
    given_suits : (g : Given) → GivenFits (running s.types) answers kinds t g → soundness.Suits (running s.types) answers kinds (Some g) (meaning_act.Awaits waits.0 call)
    given_suits (Gets v) h = subst (λ o. AtSome o (λ u. HasValue (running s.types) answers kinds (Of u) v)) (sym known) h
    given_suits (Fails e) h = h

    resumption : (g : Given) → GivenFits (running s.types) answers kinds t g → Served (λ j. steps_given s g j begin)
    resumption g h =
        resumptions_serve s graph basics results answers kinds begin typed g (subst IsAsking (sym (waits.1 (unload_list store))) tt)
        (subst (soundness.Suits (running s.types) answers kinds (Some g)) (sym (waits.1 (unload_list store))) (given_suits g h))

    resumed_serves : (g : Given) → GivenFits (running s.types) answers kinds t g → Served (λ j. steps s j (continued g store (record { nodes = nodes; results = results; focus = awaiting; stack = stack })))
    resumed_serves (Gets v) h = let r = resumption (Gets v) h in record { serves = λ j c q. r.serves (suc j) c q; whole = λ j c q. r.whole (suc j) c q }
    resumed_serves (Fails e) h =
        executions_serve s graph basics results answers kinds (beginning nodes store (Ready action.Throw (load e ∷ [])) stack)
        (errors_are_typed s results answers kinds begin (Made (Future future) NoValue) e typed refl h may)

module _ (coding : Coding) (faithful : IsFaithful coding) (p : TypedProgram) (w : WellTyped p) (first : ℕ) (own : Bytes) (short : length own ≤ 29) where
  abbrev P : Program
  P = program p

  abbrev M : actor.Program machine
  M = with_states coding first p.types P

  abbrev K : actor.Program kernel.kernel
  K = meaning coding first p.types P

  lawful : IsLawful (running p.types).head
  lawful = lawful_types p.types w.types w.basics

  entry_is : (query : Bool) (name : Bytes) (entry : Entry) → method_from 0 query name P.methods ≡ Some entry → IsEntry P entry
  entry_is query name entry found = method_is P query name P.methods 0 entry (λ j m e. ap (slice_get P.methods) (omega arith) ∙ e) found

  abbrev around : CallTable (List TypeId) Given → Surroundings
  around table = surroundings coding p.types own table

  module _ (answers : AnswerTypes) (kinds : List TypeId) (a : Actor machine) (k : Known p.types P answers kinds a) where
    -- what a body leaves
    run_fits : (table : CallTable (List TypeId) Given) → Agrees (running p.types) answers kinds table → (body : Body) → BodyFits p.types P answers kinds (unload_body body) → (n : ℕ) (effects : Effects machine)
        → (execution_of (around table) a.store body n).completion ≡ Some (Completes effects) → EffectsFit p.types P answers kinds table (unload_effects effects) × ((effects.ending ≡ Unchanged) → effects.calls ≡ [])
    run_fits table agreed body fits n effects q = (
      body_left (around table) lawful w.types P (program_shares p w) answers kinds (unload_fields a.store) (unload_body body) n (unload_effects effects) k.may k.fields agreed fits
          (ap (λ x. x.completion) (sym (runs_alike coding first p.types P own table a.store body n)) ∙ ap (on_completion unload_effects) q),
      λ e. absurd (changes a.store _ _ effects q e),
    )

    -- ---- calls that come in

    module _ (query : Bool) (name caller argument : Bytes) (entry : Entry) (found : method_from 0 query name P.methods ≡ Some entry) (few : length caller ≤ 29) where
      entry_fits : IsEntry P entry
      entry_fits = entry_is query name entry found

      module _ (vs : List language.Value) (read : read_values coding p.types entry.parameters argument ≡ Some vs) where
        arguments : soundness.HasEach (running p.types) answers kinds (map (λ t. Of t) entry.parameters) vs
        arguments = read_typed p.types w.types answers kinds coding faithful entry.parameters argument vs (parameters_of coding faithful p w own short entry entry_fits) read

        function : IsFunctionAs p.types answers kinds (AMethod entry.parameters entry.results) (unload (function_at a.store.exports entry.place))
        function = method_function p.types lawful P answers kinds a.store entry k.fields entry_fits

        is_call : (group : Functions) (which : ℕ) (env : Environment) → function_at a.store.exports entry.place ≡ Closure group which env → IsCall (around a.table) answers kinds group which env entry.parameters entry.results caller vs
        is_call group which env e = record { function = subst (λ v. IsFunctionAs p.types answers kinds (AMethod entry.parameters entry.results) (unload v)) e function; principal = few; arguments = arguments }

        entered_serves : Served (λ j. steps (around a.table) j (entering a.store entry caller vs))
        entered_serves =
            let c = closure_of p.types lawful P answers kinds (AMethod entry.parameters entry.results) (function_at a.store.exports entry.place) function in
            subst (λ v. Served (λ j. steps (around a.table) j (beginning (2 + length caller) a.store.cells (Ready action.Call (v ∷ load (context caller) ∷ load_list vs)) []))) (sym c.3)
            (methods_serve (around a.table) w.types w.basics answers kinds c.0 c.1 c.2 entry.parameters entry.results caller vs (is_call c.0 c.1 c.2 c.3) k.may a.store.cells k.fields.cells k.calls)

      called_fit : (n : ℕ) (effects : Effects machine) → (entered M own a entry caller argument n).completion ≡ Some (Completes effects) → EffectsFit p.types P answers kinds a.table (unload_effects effects) × ((effects.ending ≡ Unchanged) → effects.calls ≡ [])
      called_fit n effects q = by (read_values coding p.types entry.parameters argument) refl q
        where
          by : (o : Option (List language.Value)) → read_values coding p.types entry.parameters argument ≡ o → (entered_body M own a (states.entered entry caller o) n).completion ≡ Some (Completes effects)
              → EffectsFit p.types P answers kinds a.table (unload_effects effects) × ((effects.ending ≡ Unchanged) → effects.calls ≡ [])
          by None e z = absurd (never_completes (codes "bad argument") n effects z)
          by (Some vs) e z = run_fits a.table k.calls (Enters entry caller vs) (entry_fits, few, arguments vs e) n effects z

    -- ---- answers that come in

    module _ (number : ℕ) (c : Row) (found : call_at a.table number ≡ Some c) (opened : is_open_state c.state ≡ true) where
      abbrev waits : Option Waiting
      waits = waiting_on number (activation_at a.activations c.owner)

      -- an actor of the meaning where nothing but this waits
      abbrev standing : Option Waiting → Activation kernel.kernel
      standing None = IsAnswered
      standing (Some v) = WaitsFor number (unload_waiting v)

      abbrev lone : Actor kernel.kernel
      lone = record { store = unload_fields a.store; table = a.table; activations = replicate (suc c.owner) (standing waits); charged = a.charged }

      abbrev Fine : Activation kernel.kernel → Type 0
      Fine x = (n : ℕ) (v : kernel.Waiting) → x ≡ WaitsFor n v → WaitFits p.types P answers kinds a.table n v

      standing_fine : (o : Option Waiting) → waits ≡ o → Fine (standing o)
      standing_fine None e n v q = absurd (let z : IsAnswered ≡ WaitsFor n v = q in cc)
      standing_fine (Some u) e n v q =
          let z : ◌≡◌ {A = Activation kernel.kernel} (WaitsFor number (unload_waiting u)) (WaitsFor n v) = q in
          let at : number ≡ n = cc in
          let same : unload_waiting u ≡ v = cc in
          subst (λ m. WaitFits p.types P answers kinds a.table m v) at (subst (WaitFits p.types P answers kinds a.table number) same (record {
            made = (in_range a.table.first a.table.calls number c found).1;
            typed = λ d r o.
                let alike : c ≡ d = (let y : Some c ≡ Some d = sym found ∙ r in cc) in
                subst (λ (x : Row). WaitsAs p.types P answers kinds number x u) alike (k.waits number c found opened u e);
          }))

      repeated : (n : ℕ) (x : Activation kernel.kernel) (other : ℕ) → Fine x → Fine (activation_at (replicate n x) other)
      repeated zero x other h = λ m v q. absurd (let z : IsAnswered ≡ WaitsFor m v = q in cc)
      repeated (suc n) x zero h = h
      repeated (suc n) x (suc other) h = repeated n x other h

      found_last : (n : ℕ) (x : Activation kernel.kernel) → activation_at (replicate (suc n) x) n ≡ x
      found_last zero x = refl
      found_last (suc n) x = found_last n x

      lone_known : soundly.Known coding faithful p w own short answers kinds lone
      lone_known = record { may = k.may; fields = k.fields; calls = k.calls; waits = λ owner. repeated (suc c.owner) (standing waits) owner (standing_fine waits refl) }

      module _ (received : Received) (proper : IsProper (answer_event number received)) where
        proper_so : (r : Received) → IsProper (answer_event number r) → IsProper (event_of number r)
        proper_so (Reply bytes) h = h
        proper_so (Reject code text) h = h

        abbrev value : Option Given
        value = received_value M own a c received

        reply_same : (o : Option ℕ) (bytes : Bytes) → reply_value K own lone c o bytes ≡ reply_value M own a c o bytes
        reply_same None bytes = refl
        reply_same (Some future) bytes = refl

        value_same : (r : Received) → received_value K own lone c r ≡ received_value M own a c r
        value_same (Reply bytes) = reply_same c.resumes bytes
        value_same (Reject code text) = refl

        agreed : (o : Option Given) → value ≡ o → Agrees (running p.types) answers kinds (set_state a.table number (Answered o))
        agreed o e = answered_agrees coding faithful p w own short first lone answers kinds lone_known number c found opened received (proper_so received proper) o (value_same received ∙ e)

        fits : (v : Waiting) (g : Given) → waits ≡ Some v → value ≡ Some g → BodyFits p.types P answers kinds (kernel.Resumes (unload_waiting v) g)
        fits v g q e =
            resumes_fit coding faithful p w own short first lone answers kinds lone_known number c found opened received (proper_so received proper) (unload_waiting v) g
            (found_last c.owner (standing waits) ∙ stands waits q) (value_same received ∙ e)
          where
            stands : (o : Option Waiting) → o ≡ Some v → standing o ≡ WaitsFor number (unload_waiting v)
            stands None z = absurd (let y : None ≡ Some v = z in cc)
            stands (Some u) z = let same : u ≡ v = cc in ap (λ x. WaitsFor number (unload_waiting x)) same

        -- where it goes on
        goes_on : (v : Waiting) (g : Given) (future : ℕ) → v.focus ≡ Ready action.Await (Made (Future future) NoValue ∷ []) → waits ≡ Some v → value ≡ Some g
            → Served (λ j. steps (around (set_state a.table number (Answered (Some g)))) j (continued g a.store.cells v))
        goes_on v g future e q i =
            let s = around (set_state a.table number (Answered (Some g))) in
            let f = fits v g q i in
            let same : v ≡ record v { focus = Ready action.Await (Made (Future future) NoValue ∷ []) } = ap (λ x. record v { focus = x }) e in
            let typed : IsTyped s v.results answers kinds (beginning v.nodes a.store.cells v.focus v.stack) = (
              (
                k.fields.cells,
                (λ m. subst (λ (cs : List Row). Agrees (running p.types) answers kinds (record { first = a.table.first; calls = cs })) (sym (append-nil (set_state a.table number (Answered (Some g))).calls)) (agreed (Some g) i)),
                λ m. refl,
              ),
              f.0.1,
            ) in
            subst (λ (x : Waiting). Served (λ j. steps s j (continued g a.store.cells x))) (sym same)
            (resumed_serves s w.types w.basics v.results a.store.cells v.nodes v.stack future answers kinds
            (subst (λ x. IsTyped s v.results answers kinds (beginning v.nodes a.store.cells x v.stack)) e typed) k.may f.1.0 f.1.1 f.1.2
            (subst (λ x. WaitsOn (running p.types) f.1.0 (unload_state x v.stack)) e f.1.3) g f.1.4)

        answered_fit : (n : ℕ) (effects : Effects machine) → (answering M own a number c received n).completion ≡ Some (Completes effects)
            → EffectsFit p.types P answers kinds (set_state a.table number (Answered value)) (unload_effects effects) × ((effects.ending ≡ Unchanged) → effects.calls ≡ [])
        answered_fit n effects z = by value refl waits refl z
          where
            nothing_left : (table : CallTable (List TypeId) Given) → Agrees (running p.types) answers kinds table → EffectsFit p.types P answers kinds table (unload_effects (no_effects a))
            nothing_left table h = (
              answers,
              kinds,
              grows_self answers,
              longer_self kinds,
              (k.fields, subst (λ (cs : List Row). Agrees (running p.types) answers kinds (record { first = table.first; calls = cs })) (sym (append-nil table.calls)) h, tt),
            )

            by : (o : Option Given) → value ≡ o → (x : Option Waiting) → waits ≡ x → (resumed M own a number o x n).completion ≡ Some (Completes effects)
                → EffectsFit p.types P answers kinds (set_state a.table number (Answered o)) (unload_effects effects) × ((effects.ending ≡ Unchanged) → effects.calls ≡ [])
            by None e x i q = absurd (never_completes (codes "bad reply") n effects q)
            by (Some g) e None i q =
                let same : no_effects a ≡ effects = cc in
                subst (λ (x : Effects machine). EffectsFit p.types P answers kinds (set_state a.table number (Answered (Some g))) (unload_effects x) × ((x.ending ≡ Unchanged) → x.calls ≡ [])) same
                (nothing_left (set_state a.table number (Answered (Some g))) (agreed (Some g) e), λ y. refl)
            by (Some g) e (Some v) i q = run_fits (set_state a.table number (Answered (Some g))) (agreed (Some g) e) (Resumes v g) (fits v g i e) n effects q

  -- ---- all

  -- a completed result, as the execution has it
  completes : {A : Type 0} (charged : ℕ) (x : Execution A) (prints : List Bytes) (weight : ℕ) (end : A) → HasResult Unmeasured first charged x (Completed prints weight end) → (n : ℕ) × ((x n).completion ≡ Some (Completes end))
  completes charged x prints weight end h = (h.0, ap (λ r. r.completion) h.2)

  begun_known : (kept : Option Kept) (n : ℕ) (store : Fields) → (M.start own kept n).completion ≡ Some (Completes store) → (made : ℕ) → CommittedTyped p.types P (fresh_state store made)
  begun_known kept n store q made =
      let h = start_left p w lawful own short coding faithful (variables_share p.types w.end p.stable w.stable) w.types kept n (unload_fields store)
      (ap (λ x. x.completion) (sym (starts_alike coding first p.types P own kept n)) ∙ ap (on_completion unload_fields) q) in
      record {
        answers = calling quiet;
        kinds = h.0;
        may_call = refl;
        fields = h.1;
        calls = λ m t e. absurd (let z : None ≡ Some t = e in cc);
        waits = tt;
      }

  pub actor_serves : ServedActor coding p.types P first own (CommittedTyped p.types P)
  actor_serves = record {
    enters = λ a safe query called name caller argument entry found few vs read.
        let k = committed_known p.types P a safe in (
          entered_serves safe.answers safe.kinds a k query name caller argument entry found few vs read,
          λ group which env f is there known ws belong.
              methods_meet (around a.table) w.types w.basics safe.answers safe.kinds group which env entry.parameters entry.results caller vs (is_call safe.answers safe.kinds a k query name caller argument entry found few vs read group which env is) known f ws there belong,
        );
    resumes = λ a safe number c there received proper value is v waiting future focus.
        goes_on safe.answers safe.kinds a (committed_known p.types P a safe) number c there.0 there.1 received proper v value future focus waiting is;
    begun = λ kept prints weight store has made. let r = completes 0 (M.start own kept) prints weight store has in begun_known kept r.0 store r.1 made;
    called = λ a safe name caller argument entry found few prints weight effects has.
        let k = committed_known p.types P a safe in
        let r = completes a.charged (entered M own a entry caller argument) prints weight effects has in
        let f = called_fit safe.answers safe.kinds a k false name caller argument entry found few r.0 effects r.1 in
        known_committed p.types P f.0.0 f.0.1 (committed (length a.activations) weight effects (arrived a))
        (known_left p.types P lawful safe.answers safe.kinds (arrived a) (known_arrived p.types P lawful safe.answers safe.kinds a k) (length a.activations) weight effects f.1 f.0);
    answered = λ a safe number c there received proper prints weight effects has.
        let k = committed_known p.types P a safe in
        let o = received_value M own a c received in
        let r = completes a.charged (answering M own a number c received) prints weight effects has in
        let f = answered_fit safe.answers safe.kinds a k number c there.0 there.1 received proper r.0 effects r.1 in
        known_committed p.types P f.0.0 f.0.1 (committed c.owner weight effects (filled number o a))
        (known_left p.types P lawful safe.answers safe.kinds (filled number o a)
        (known_filled p.types P lawful safe.answers safe.kinds a k number o (agreed safe.answers safe.kinds a k number c there.0 there.1 received proper o refl)) c.owner weight effects f.1 f.0);
    trapped = λ a safe number c there.
        known_committed p.types P safe.answers safe.kinds (broken number c.owner a) (known_broken p.types P lawful safe.answers safe.kinds a (committed_known p.types P a safe) number c.owner);
  }

pub actors_serve : ActorsServe
actors_serve coding faithful p w first own short = actor_serves coding faithful p w first own short
