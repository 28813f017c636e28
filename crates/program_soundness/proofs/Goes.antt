-- Executions of typed programs end, or weigh as much as they have turned: so under any limits each event comes to something.
use Rattle.std.proofs.Common.{◌≡◌, ◌⊎◌, inl, inr, ℕ, zero, suc, ◌≤◌, List, [], ◌∷◌, ◌++◌, length, Bool, true, false, cond, Option, Some, None, refl, sym, ap, ◌∙◌, subst, slice_get, codes, nat_eq, nat_lt, arith}
use Rattle.play_script.specs.declared.event.Event.{Event}
use Rattle.play_script.specs.declared.event.Event.TheVariants as event
use Rattle.play_script.specs.declared.item.Item.{Item}
use Rattle.play_script.specs.declared.item.Word.TheVariants as word
use Rattle.mo_types.specs.declared.node.TypeId.{TypeId}
use Rattle.mo_types.specs.Calls.{Answered, call_at, is_open_state, open_count, set_state}
use Rattle.mo_types.specs.Sub.{Each, IsSomething}
use Rattle.mo_values.specs.Shapes.{Bytes}
use Rattle.mo_actor.specs.CallAnswers.{Received, Reply, Reject, received_value, received_reading, resumed, answering, answer_outcome, open_course, answer_course}
use Rattle.mo_actor.specs.Completions.{update_outcome, query_outcome}
use Rattle.mo_actor.specs.Courses.{Course, Over, Runs, ComesTo}
use Rattle.mo_actor.specs.Executions.{Progress, Execution, Completion, Completes, ReadingCost, trapping, and_reading}
use Rattle.mo_actor.specs.Executions as execution
use Rattle.mo_actor.specs.IncomingCalls.{arrived, entered, entered_body, query_course, update_course}
use Rattle.mo_actor.specs.Measures.{Measure, Spent}
use Rattle.mo_actor.specs.Outcomes.{Outcome}
use Rattle.mo_actor.specs.Programs as actor
use Rattle.mo_actor.specs.Programs.{Effects, Replies}
use Rattle.mo_actor.specs.Results.{Result, Completed, Trapped, Exhausted, HasResult}
use Rattle.mo_actor.specs.States.{IsAnswered, WaitsFor, Actor, ActorState, NoActor, Running, activation_at, waiting_on}
use Rattle.mo_actor.specs.Steps.{life_course, event_course, Step, RunsFrom, ActorRun}
use Rattle.mo_actor.specs.Upgrades.{installed, install_course, saving, saved, upgraded, upgrade_course}
use Rattle.mo_actor.proofs.CarriedLife.{to_states}
use Rattle.mo_actor.proofs.Events.{event_of}
use Rattle.typed_tree.specs.declared.program.Program.{Program as TypedProgram}
use Rattle.typed_tree.specs.Language.{Value, Exp}
use Rattle.typed_tree.specs.Programs.{Program}
use Rattle.typed_tree.specs.ProgramView.{program}
use Rattle.typed_tree.specs.WellTyped.{WellTyped}
use Rattle.mo_meaning.specs.Actor.{meaning, surroundings, entered as reads, method_from}
use Rattle.mo_meaning.specs.Acts.{Given}
use Rattle.mo_meaning.specs.Bodies.{body_execution, shared_progress}
use Rattle.mo_meaning.specs.Coding.{Types, Coding, IsFaithful}
use Rattle.mo_meaning.specs.Configurations.{Configuration, End, Returns, Responds, Suspends, Sleeps, Traps, Breaks, Run, Still, Ended, Surroundings, weighed}
use Rattle.mo_meaning.specs.Kernel.{kernel, Fields, Kept, Waiting, Entry, Body, Enters, Resumes}
use Rattle.mo_meaning.specs.Messages.{read_values, message_cost}
use Rattle.mo_meaning.specs.Saving.{alone, saving_from, kept_progress}
use Rattle.mo_meaning.specs.Starting.{fields_progress, start_from}
use Rattle.mo_meaning.specs.Turns.{message, most_bytes, too_long, give, turns, then_turns, turns_given, replies, as_reply}
use Rattle.mo_meaning.proofs.Payment.{all_paid}
use Rattle.mo_meaning.specs.Messages.{unpacked}
use Rattle.mo_soundness.specs.Lawful.{IsLawful}
use Rattle.mo_soundness.specs.Running.{AnswerTypes, still}
use Rattle.program_soundness.specs.Actors.{IsProper, IsNoInstallation, IsSaid, IsTypedProgram, AreTyped, StateTyped}
use Rattle.program_soundness.specs.Agreement.{Agrees}
use Rattle.program_soundness.specs.Bodies.{IsEntry, FieldsTyped, BodyFits, Shares}
use Rattle.program_soundness.specs.Results.{GivesResults, AreResults}
use Rattle.program_soundness.specs.Runs.{Fitting, EndsFit, ReturnsOrTraps}
use Rattle.program_soundness.specs.Starting.{AreExports}
use Rattle.program_soundness.specs.Starts.{IsStarting, quiet}
use Rattle.program_soundness.proofs.Actors.{Known, typed_known, method_is, parameters_of, answered_agrees, waiting_is, resumes_fit, event_keeps}
use Rattle.program_soundness.proofs.Bodies.{body_ends}
use Rattle.program_soundness.proofs.Calls.{Standing}
use Rattle.program_soundness.proofs.Given.{lawful_types, program_shares, variables_share}
use Rattle.program_soundness.proofs.Installs.{start_ends}
use Rattle.program_soundness.proofs.Read.{read_typed}
use Rattle.program_soundness.proofs.Saves.{hook_run_ends, hook_saves}
use Rattle.program_soundness.proofs.Tables.{Entry as Row}
use Rattle.program_soundness.proofs.Turns.{run_quiet}
use Rattle.program_soundness.specs.Worlds.{running}
use Rattle.typed_tree.specs.Types.{AreLawful}

-- ---- executions

abbrev Goes : {A : Type 0} → ℕ → Progress A → Type 0
Goes n p = IsSomething p.completion ⊎ (n ≤ suc p.weight)

abbrev GoesOn : {A : Type 0} → Execution A → Type 0
GoesOn x = (n : ℕ) → Goes n (x n)

trapping_goes : (A : Type 0) (text : List ℕ) (n : ℕ) → Goes n (trapping {A = A} text n)
trapping_goes A text zero = inr (omega arith)
trapping_goes A text (suc n) = inl tt

reading_goes : {A : Type 0} (cost : ReadingCost) (n : ℕ) (p : Progress A) → Goes n p → Goes n (and_reading cost p)
reading_goes cost n p (inl h) = inl h
reading_goes cost n p (inr h) = inr (omega (arith, h))

-- within as many turns as there are steps it has ended, or has used them up
settled : {A : Type 0} (steps stack pages first charged : ℕ) (x : Execution A) → GoesOn x → (r : Result A) × HasResult (Spent steps stack pages) first charged x r
settled {A = A} steps stack pages first charged x g = by (x steps).completion refl (g steps)
  where
    by : (o : Option (Completion A)) → (x steps).completion ≡ o → Goes steps (x steps) → (r : Result A) × HasResult (Spent steps stack pages) first charged x r
    by (Some (Completes end)) q h =
        (Completed (x steps).prints (x steps).weight end, (steps, (x steps).depth, ap (λ o. record { prints = (x steps).prints; weight = (x steps).weight; depth = (x steps).depth; completion = o }) q))
    by (Some (execution.Traps text)) q h = (Trapped (x steps).prints text, (steps, refl, q))
    by None q (inl h) = absurd (subst IsSomething q h)
    by None q (inr h) = (Exhausted [] word.Steps, (steps, refl, ((x steps).prints, refl), omega (arith, h)))

-- ---- turns

abbrev Weighs : ℕ → Run → Type 0
Weighs n (Still d) = n ≤ suc d.weight
Weighs n (Ended c end) = Unit {0}

turns_weigh : (s : Surroundings) (n : ℕ) (c : Configuration) → Weighs n (turns s n c)
turns_weigh s n c = by (turns s n c) refl
  where
    by : (run : Run) → turns s n c ≡ run → Weighs n run
    by (Still d) q = let m = all_paid s n c d q in omega (arith, m)
    by (Ended d end) q = tt

given_weigh : (s : Surroundings) (g : Given) (n : ℕ) (c : Configuration) → Weighs n (turns_given s g n c)
given_weigh s g zero c = omega arith
given_weigh s g (suc n) c = by (give s g c)
  where
    on : (d : Configuration) (run : Run) → turns s n d ≡ run → Weighs (suc n) run
    on d (Still e) q = let m = all_paid s n d e q in omega (arith, m)
    on d (Ended e end) q = tt

    by : (run : Run) → Weighs (suc n) (then_turns s (turns s n) run)
    by (Still d) = on d (turns s n d) refl
    by (Ended d end) = tt

-- ---- bodies

module _ (s : Surroundings) (P : Fitting Exp) (results : List TypeId) (fields : Fields) (answers : AnswerTypes) (kinds : List TypeId) (n : ℕ) where
  abbrev Ends : Run → Type 0
  Ends run = EndsFit s P (AreResults (running s.types) results) answers kinds run

  replies_go : (c : Configuration) (vs : List Value) (o : Option Bytes) → Ends (replies s vs o c) → Goes n (shared_progress fields results (replies s vs o c))
  replies_go c vs None h = absurd h.4
  replies_go c vs (Some bytes) h = by (weighed (message_cost vs bytes) c) (nat_lt most_bytes (length bytes))
    where
      by : (d : Configuration) (b : Bool) → Goes n (shared_progress fields results (cond b (Ended d (Traps too_long)) (Ended d (Responds (Replies bytes)))))
      by d true = inl tt
      by d false = inl tt

  reply_goes : (run : Run) → Weighs n run → Ends (as_reply s results run) → Goes n (shared_progress fields results (as_reply s results run))
  reply_goes (Still c) m h = inr m
  reply_goes (Ended c (Returns v)) m h = replies_go c (unpacked results v) (message s results (unpacked results v)) h
  reply_goes (Ended c (Responds answer)) m h = inl tt
  reply_goes (Ended c (Suspends call nodes)) m h = inl tt
  reply_goes (Ended c Sleeps) m h = inl tt
  reply_goes (Ended c (Traps text)) m h = inl tt
  reply_goes (Ended c Breaks) m h = absurd h.4

body_goes : (s : Surroundings) (lawful : IsLawful (running s.types).head) (shared : AreLawful s.types) (p : Program) (shares : Shares s.types p) (answers : AnswerTypes) (kinds : List TypeId) (fields : Fields) (body : Body) → answers.may_call ≡ true → FieldsTyped s.types p answers kinds fields
    → Agrees (running s.types) answers kinds s.table → BodyFits s.types p answers kinds body → GoesOn (body_execution s fields body)
body_goes s lawful shared p shares answers kinds fields (Enters entry caller vs) may h a b n =
    reply_goes s (GivesResults (running s.types) entry.results) entry.results fields answers kinds n _ (turns_weigh s n _) (body_ends s lawful shared p shares answers kinds fields (Enters entry caller vs) n may h a b)
body_goes s lawful shared p shares answers kinds fields (Resumes w g) may h a b n =
    reply_goes s (GivesResults (running s.types) w.results) w.results fields answers kinds n _ (given_weigh s g n _) (body_ends s lawful shared p shares answers kinds fields (Resumes w g) n may h a b)

-- ---- starts and savings

start_goes : (n : ℕ) (run : Run) → Weighs n run → ((c : Configuration) (end : End) → run ≡ Ended c end → ReturnsOrTraps end) → Goes n (fields_progress run)
start_goes n (Still c) m h = inr m
start_goes n (Ended c (Returns v)) m h = inl tt
start_goes n (Ended c (Traps text)) m h = inl tt
start_goes n (Ended c (Responds answer)) m h = absurd (h c (Responds answer) refl)
start_goes n (Ended c (Suspends call nodes)) m h = absurd (h c (Suspends call nodes) refl)
start_goes n (Ended c Sleeps) m h = absurd (h c Sleeps refl)
start_goes n (Ended c Breaks) m h = absurd (h c Breaks refl)

save_goes : (coding : Coding) (types : Types) (p : Program) (exports : Value) (n : ℕ) (run : Run) → Weighs n run → ((c : Configuration) (end : End) → run ≡ Ended c end → ReturnsOrTraps end)
    → ((c : Configuration) (v : Value) → run ≡ Ended c (Returns v) → IsSomething (kept_progress coding types p exports run).completion) → Goes n (kept_progress coding types p exports run)
save_goes coding types p exports n (Still c) m h k = inr m
save_goes coding types p exports n (Ended c (Returns v)) m h k = inl (k c v refl)
save_goes coding types p exports n (Ended c (Traps text)) m h k = inl tt
save_goes coding types p exports n (Ended c (Responds answer)) m h k = absurd (h c (Responds answer) refl)
save_goes coding types p exports n (Ended c (Suspends call nodes)) m h k = absurd (h c (Suspends call nodes) refl)
save_goes coding types p exports n (Ended c Sleeps) m h k = absurd (h c Sleeps refl)
save_goes coding types p exports n (Ended c Breaks) m h k = absurd (h c Breaks refl)

-- ---- the executions of a typed program

module _ (coding : Coding) (faithful : IsFaithful coding) (p : TypedProgram) (w : WellTyped p) (own : Bytes) (short : length own ≤ 29) (first : ℕ) where
  abbrev M : actor.Program kernel
  M = meaning coding first p.types (program p)

  lawful : IsLawful (running p.types).head
  lawful = lawful_types p.types w.types w.basics

  shared : AreLawful p.types
  shared = w.types

  program_starts : (kept : Option Kept) → GoesOn (M.start own kept)
  program_starts kept n =
      let run = turns (alone coding p.types own) n (start_from coding p.types (program p) own kept) in
      start_goes n run (turns_weigh (alone coding p.types own) n (start_from coding p.types (program p) own kept))
      (λ c end q. run_quiet (alone coding p.types own) (IsStarting p.types p kept) (AreExports p.types p) run c end quiet [] refl
      (start_ends p w lawful own short coding faithful (variables_share p.types w.end p.stable w.stable) shared kept n) q)

  module _ (answers : AnswerTypes) (kinds : List TypeId) (a : Actor kernel) (k : Known coding faithful p w own short answers kinds a) where
    program_saves : GoesOn (M.save own a.store)
    program_saves n =
        let run = turns (alone coding p.types own) n (saving_from (program p) a.store) in
        save_goes coding p.types (program p) a.store.exports n run (turns_weigh (alone coding p.types own) n (saving_from (program p) a.store))
        (λ c end q. run_quiet (alone coding p.types own) (GivesResults (running p.types) []) (AreResults (running p.types) []) run c end (still answers) kinds refl
        (hook_run_ends coding p.types (program p) lawful shared own answers kinds a.store k.fields n) q)
        (λ c v q. hook_saves coding p.types (program p) lawful shared (program_shares p w).stable own answers kinds a.store k.fields n c v q)

    saving_goes : GoesOn (saving M own a)
    saving_goes n = by (nat_eq (open_count a.table) 0)
      where
        by : (b : Bool) → Goes n (cond b (M.save own a.store) (trapping (codes "outstanding calls")) n)
        by true = program_saves n
        by false = trapping_goes Kept (codes "outstanding calls") n

    call_goes : (entry : Entry) (caller bytes : Bytes) → IsEntry (program p) entry → length caller ≤ 29 → GoesOn (entered M own a entry caller bytes)
    call_goes entry caller bytes is few n = reading_goes (M.argument_cost entry bytes) n (entered_body M own a (reads entry caller (read_values coding p.types entry.parameters bytes)) n) (by (read_values coding p.types entry.parameters bytes) refl)
      where
        by : (o : Option (List Value)) → read_values coding p.types entry.parameters bytes ≡ o → Goes n (entered_body M own a (reads entry caller o) n)
        by None e = trapping_goes (Effects kernel) (codes "bad argument") n
        by (Some vs) e =
            body_goes (surroundings coding p.types own a.table) lawful shared (program p) (program_shares p w) answers kinds a.store (Enters entry caller vs) k.may k.fields k.calls
            (is, few, read_typed p.types w.types answers kinds coding faithful entry.parameters bytes vs (parameters_of coding faithful p w own short entry is) e) n

    answer_goes : (number : ℕ) (call : Row) → call_at a.table number ≡ Some call → is_open_state call.state ≡ true → (received : Received) → IsProper (event_of number received) → GoesOn (answering M own a number call received)
    answer_goes number call found opened received proper n =
        reading_goes (received_reading M own a call received) n (resumed M own a number (received_value M own a call received) (waiting_on number (activation_at a.activations call.owner)) n) (by (received_value M own a call received) refl (waiting_on number (activation_at a.activations call.owner)) refl)
      where
        by : (o : Option Given) → received_value M own a call received ≡ o → (x : Option Waiting) → waiting_on number (activation_at a.activations call.owner) ≡ x → Goes n (resumed M own a number o x n)
        by None e x i = trapping_goes (Effects kernel) (codes "bad reply") n
        by (Some g) e None i = inl tt
        by (Some g) e (Some v) i =
            body_goes (surroundings coding p.types own (set_state a.table number (Answered (Some g)))) lawful shared (program p) (program_shares p w) answers kinds a.store (Resumes v g) k.may k.fields
            (answered_agrees coding faithful p w own short first a answers kinds k number call found opened received proper (Some g) e)
            (resumes_fit coding faithful p w own short first a answers kinds k number call found opened received proper v g
            (waiting_is coding faithful p w own short first a answers kinds k number call found opened received proper (activation_at a.activations call.owner) v i) e) n

-- ---- courses

abbrev IsLived : Event → Type 0
IsLived (event.Install number) = ⊥
IsLived (event.Upgrade number) = ⊥
IsLived _ = Unit {0}

module _ (coding : Coding) (faithful : IsFaithful coding) (steps stack pages : ℕ) (programs : List (actor.Program kernel)) (typed : AreTyped coding programs) (own : Bytes) (short : length own ≤ 29) where
  abbrev pays : Measure
  pays = Spent steps stack pages

  abbrev Comes : {S : Type 0} → Course S → Type 0
  Comes {S = S} c = (o : Outcome S) × ComesTo pays c o

  one_run : {S A : Type 0} (first charged : ℕ) (x : Execution A) (f : Result A → Outcome S) → GoesOn x → Comes (Runs A first charged x (λ r. Over (f r)))
  one_run first charged x f g = let r = settled steps stack pages first charged x g in (f r.0, (r.0, r.1, refl))

  module _ (p : TypedProgram) (w : WellTyped p) (first : ℕ) (answers : AnswerTypes) (kinds : List TypeId) (a : Actor kernel) (k : Known coding faithful p w own short answers kinds a) where
    abbrev N : actor.Program kernel
    N = meaning coding first p.types (program p)

    entry_is : (query : Bool) (name : Bytes) (entry : Entry) → method_from 0 query name (program p).methods ≡ Some entry → IsEntry (program p) entry
    entry_is query name entry found = method_is (program p) query name (program p).methods 0 entry (λ j m e. ap (slice_get (program p).methods) (omega arith) ∙ e) found

    query_comes : (name caller bytes : Bytes) → length caller ≤ 29 → (o : Option Entry) → N.query name ≡ o → Comes (query_course N own a o caller bytes)
    query_comes name caller bytes few None found = (_, refl)
    query_comes name caller bytes few (Some entry) found =
        one_run first a.charged (entered N own a entry caller bytes) (λ r. query_outcome (length a.activations) (arrived a) r) (call_goes coding faithful p w own short first answers kinds a k entry caller bytes (entry_is true name entry found) few)

    update_comes : (name caller bytes : Bytes) → length caller ≤ 29 → (o : Option Entry) → N.update name ≡ o → Comes (update_course N own a o (N.query name) caller bytes)
    update_comes name caller bytes few None found = query_comes name caller bytes few (N.query name) refl
    update_comes name caller bytes few (Some entry) found =
        one_run first a.charged (entered N own a entry caller bytes) (λ r. update_outcome (length a.activations) (arrived a) r) (call_goes coding faithful p w own short first answers kinds a k entry caller bytes (entry_is false name entry found) few)

    open_comes : (number : ℕ) (received : Received) → IsProper (event_of number received) → (call : Row) → call_at a.table number ≡ Some call → (b : Bool) → is_open_state call.state ≡ b → Comes (open_course N own a b number call received)
    open_comes number received proper call found false opened = (_, refl)
    open_comes number received proper call found true opened =
        one_run first a.charged (answering N own a number call received) (λ r. answer_outcome number call.owner (received_value N own a call received) a r)
        (answer_goes coding faithful p w own short first answers kinds a k number call found opened received proper)

    answer_comes : (number : ℕ) (received : Received) → IsProper (event_of number received) → (o : Option Row) → call_at a.table number ≡ o → Comes (answer_course N own a number received o)
    answer_comes number received proper None found = (_, refl)
    answer_comes number received proper (Some call) found = open_comes number received proper call found (is_open_state call.state) refl

    life_comes : (e : Event) → IsProper e → IsLived e → Comes (life_course N own e a)
    life_comes (event.Call true name caller bytes) proper lived = query_comes name caller bytes proper (N.query name) refl
    life_comes (event.Call false name caller bytes) proper lived = update_comes name caller bytes proper (N.update name) refl
    life_comes (event.Reply number bytes) proper lived = answer_comes number (Reply bytes) proper (call_at a.table number) refl
    life_comes (event.Reject number code text) proper lived = answer_comes number (Reject code text) proper (call_at a.table number) refl
    life_comes (event.Install number) proper lived = absurd lived
    life_comes (event.Upgrade number) proper lived = absurd lived

  -- ---- events

  start_comes : (q : actor.Program kernel) (t : IsTypedProgram coding q) (kept : Option Kept) → GoesOn (q.start own kept)
  start_comes q t kept =
      let p = t.program_of in
      subst (λ (x : actor.Program kernel). GoesOn (x.start own kept)) (sym t.is) (program_starts coding faithful p t.well_typed own short t.first kept)

  install_comes : (number made : ℕ) (activations : List Standing) (o : Option (actor.Program kernel)) → slice_get programs number ≡ o → Comes (install_course own made activations o)
  install_comes number made activations None found = (_, refl)
  install_comes number made activations (Some q) found = one_run q.first_memory 0 (q.start own None) (λ r. installed q made activations r) (start_comes q (typed number q found) None)

  saved_comes : (old : actor.Program kernel) (a : Actor kernel) (q : actor.Program kernel) → IsTypedProgram coding q → (r : Result Kept) → Comes (saved own old a q r)
  saved_comes old a q t (Completed prints weight kept) = one_run q.first_memory 0 (q.start own (Some kept)) (λ r. upgraded old a q prints r) (start_comes q t (Some kept))
  saved_comes old a q t (Trapped prints text) = (_, refl)
  saved_comes old a q t (Exhausted prints cause) = (_, refl)

  state_known : (q : actor.Program kernel) (a : Actor kernel) (st : StateTyped coding (Running q a)) → Known coding faithful st.0.program_of st.0.well_typed own short st.1.answers st.1.kinds a
  state_known q a st = typed_known coding faithful st.0.program_of st.0.well_typed own short a st.1

  upgrade_comes : (number : ℕ) (old : actor.Program kernel) (a : Actor kernel) (st : StateTyped coding (Running old a)) (o : Option (actor.Program kernel)) → slice_get programs number ≡ o → Comes (upgrade_course own old a o)
  upgrade_comes number old a st None found = (_, refl)
  upgrade_comes number old a st (Some q) found =
      let t = st.0 in
      let goes : GoesOn (saving old own a) =
      subst (λ (x : actor.Program kernel). GoesOn (saving x own a)) (sym t.is) (saving_goes coding faithful t.program_of t.well_typed own short t.first st.1.answers st.1.kinds a (state_known old a st)) in
      let r = settled steps stack pages old.first_memory a.charged (saving old own a) goes in
      let next = saved_comes old a q (typed number q found) r.0 in
      (next.0, (r.0, r.1, next.1))

  lives : (q : actor.Program kernel) (a : Actor kernel) (e : Event) → IsProper e → IsLived e → StateTyped coding (Running q a) → Comes (event_course programs own e (Running q a))
  lives q a e proper lived st = by e proper lived
    where
      life : (e : Event) → IsProper e → IsLived e → Comes (life_course q own e a)
      life e proper lived =
          let t = st.0 in
          subst (λ (x : actor.Program kernel). Comes (life_course x own e a)) (sym t.is) (life_comes t.program_of t.well_typed t.first st.1.answers st.1.kinds a (state_known q a st) e proper lived)

      by : (e : Event) → IsProper e → IsLived e → Comes (event_course programs own e (Running q a))
      by (event.Call query name caller bytes) proper lived = let c = life (event.Call query name caller bytes) proper lived in (_, to_states pays (Running q) (life_course q own (event.Call query name caller bytes) a) c.0 c.1)
      by (event.Reply number bytes) proper lived = let c = life (event.Reply number bytes) proper lived in (_, to_states pays (Running q) (life_course q own (event.Reply number bytes) a) c.0 c.1)
      by (event.Reject number code text) proper lived = let c = life (event.Reject number code text) proper lived in (_, to_states pays (Running q) (life_course q own (event.Reject number code text) a) c.0 c.1)
      by (event.Install number) proper lived = absurd lived
      by (event.Upgrade number) proper lived = absurd lived

  pub event_comes : (e : Event) (state : ActorState kernel) → IsProper e → IsSaid e state → StateTyped coding state → (reached : Outcome (ActorState kernel)) × Step pays programs own e state reached
  event_comes (event.Install number) (NoActor made activations) proper said st = install_comes number made activations (slice_get programs number) refl
  event_comes (event.Call query name caller bytes) (NoActor made activations) proper said st = (_, refl)
  event_comes (event.Reply number bytes) (NoActor made activations) proper said st = (_, refl)
  event_comes (event.Reject number code text) (NoActor made activations) proper said st = (_, refl)
  event_comes (event.Upgrade number) (NoActor made activations) proper said st = (_, refl)
  event_comes (event.Install number) (Running q a) proper said st = absurd said
  event_comes (event.Call query name caller bytes) (Running q a) proper said st = lives q a (event.Call query name caller bytes) proper tt st
  event_comes (event.Reply number bytes) (Running q a) proper said st = lives q a (event.Reply number bytes) proper tt st
  event_comes (event.Reject number code text) (Running q a) proper said st = lives q a (event.Reject number code text) proper tt st
  event_comes (event.Upgrade number) (Running q a) proper said st = upgrade_comes number q a st (slice_get programs number) refl

  -- ---- runs

  later_said : (e : Event) (state : ActorState kernel) → IsNoInstallation e → IsSaid e state
  later_said e (NoActor made activations) h = tt
  later_said e (Running q a) h = h

  pub runs_from : (events : List Event) (state : ActorState kernel) → Each IsProper events → Each IsNoInstallation events → StateTyped coding state → (items : List Item) × RunsFrom pays programs own state events items
  runs_from [] state proper said st = ([], refl)
  runs_from (e ∷ events) state proper said st =
      let o = event_comes e state proper.0 (later_said e state said.0) st in
      let r = runs_from events (o.0).next proper.1 said.1 (event_keeps coding faithful pays programs typed own short e state o.0 proper.0 st o.1) in
      ((o.0).items ++ r.0, (o.0, o.1, r.0, refl, r.1))

  no_actor_typed : StateTyped coding (NoActor 0 [])
  no_actor_typed owner number v q = absurd (let z : IsAnswered ≡ WaitsFor number v = q in cc)

  -- from no actor, behind an installation
  pub run_of : (number : ℕ) (events : List Event) → Each IsProper events → Each IsNoInstallation events → (items : List Item) × ActorRun pays programs own (event.Install number ∷ events) items
  run_of number events proper said =
      let o = event_comes (event.Install number) (NoActor 0 []) tt tt no_actor_typed in
      let r = runs_from events (o.0).next proper said (event_keeps coding faithful pays programs typed own short (event.Install number) (NoActor 0 []) o.0 tt no_actor_typed o.1) in
      ((o.0).items ++ r.0, (o.0, o.1, r.0, refl, r.1))
