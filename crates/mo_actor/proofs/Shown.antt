-- The items tell whether anything was exhausted.
use Rattle.std.proofs.Common.{◌≡◌, ℕ, Bool, true, false, List, [], ◌∷◌, ◌++◌, length, Option, Some, None, refl, sym, ap, ◌∙◌, subst, true≢false, slice_get}
use Rattle.std.specs.Prelude.{⊤}
use Rattle.std.specs.List.{list_any}
use Rattle.play_script.specs.declared.event.Event.{Event}
use Rattle.play_script.specs.declared.event.Event.TheVariants as event
use Rattle.play_script.specs.declared.item.Item.{Item}
use Rattle.play_script.specs.declared.item.Item.TheVariants as item
use Rattle.play_script.specs.declared.item.Word.{Word}
use Rattle.play_script.specs.declared.item.Word.TheVariants as word
use Rattle.mo_types.specs.Calls.{Call, is_open_state, call_at}
use Rattle.mo_actor.specs.Languages.{Language}
use Rattle.mo_actor.specs.Executions.{Execution}
use Rattle.mo_actor.specs.Programs.{Effects, Program}
use Rattle.mo_actor.specs.Measures.{Measure, Never, is_limit}
use Rattle.mo_actor.specs.Results.{Result, Completed, Trapped, Exhausted, HasResult}
use Rattle.mo_actor.specs.States.{Activation, Actor, ActorState, NoActor, Running}
use Rattle.mo_actor.specs.Outcomes.{Outcome, print_items, trap_items}
use Rattle.mo_actor.specs.Courses.{Course, Over, Runs, NoCourse, over_states, ComesTo}
use Rattle.mo_actor.specs.Completions.{update_outcome, query_outcome}
use Rattle.mo_actor.specs.IncomingCalls.{arrived, query_course, update_course, call_course}
use Rattle.mo_actor.specs.CallAnswers.{Received, Reply, Reject, broken, filled, answer_outcome, open_course, answer_course}
use Rattle.mo_actor.specs.Upgrades.{installed, install_course, upgraded, saved, upgrade_course}
use Rattle.mo_actor.specs.Steps.{life_course, event_course, RunsFrom}
use Rattle.mo_actor.specs.Reached.{is_exhausted}
use Rattle.mo_actor.specs.Laws.{ExhaustionsShow, UnexhaustedRunsShowNone}
use Rattle.mo_actor.proofs.Lists.{all_append}
use Rattle.mo_actor.proofs.Outcomes.{AllOutcomes, each_outcome, all_over}
use Rattle.mo_actor.proofs.Items.{NoneOf, any_none, any_front, any_back, any_here, any_trapped, IsQuiet, no_prints, none_closed, none_completed, none_queried}
use Rattle.mo_actor.proofs.Events.{Cases, each_event}

-- ---- an exhausted execution shows

after_prints : (before : List (List ℕ)) (items : List Item) → list_any is_exhausted items ≡ true → list_any is_exhausted (print_items before ++ items) ≡ true
after_prints [] items e = e
after_prints (text ∷ before) items e = after_prints before items e

module _ (pays : Measure) where
  abbrev Shows : {S : Type 0} → Course S → Type 0
  Shows (Over o) = ⊤
  Shows (Runs A first_memory charged x behind) =
      ((prints : List (List ℕ)) (cause : Word) → is_limit cause ≡ true → AllOutcomes pays (λ o. list_any is_exhausted o.items ≡ true) (behind (Exhausted prints cause)))
      × ((r : Result A) → Shows (behind r))
  Shows NoCourse = ⊤

  unexhausted : {S : Type 0} (c : Course S) → Shows c → (o : Outcome S) → ComesTo pays c o → list_any is_exhausted o.items ≡ false → ComesTo Never c o
  unexhausted (Over q) shows o h none = h
  unexhausted (Runs A first_memory charged x behind) shows o h none =
      by h.0 h.1 h.2 (λ r rest. unexhausted (behind r) (shows.1 r) o rest none)
    where
      by : (r : Result A) → HasResult pays first_memory charged x r → ComesTo pays (behind r) o → ((r : Result A) → ComesTo pays (behind r) o → ComesTo Never (behind r) o)
          → (r : Result A) × HasResult Never first_memory charged x r × ComesTo Never (behind r) o
      by (Completed prints weight a) has rest next = (Completed prints weight a, has, next (Completed prints weight a) rest)
      by (Trapped prints text) has rest next = (Trapped prints text, has, next (Trapped prints text) rest)
      by (Exhausted prints cause) has rest next =
          absurd (true≢false (sym (each_outcome pays (λ o. list_any is_exhausted o.items ≡ true) (behind (Exhausted prints cause)) (shows.0 prints cause has.1) o rest) ∙ none))
  unexhausted NoCourse shows o h none = h

  shows_over : {S T : Type 0} (f : S → T) (c : Course S) → Shows c → Shows (over_states f c)
  shows_over f (Over o) shows = tt
  shows_over f (Runs A first_memory charged x behind) shows =
      (λ prints cause e. all_over pays (λ o. list_any is_exhausted o.items ≡ true) f (behind (Exhausted prints cause)) (shows.0 prints cause e), λ r. shows_over f (behind r) (shows.1 r))
  shows_over f NoCourse shows = tt

  module _ {L : Language} (own : List ℕ) where
    module _ (p : Program L) (a : Actor L) where
      query_shows : (method : Option L.method) (caller bytes : List ℕ) → Shows (query_course p own a method caller bytes)
      query_shows None caller bytes = tt
      query_shows (Some method) caller bytes = (λ prints cause e. any_trapped is_exhausted (length a.activations) prints cause (arrived a) e, λ r. tt)

      update_shows : (method query : Option L.method) (caller bytes : List ℕ) → Shows (update_course p own a method query caller bytes)
      update_shows None query caller bytes = query_shows query caller bytes
      update_shows (Some method) query caller bytes = (λ prints cause e. any_trapped is_exhausted (length a.activations) prints cause (arrived a) e, λ r. tt)

      call_shows : (query : Bool) (name caller bytes : List ℕ) → Shows (call_course p own a query name caller bytes)
      call_shows true name caller bytes = query_shows (p.query name) caller bytes
      call_shows false name caller bytes = update_shows (p.update name) (p.query name) caller bytes

      open_shows : (is_open : Bool) (number : ℕ) (call : Call L.results L.value) (received : Received) → Shows (open_course p own a is_open number call received)
      open_shows false number call received = tt
      open_shows true number call received = (λ prints cause e. any_trapped is_exhausted call.owner prints cause (broken number call.owner a) e, λ r. tt)

      answer_shows : (number : ℕ) (received : Received) (call : Option (Call L.results L.value)) → Shows (answer_course p own a number received call)
      answer_shows number received None = tt
      answer_shows number received (Some call) = open_shows (is_open_state call.state) number call received

      life_shows : (e : Event) → Shows (life_course p own e a)
      life_shows (event.Install number) = tt
      life_shows (event.Call query name caller bytes) = call_shows query name caller bytes
      life_shows (event.Reply number bytes) = answer_shows number (Reply bytes) (call_at a.table number)
      life_shows (event.Reject number code text) = answer_shows number (Reject code text) (call_at a.table number)
      life_shows (event.Upgrade number) = tt

    install_shows : (made : ℕ) (activations : List (Activation L)) (p : Option (Program L)) → Shows (install_course own made activations p)
    install_shows made activations None = tt
    install_shows made activations (Some p) = (λ prints cause e. any_here is_exhausted (print_items prints) [] (item.Trapped cause) e, λ r. tt)

    saved_shows : (old : Program L) (a : Actor L) (p : Program L) (r : Result L.kept) → Shows (saved own old a p r)
    saved_shows old a p (Completed before weight kept) =
        (λ prints cause e. after_prints before (trap_items prints cause) (any_here is_exhausted (print_items prints) [] (item.Trapped cause) e), λ r. tt)
    saved_shows old a p (Trapped prints text) = tt
    saved_shows old a p (Exhausted prints cause) = tt

    upgrade_shows : (old : Program L) (a : Actor L) (p : Option (Program L)) → Shows (upgrade_course own old a p)
    upgrade_shows old a None = tt
    upgrade_shows old a (Some p) = (λ prints cause e. any_here is_exhausted (print_items prints) [] (item.Trapped cause) e, λ r. saved_shows old a p r)

    event_shows : (programs : List (Program L)) (e : Event) (state : ActorState L) → Shows (event_course programs own e state)
    event_shows programs (event.Install number) (NoActor made activations) = install_shows made activations (slice_get programs number)
    event_shows programs (event.Call query name caller bytes) (NoActor made activations) = tt
    event_shows programs (event.Reply number bytes) (NoActor made activations) = tt
    event_shows programs (event.Reject number code text) (NoActor made activations) = tt
    event_shows programs (event.Upgrade number) (NoActor made activations) = tt
    event_shows programs (event.Install number) (Running p a) = tt
    event_shows programs (event.Call query name caller bytes) (Running p a) = shows_over (Running p) (life_course p own (event.Call query name caller bytes) a) (life_shows p a (event.Call query name caller bytes))
    event_shows programs (event.Reply number bytes) (Running p a) = shows_over (Running p) (life_course p own (event.Reply number bytes) a) (life_shows p a (event.Reply number bytes))
    event_shows programs (event.Reject number code text) (Running p a) = shows_over (Running p) (life_course p own (event.Reject number code text) a) (life_shows p a (event.Reject number code text))
    event_shows programs (event.Upgrade number) (Running p a) = upgrade_shows p a (slice_get programs number)

    run_shows : (programs : List (Program L)) (events : List Event) (state : ActorState L) (items : List Item) → RunsFrom pays programs own state events items
        → list_any is_exhausted items ≡ false → RunsFrom Never programs own state events items
    run_shows programs [] state items h none = h
    run_shows programs (e ∷ events) state items h none =
        let split : list_any is_exhausted ((h.0).items ++ h.2) ≡ false = sym (ap (λ l. list_any is_exhausted l) h.3) ∙ none in (
          h.0,
          unexhausted (event_course programs own e state) (event_shows programs e state) h.0 h.1 (any_front is_exhausted (h.0).items h.2 split),
          h.2,
          h.3,
          run_shows programs events (h.0).next h.2 h.4 (any_back is_exhausted (h.0).items h.2 split),
        )

pub exhaustions_show : (L : Language) (pays : Measure) → ExhaustionsShow L pays
exhaustions_show L pays programs own events items h none = run_shows pays own programs events (NoActor 0 []) items h none

-- ---- and nothing else does

quiet : IsQuiet is_exhausted
quiet = record {
  print = λ text. refl;
  call = λ number callee method argument. refl;
  replied = λ number bytes. refl;
  rejected = λ number code text. refl;
}

abbrev none_of : List Item → Type 0
none_of items = NoneOf is_exhausted items

trap_quiet : (prints : List (List ℕ)) (text : List ℕ) → NoneOf is_exhausted (trap_items prints (word.Text text))
trap_quiet prints text = all_append (λ i. is_exhausted i ≡ false) (print_items prints) (item.Trapped (word.Text text) ∷ []) (no_prints is_exhausted quiet prints) (refl, tt)

module _ {L : Language} where
  abbrev Quiet : Event → ActorState L → Outcome (ActorState L) → Type 0
  Quiet e state o = NoneOf is_exhausted o.items

  update_quiet : (first_memory charged : ℕ) (x : Execution (Effects L)) (owner : ℕ) (a : Actor L) (r : Result (Effects L)) → HasResult Never first_memory charged x r → NoneOf is_exhausted (update_outcome owner a r).items
  update_quiet first_memory charged x owner a (Completed prints weight effects) has = none_completed is_exhausted quiet owner prints weight effects a
  update_quiet first_memory charged x owner a (Trapped prints text) has = none_closed is_exhausted quiet owner (trap_items prints (word.Text text)) a (trap_quiet prints text)
  update_quiet first_memory charged x owner a (Exhausted prints cause) has = absurd has.3

  query_quiet : (first_memory charged : ℕ) (x : Execution (Effects L)) (owner : ℕ) (a : Actor L) (r : Result (Effects L)) → HasResult Never first_memory charged x r → NoneOf is_exhausted (query_outcome owner a r).items
  query_quiet first_memory charged x owner a (Completed prints weight effects) has = none_queried is_exhausted quiet owner prints effects.ending a
  query_quiet first_memory charged x owner a (Trapped prints text) has = none_closed is_exhausted quiet owner (trap_items prints (word.Text text)) a (trap_quiet prints text)
  query_quiet first_memory charged x owner a (Exhausted prints cause) has = absurd has.3

  answer_quiet : (first_memory charged : ℕ) (x : Execution (Effects L)) (number owner : ℕ) (value : Option L.value) (a : Actor L) (r : Result (Effects L)) → HasResult Never first_memory charged x r
      → NoneOf is_exhausted (answer_outcome number owner value a r).items
  answer_quiet first_memory charged x number owner value a (Completed prints weight effects) has = none_completed is_exhausted quiet owner prints weight effects (filled number value a)
  answer_quiet first_memory charged x number owner value a (Trapped prints text) has =
      none_closed is_exhausted quiet owner (trap_items prints (word.Text text)) (broken number owner a) (trap_quiet prints text)
  answer_quiet first_memory charged x number owner value a (Exhausted prints cause) has = absurd has.3

  module _ (programs : List (Program L)) (own : List ℕ) where
    install_quiet : (p : Program L) (made : ℕ) (activations : List (Activation L)) (r : Result L.store) → HasResult Never p.first_memory 0 (p.start own None) r
        → NoneOf is_exhausted (installed p made activations r).items
    install_quiet p made activations (Completed prints weight store) has =
        all_append (λ i. is_exhausted i ≡ false) (print_items prints) (item.Installed ∷ []) (no_prints is_exhausted quiet prints) (refl, tt)
    install_quiet p made activations (Trapped prints text) has = trap_quiet prints text
    install_quiet p made activations (Exhausted prints cause) has = absurd has.3

    upgrade_quiet : (old : Program L) (a : Actor L) (p : Program L) (kept : L.kept) (before : List (List ℕ)) (r : Result L.store) → HasResult Never p.first_memory 0 (p.start own (Some kept)) r
        → NoneOf is_exhausted (upgraded old a p before r).items
    upgrade_quiet old a p kept before (Completed prints weight store) has =
        all_append (λ i. is_exhausted i ≡ false) (print_items before) (print_items prints ++ item.Upgraded ∷ []) (no_prints is_exhausted quiet before)
        (all_append (λ i. is_exhausted i ≡ false) (print_items prints) (item.Upgraded ∷ []) (no_prints is_exhausted quiet prints) (refl, tt))
    upgrade_quiet old a p kept before (Trapped prints text) has =
        all_append (λ i. is_exhausted i ≡ false) (print_items before) (trap_items prints (word.Text text)) (no_prints is_exhausted quiet before) (trap_quiet prints text)
    upgrade_quiet old a p kept before (Exhausted prints cause) has = absurd has.3

    quiet_cases : Cases Never programs own Quiet
    quiet_cases = record {
      ignored = λ e state. (refl, tt);
      installs = λ number made activations p found r has. install_quiet p made activations r has;
      no_canister = λ query name caller bytes made activations. (refl, tt);
      no_method = λ query name caller bytes p a. (refl, tt);
      update = λ name caller bytes p a method found r has. update_quiet p.first_memory a.charged _ (length a.activations) (arrived a) r has;
      query = λ query name caller bytes p a method r has. query_quiet p.first_memory a.charged _ (length a.activations) (arrived a) r has;
      answer = λ number received p a call found opened r has. answer_quiet p.first_memory a.charged _ number call.owner _ a r has;
      save_traps = λ number old a prints text has. trap_quiet prints text;
      save_exhausted = λ number old a prints cause has. absurd has.3;
      upgrades = λ number old a p found before weight kept saves r has. upgrade_quiet old a p kept before r has;
    }

    run_quiet : (events : List Event) (state : ActorState L) (items : List Item) → RunsFrom Never programs own state events items → NoneOf is_exhausted items
    run_quiet [] state items h = subst none_of (sym h) tt
    run_quiet (e ∷ events) state items h =
        subst none_of (sym h.3)
        (all_append (λ i. is_exhausted i ≡ false) (h.0).items h.2 (each_event Never programs own Quiet quiet_cases e state h.0 h.1) (run_quiet events (h.0).next h.2 h.4))

pub unexhausted_runs_show_none : (L : Language) → UnexhaustedRunsShowNone L
unexhausted_runs_show_none L programs own events items h = any_none is_exhausted items (run_quiet programs own events (NoActor 0 []) items h)
