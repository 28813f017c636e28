-- Queries leave no trace, and events that trapped are undone.
use Rattle.std.proofs.Common.{◌≡◌, ℕ, true, false, List, [], ◌∷◌, ◌++◌, length, Option, Some, None, refl, sym, ap, ◌∙◌, true≢false, slice_set}
use Rattle.std.specs.List.{list_any}
use Rattle.play_script.specs.declared.event.Event.{Event}
use Rattle.play_script.specs.declared.event.Event.TheVariants as event
use Rattle.play_script.specs.declared.item.Item.{Item}
use Rattle.play_script.specs.declared.item.Item.TheVariants as item
use Rattle.play_script.specs.declared.item.Word.TheVariants as word
use Rattle.mo_types.specs.Calls.{Answered, Lost, Call}
use Rattle.mo_actor.specs.Languages.{Language}
use Rattle.mo_actor.specs.Programs.{Ending, Answers, Awaits, AwaitsNothing, Unchanged, Effects, Program}
use Rattle.mo_actor.specs.Measures.{Measure}
use Rattle.mo_actor.specs.Results.{Result, Completed, Trapped, Exhausted}
use Rattle.mo_actor.specs.States.{Activation, IsAnswered, IsDead, Actor, ActorState, NoActor, Running, activation_at, waiting_on, with_activation}
use Rattle.mo_actor.specs.Outcomes.{Outcome, print_items, trap_items, close}
use Rattle.mo_actor.specs.Courses.{Course, over_states}
use Rattle.mo_actor.specs.Completions.{after_query, update_outcome, query_outcome}
use Rattle.mo_actor.specs.IncomingCalls.{arrived, query_course, update_course}
use Rattle.mo_actor.specs.CallAnswers.{Received, Reply, Reject, broken_by, broken, filled, answer_outcome}
use Rattle.mo_actor.specs.Upgrades.{installed, upgraded}
use Rattle.mo_actor.specs.Reached.{is_trap}
use Rattle.mo_actor.specs.Laws.{with_activations, IsAsBefore, IsAsBeforeAnswer, IsUndone, QueriesLeaveNoTrace, CallsOfQueriesLeaveNoTrace, TrapsAreUndone}
use Rattle.mo_actor.proofs.Lists.{all_append, set_last}
use Rattle.mo_actor.proofs.Outcomes.{AllOutcomes, each_outcome, all_over, closes}
use Rattle.mo_actor.proofs.Items.{NoneOf, any_none, IsQuiet, no_prints, none_completed}
use Rattle.mo_actor.proofs.Events.{Cases, each_event, event_of, running}

-- ---- one more incoming call

module _ {L : Language} (p : Program L) (a : Actor L) where
  abbrev Stays : Outcome (Actor L) → Type 0
  Stays o = IsAsBefore p a (Running p o.next)

  answered_once : Running p (with_activation (length a.activations) IsAnswered (arrived a)) ≡ Running p (with_activations a (a.activations ++ IsAnswered ∷ []))
  answered_once = ap (λ activations. Running p (with_activations a activations)) (set_last a.activations IsDead IsAnswered)

  answered_twice : Running p (with_activation (length a.activations) IsAnswered (with_activation (length a.activations) IsAnswered (arrived a)))
      ≡ Running p (with_activations a (a.activations ++ IsAnswered ∷ []))
  answered_twice =
      ap (λ activations. Running p (with_activations a (slice_set activations (length a.activations) IsAnswered))) (set_last a.activations IsDead IsAnswered)
      ∙ ap (λ activations. Running p (with_activations a activations)) (set_last a.activations IsAnswered IsAnswered)

  unanswered_stays : (items : List Item) → Stays (close (length a.activations) items (arrived a))
  unanswered_stays items = closes Stays (length a.activations) items (arrived a) (IsDead, refl) (IsAnswered, answered_once)

  answered_stays : (items : List Item) → Stays (close (length a.activations) items (with_activation (length a.activations) IsAnswered (arrived a)))
  answered_stays items =
      closes Stays (length a.activations) items (with_activation (length a.activations) IsAnswered (arrived a)) (IsAnswered, answered_once) (IsAnswered, answered_twice)

  ending_stays : (items : List Item) (ending : Ending L) → Stays (close (length a.activations) items (after_query (length a.activations) ending (arrived a)))
  ending_stays items (Answers answer) = answered_stays items
  ending_stays items (Awaits number waiting) = unanswered_stays items
  ending_stays items AwaitsNothing = unanswered_stays items
  ending_stays items Unchanged = unanswered_stays items

  query_stays : (r : Result (Effects L)) → Stays (query_outcome (length a.activations) (arrived a) r)
  query_stays (Completed prints weight effects) = ending_stays _ effects.ending
  query_stays (Trapped prints text) = unanswered_stays (trap_items prints (word.Text text))
  query_stays (Exhausted prints cause) = unanswered_stays (trap_items prints cause)

  module _ (pays : Measure) (own caller bytes : List ℕ) where
    course_stays : (method : Option L.method) → AllOutcomes pays Stays (query_course p own a method caller bytes)
    course_stays None = (IsAnswered, answered_once)
    course_stays (Some method) = λ r has. query_stays r

    update_stays : (method query : Option L.method) → method ≡ None → AllOutcomes pays Stays (update_course p own a method query caller bytes)
    update_stays None query e = course_stays query
    update_stays (Some method) query e = absurd (cc)

pub queries_leave_no_trace : (L : Language) (pays : Measure) → QueriesLeaveNoTrace L pays
queries_leave_no_trace L pays programs own name caller bytes p a reached h =
    let c : Course (Actor L) = query_course p own a (p.query name) caller bytes in
    each_outcome pays (λ o. IsAsBefore p a o.next) (over_states (Running p) c) (all_over pays (λ o. IsAsBefore p a o.next) (Running p) c (course_stays p a pays own caller bytes (p.query name))) reached h

pub calls_of_queries_leave_no_trace : (L : Language) (pays : Measure) → CallsOfQueriesLeaveNoTrace L pays
calls_of_queries_leave_no_trace L pays programs own name caller bytes p a reached none h =
    let c : Course (Actor L) = update_course p own a (p.update name) (p.query name) caller bytes in
    each_outcome pays (λ o. IsAsBefore p a o.next) (over_states (Running p) c)
    (all_over pays (λ o. IsAsBefore p a o.next) (Running p) c (update_stays p a pays own caller bytes (p.update name) (p.query name) none)) reached h

-- ---- traps

quiet : IsQuiet is_trap
quiet = record {
  print = λ text. refl;
  call = λ number callee method argument. refl;
  replied = λ number bytes. refl;
  rejected = λ number code text. refl;
}

-- without a trap there is nothing to show
no_trap : {X : Type 0} (items : List Item) → NoneOf is_trap items → list_any is_trap items ≡ true → X
no_trap items none e = absurd (true≢false (sym e ∙ any_none is_trap items none))

module _ {L : Language} where
  broken_stays : (p : Program L) (a : Actor L) (number owner : ℕ) (items : List Item) → IsAsBeforeAnswer p a number (Running p (close owner items (broken number owner a)).next)
  broken_stays p a number owner items = by (waiting_on number (activation_at a.activations owner))
    where
      by : (waiting : Option L.waiting) → IsAsBeforeAnswer p a number (Running p (close owner items (broken_by number owner a waiting)).next)
      by None =
          closes (λ o. IsAsBeforeAnswer p a number (Running p o.next)) owner items (broken_by number owner a None) (Lost, refl, a.activations, refl)
          (Lost, refl, slice_set a.activations owner IsAnswered, refl)
      by (Some waiting) =
          closes (λ o. IsAsBeforeAnswer p a number (Running p o.next)) owner items (broken_by number owner a (Some waiting))
          (Answered None, refl, slice_set a.activations owner IsDead, refl)
          (Answered None, refl, slice_set (slice_set a.activations owner IsDead) owner IsAnswered, refl)

  undone_answer : (p : Program L) (a : Actor L) (number : ℕ) (received : Received) (next : ActorState L) → IsAsBeforeAnswer p a number next → IsUndone (event_of number received) (Running p a) next
  undone_answer p a number (Reply bytes) next is = is
  undone_answer p a number (Reject code text) next is = is

  abbrev Undone : Event → ActorState L → Outcome (ActorState L) → Type 0
  Undone e state o = list_any is_trap o.items ≡ true → IsUndone e state o.next

  installs_undone : (number : ℕ) (p : Program L) (made : ℕ) (activations : List (Activation L)) (r : Result L.store)
      → Undone (event.Install number) (NoActor made activations) (installed p made activations r)
  installs_undone number p made activations (Completed prints weight store) e =
      no_trap (print_items prints ++ item.Installed ∷ []) (all_append (λ i. is_trap i ≡ false) (print_items prints) (item.Installed ∷ []) (no_prints is_trap quiet prints) (refl, tt)) e
  installs_undone number p made activations (Trapped prints text) e = refl
  installs_undone number p made activations (Exhausted prints cause) e = refl

  update_undone : (name caller bytes : List ℕ) (p : Program L) (a : Actor L) (r : Result (Effects L))
      → Undone (event.Call false name caller bytes) (Running p a) (running p (update_outcome (length a.activations) (arrived a) r))
  update_undone name caller bytes p a (Completed prints weight effects) e =
      no_trap (update_outcome (length a.activations) (arrived a) (Completed prints weight effects)).items
      (none_completed is_trap quiet (length a.activations) prints weight effects (arrived a)) e
  update_undone name caller bytes p a (Trapped prints text) e = unanswered_stays p a (trap_items prints (word.Text text))
  update_undone name caller bytes p a (Exhausted prints cause) e = unanswered_stays p a (trap_items prints cause)

  answer_undone : (number : ℕ) (received : Received) (p : Program L) (a : Actor L) (call : Call L.results L.value) (value : Option L.value) (r : Result (Effects L))
      → Undone (event_of number received) (Running p a) (running p (answer_outcome number call.owner value a r))
  answer_undone number received p a call value (Completed prints weight effects) e =
      no_trap (answer_outcome number call.owner value a (Completed prints weight effects)).items
      (none_completed is_trap quiet call.owner prints weight effects (filled number value a)) e
  answer_undone number received p a call value (Trapped prints text) e =
      undone_answer p a number received _ (broken_stays p a number call.owner (trap_items prints (word.Text text)))
  answer_undone number received p a call value (Exhausted prints cause) e =
      undone_answer p a number received _ (broken_stays p a number call.owner (trap_items prints cause))

  upgrades_undone : (number : ℕ) (old : Program L) (a : Actor L) (p : Program L) (before : List (List ℕ)) (r : Result L.store)
      → Undone (event.Upgrade number) (Running old a) (upgraded old a p before r)
  upgrades_undone number old a p before (Completed prints weight store) e =
      no_trap (print_items before ++ (print_items prints ++ item.Upgraded ∷ []))
      (all_append (λ i. is_trap i ≡ false) (print_items before) (print_items prints ++ item.Upgraded ∷ []) (no_prints is_trap quiet before)
      (all_append (λ i. is_trap i ≡ false) (print_items prints) (item.Upgraded ∷ []) (no_prints is_trap quiet prints) (refl, tt))) e
  upgrades_undone number old a p before (Trapped prints text) e = refl
  upgrades_undone number old a p before (Exhausted prints cause) e = refl

  undone_cases : (pays : Measure) (programs : List (Program L)) (own : List ℕ) → Cases pays programs own Undone
  undone_cases pays programs own = record {
    ignored = λ e state trap. absurd (true≢false (sym trap));
    installs = λ number made activations p found r has. installs_undone number p made activations r;
    no_canister = λ query name caller bytes made activations trap. absurd (true≢false (sym trap));
    no_method = λ query name caller bytes p a trap. absurd (true≢false (sym trap));
    update = λ name caller bytes p a method found r has. update_undone name caller bytes p a r;
    query = λ query name caller bytes p a method r has trap. query_stays p a r;
    answer = λ number received p a call found opened r has. answer_undone number received p a call _ r;
    save_traps = λ number old a prints text has trap. refl;
    save_exhausted = λ number old a prints cause has trap. refl;
    upgrades = λ number old a p found before weight kept saves r has. upgrades_undone number old a p before r;
  }

pub traps_are_undone : (L : Language) (pays : Measure) → TrapsAreUndone L pays
traps_are_undone L pays programs own e state reached h trap = each_event pays programs own Undone (undone_cases pays programs own) e state reached h trap
