-- No incoming call is answered twice.
use Rattle.std.proofs.Common.{◌≡◌, ◌≢◌, ℕ, zero, suc, Bool, true, false, cond, ◌⊎◌, inl, inr, List, [], ◌∷◌, ◌++◌, length, Option, Some, None, refl, sym, ap, ◌∙◌, subst, true≢false, slice_set, codes}
use Rattle.std.specs.List.{AllByRecursion}
use Rattle.play_script.specs.declared.event.Event.{Event}
use Rattle.play_script.specs.declared.item.Item.{Item}
use Rattle.play_script.specs.declared.item.Item.TheVariants as item
use Rattle.play_script.specs.declared.item.Word.{Word}
use Rattle.play_script.specs.declared.item.Word.TheVariants as word
use Rattle.mo_types.specs.Calls.{Call, next_number}
use Rattle.mo_actor.specs.Languages.{Language}
use Rattle.mo_actor.specs.Executions.{Completes}
use Rattle.mo_actor.specs.Programs.{Replies, Rejects, Ending, Answers, Awaits, AwaitsNothing, Unchanged, Effects, Program}
use Rattle.mo_actor.specs.Measures.{Measure}
use Rattle.mo_actor.proofs.Trapping.{never_completes}
use Rattle.mo_actor.specs.Results.{Result, Completed, Trapped, Exhausted, HasResult}
use Rattle.mo_actor.specs.States.{Activation, IsAnswered, IsDead, WaitsFor, WaitsForNothing, Actor, ActorState, NoActor, activation_at, is_answered, waiting_on, owns_open, is_starved}
use Rattle.mo_actor.specs.Outcomes.{Outcome, outcome, rejected, print_items, trap_items, call_items, answer_items, close}
use Rattle.mo_actor.specs.Completions.{activation_after, committed, complete, after_query, update_outcome, query_outcome}
use Rattle.mo_actor.specs.IncomingCalls.{arrived}
use Rattle.mo_actor.specs.CallAnswers.{Received, no_effects, resumed, received_value, answering, broken_by, broken, filled, answer_outcome}
use Rattle.mo_actor.specs.Upgrades.{installed, upgraded}
use Rattle.mo_actor.specs.Steps.{RunsFrom}
use Rattle.mo_actor.specs.Reached.{answered_numbers, AreDistinct}
use Rattle.mo_actor.specs.Laws.{CallsAreAnsweredOnce}
use Rattle.mo_actor.proofs.Events.{Cases, each_event}
use Rattle.mo_actor.proofs.Answering.{both, behind_prints, nothing_answered, starved_open, behind_calls, keeps_push, keeps_set, keeps_change, same_again, unanswered_came, has_answer, activations_in, Keeps, AnswersOne, Once}

module _ {L : Language} where
  -- ---- the end of an execution

  -- before the rejection of a starved call, the call is unanswered and nothing was answered, or it is answered by these items
  abbrev Before : List (Activation L) → (owner : ℕ) → List Item → List (Activation L) → Type 0
  Before before owner items now = Keeps before now × ((answered_numbers items ≡ []) × (has_answer now owner ≡ false → has_answer before owner ≡ false)
      ⊎ (answered_numbers items ≡ owner ∷ []) × (has_answer before owner ≡ false) × (has_answer now owner ≡ true))

  at_answer : (activations : List (Activation L)) (owner : ℕ) → has_answer activations owner ≡ true → is_answered (activation_at activations owner) ≡ true
  at_answer [] owner e = absurd (true≢false (sym e))
  at_answer (x ∷ activations) zero e = e
  at_answer (x ∷ activations) (suc owner) e = at_answer activations owner e

  closed : (before : List (Activation L)) (owner : ℕ) (items : List Item) (a : Actor L) → Before before owner items a.activations
      → Once before (close owner items a).items (close owner items a).next.activations
  closed before owner items a b = by (is_starved owner a) refl b.1
    where
      by : (t : Bool) → is_starved owner a ≡ t
          → ((answered_numbers items ≡ []) × (has_answer a.activations owner ≡ false → has_answer before owner ≡ false)
          ⊎ (answered_numbers items ≡ owner ∷ []) × (has_answer before owner ≡ false) × (has_answer a.activations owner ≡ true))
          → Once before (cond t (rejected owner 5 (codes "no answer") items a) (outcome items a)).items (cond t (rejected owner 5 (codes "no answer") items a) (outcome items a)).next.activations
      by false e (inl none) = record { keeps = b.0; answers = inl none.0 }
      by false e (inr one) = record { keeps = b.0; answers = inr (owner, one.0, one.1, one.2) }
      by true e (inl none) =
          let vacant : is_answered (activation_at a.activations owner) ≡ false = starved_open (is_answered (activation_at a.activations owner)) (owns_open a.table owner) e in
          let came : (has_answer a.activations owner ≡ false) × (has_answer (slice_set a.activations owner IsAnswered) owner ≡ true) = unanswered_came a.activations owner vacant in
          record {
            keeps = λ other f. keeps_set a.activations owner other (b.0 other f);
            answers = inr (owner, both items (item.Rejected owner 5 (codes "no answer") ∷ []) ∙ ap (λ l. l ++ owner ∷ []) none.0, none.1 came.0, came.1);
          }
      by true e (inr one) =
          let vacant : is_answered (activation_at a.activations owner) ≡ false = starved_open (is_answered (activation_at a.activations owner)) (owns_open a.table owner) e in
          absurd (true≢false (sym (at_answer a.activations owner one.2) ∙ vacant))

  -- the owner had no answer: it may be given one
  open_before : (before : List (Activation L)) (owner : ℕ) (items : List Item) (now : List (Activation L)) (ending : Ending L) → Keeps before now
      → has_answer before owner ≡ false → is_answered (activation_at now owner) ≡ false → answered_numbers items ≡ answered_numbers (answer_items owner ending)
      → Before before owner items (slice_set now owner (activation_after ending (activation_at now owner)))
  open_before before owner items now (Answers (Replies bytes)) keeps free vacant e =
      ((λ other f. keeps_set now owner other (keeps other f)), inr (e, free, (unanswered_came now owner vacant).1))
  open_before before owner items now (Answers (Rejects code text)) keeps free vacant e =
      ((λ other f. keeps_set now owner other (keeps other f)), inr (e, free, (unanswered_came now owner vacant).1))
  open_before before owner items now (Awaits number waiting) keeps free vacant e =
      ((λ other f. keeps_change now owner (WaitsFor number waiting) (unanswered_came now owner vacant).0 other (keeps other f)), inl (e, λ f. free))
  open_before before owner items now AwaitsNothing keeps free vacant e =
      ((λ other f. keeps_change now owner WaitsForNothing (unanswered_came now owner vacant).0 other (keeps other f)), inl (e, λ f. free))
  open_before before owner items now Unchanged keeps free vacant e = subst (Before before owner items) (sym (same_again now owner)) (keeps, inl (e, λ f. free))

  completed_items : (next owner : ℕ) (prints : List (List ℕ)) (effects : Effects L)
      → answered_numbers (print_items prints ++ (call_items next effects.calls ++ answer_items owner effects.ending)) ≡ answered_numbers (answer_items owner effects.ending)
  completed_items next owner prints effects =
      behind_prints prints (call_items next effects.calls ++ answer_items owner effects.ending) ∙ behind_calls next effects.calls (answer_items owner effects.ending)

  complete_once : (before : List (Activation L)) (owner : ℕ) (prints : List (List ℕ)) (weight : ℕ) (effects : Effects L) (a : Actor L) → Keeps before a.activations
      → has_answer before owner ≡ false → is_answered (activation_at a.activations owner) ≡ false
      → Once before (complete owner prints weight effects a).items (complete owner prints weight effects a).next.activations
  complete_once before owner prints weight effects a keeps free vacant =
      closed before owner (print_items prints ++ (call_items (next_number a.table) effects.calls ++ answer_items owner effects.ending)) (committed owner weight effects a)
      (open_before before owner (print_items prints ++ (call_items (next_number a.table) effects.calls ++ answer_items owner effects.ending)) a.activations effects.ending keeps free vacant
      (completed_items (next_number a.table) owner prints effects))

  trap_once : (before : List (Activation L)) (owner : ℕ) (prints : List (List ℕ)) (cause : Word) (a : Actor L) → Keeps before a.activations
      → (has_answer a.activations owner ≡ false → has_answer before owner ≡ false)
      → Once before (close owner (trap_items prints cause) a).items (close owner (trap_items prints cause) a).next.activations
  trap_once before owner prints cause a keeps back = closed before owner (trap_items prints cause) a (keeps, inl (nothing_answered prints cause, back))

  -- ---- incoming calls

  new_open : (activations : List (Activation L)) → has_answer activations (length activations) ≡ false
  new_open [] = refl
  new_open (x ∷ activations) = new_open activations

  new_dead : (activations : List (Activation L)) → is_answered (activation_at (activations ++ IsDead ∷ []) (length activations)) ≡ false
  new_dead [] = refl
  new_dead (x ∷ activations) = new_dead activations

  update_once : (a : Actor L) (r : Result (Effects L))
      → Once a.activations (update_outcome (length a.activations) (arrived a) r).items (update_outcome (length a.activations) (arrived a) r).next.activations
  update_once a (Completed prints weight effects) =
      complete_once a.activations (length a.activations) prints weight effects (arrived a) (keeps_push a.activations IsDead) (new_open a.activations) (new_dead a.activations)
  update_once a (Trapped prints text) = trap_once a.activations (length a.activations) prints (word.Text text) (arrived a) (keeps_push a.activations IsDead) (λ f. new_open a.activations)
  update_once a (Exhausted prints cause) = trap_once a.activations (length a.activations) prints cause (arrived a) (keeps_push a.activations IsDead) (λ f. new_open a.activations)

  queried_before : (a : Actor L) (items : List Item) (ending : Ending L) → answered_numbers items ≡ answered_numbers (answer_items (length a.activations) ending)
      → Before a.activations (length a.activations) items (after_query (length a.activations) ending (arrived a)).activations
  queried_before a items (Answers answer) e = open_before a.activations (length a.activations) items (arrived a).activations (Answers answer) (keeps_push a.activations IsDead) (new_open a.activations) (new_dead a.activations) e
  queried_before a items (Awaits number waiting) e = (keeps_push a.activations IsDead, inl (e, λ f. new_open a.activations))
  queried_before a items AwaitsNothing e = (keeps_push a.activations IsDead, inl (e, λ f. new_open a.activations))
  queried_before a items Unchanged e = (keeps_push a.activations IsDead, inl (e, λ f. new_open a.activations))

  query_once : (a : Actor L) (r : Result (Effects L))
      → Once a.activations (query_outcome (length a.activations) (arrived a) r).items (query_outcome (length a.activations) (arrived a) r).next.activations
  query_once a (Completed prints weight effects) =
      closed a.activations (length a.activations) (print_items prints ++ answer_items (length a.activations) effects.ending) (after_query (length a.activations) effects.ending (arrived a))
      (queried_before a (print_items prints ++ answer_items (length a.activations) effects.ending) effects.ending (behind_prints prints (answer_items (length a.activations) effects.ending)))
  query_once a (Trapped prints text) = trap_once a.activations (length a.activations) prints (word.Text text) (arrived a) (keeps_push a.activations IsDead) (λ f. new_open a.activations)
  query_once a (Exhausted prints cause) = trap_once a.activations (length a.activations) prints cause (arrived a) (keeps_push a.activations IsDead) (λ f. new_open a.activations)

  rejected_once : (a : Actor L) → Once a.activations (item.Rejected (length a.activations) 5 (codes "no method") ∷ []) (slice_set (a.activations ++ IsDead ∷ []) (length a.activations) IsAnswered)
  rejected_once a = record {
    keeps = λ other f. keeps_set (a.activations ++ IsDead ∷ []) (length a.activations) other (keeps_push a.activations IsDead other f);
    answers = inr (length a.activations, refl, new_open a.activations, (unanswered_came (a.activations ++ IsDead ∷ []) (length a.activations) (new_dead a.activations)).1);
  }

  absent_once : (activations : List (Activation L)) → Once activations (item.Rejected (length activations) 3 (codes "no canister") ∷ []) (activations ++ IsAnswered ∷ [])
  absent_once activations = record { keeps = keeps_push activations IsAnswered; answers = inr (length activations, refl, new_open activations, last activations) }
    where
      last : (activations : List (Activation L)) → has_answer (activations ++ IsAnswered ∷ []) (length activations) ≡ true
      last [] = refl
      last (x ∷ activations) = last activations

  -- ---- answers to outgoing calls

  waiter_open : (number : ℕ) (activation : Activation L) (waiting : L.waiting) → waiting_on number activation ≡ Some waiting → is_answered activation ≡ false
  waiter_open number IsAnswered waiting e = absurd (cc)
  waiter_open number IsDead waiting e = refl
  waiter_open number (WaitsFor other w) waiting e = refl
  waiter_open number WaitsForNothing waiting e = refl

  broken_once : (a : Actor L) (number owner : ℕ) (prints : List (List ℕ)) (cause : Word)
      → Once a.activations (close owner (trap_items prints cause) (broken number owner a)).items (close owner (trap_items prints cause) (broken number owner a)).next.activations
  broken_once a number owner prints cause = by (waiting_on number (activation_at a.activations owner)) refl
    where
      by : (waiting : Option L.waiting) → waiting_on number (activation_at a.activations owner) ≡ waiting
          → Once a.activations (close owner (trap_items prints cause) (broken_by number owner a waiting)).items (close owner (trap_items prints cause) (broken_by number owner a waiting)).next.activations
      by None e = trap_once a.activations owner prints cause (broken_by number owner a None) (λ other f. f) (λ f. f)
      by (Some waiting) e =
          let free : has_answer a.activations owner ≡ false = (unanswered_came a.activations owner (waiter_open number (activation_at a.activations owner) waiting e)).0 in
          trap_once a.activations owner prints cause (broken_by number owner a (Some waiting)) (keeps_change a.activations owner IsDead free) (λ f. free)

  module _ (own : List ℕ) (p : Program L) (a : Actor L) where
    -- where nobody waits, the activation stays as it was
    answered_once : (number owner : ℕ) (value : Option L.value) (waiting : Option L.waiting) → waiting_on number (activation_at a.activations owner) ≡ waiting
        → (prints : List (List ℕ)) (weight turns : ℕ) (effects : Effects L) → (resumed p own a number value waiting turns).completion ≡ Some (Completes effects)
        → Once a.activations (complete owner prints weight effects (filled number value a)).items (complete owner prints weight effects (filled number value a)).next.activations
    answered_once number owner None waiting e prints weight turns effects f = absurd (never_completes (codes "bad reply") turns effects f)
    answered_once number owner (Some value) None e prints weight turns effects f =
        let same : no_effects a ≡ effects = cc in
        subst (λ effects. Once a.activations (complete owner prints weight effects (filled number (Some value) a)).items (complete owner prints weight effects (filled number (Some value) a)).next.activations) same
        (closed a.activations owner (print_items prints ++ []) (committed owner weight (no_effects a) (filled number (Some value) a))
        (subst (Before a.activations owner (print_items prints ++ [])) (sym (same_again a.activations owner)) ((λ other f. f), inl (behind_prints prints [], λ f. f))))
    answered_once number owner (Some value) (Some waiting) e prints weight turns effects f =
        let vacant : is_answered (activation_at a.activations owner) ≡ false = waiter_open number (activation_at a.activations owner) waiting e in
        complete_once a.activations owner prints weight effects (filled number (Some value) a) (λ other f. f) (unanswered_came a.activations owner vacant).0 vacant

    answer_once : (pays : Measure) (number : ℕ) (call : Call L.results L.value) (received : Received) (r : Result (Effects L))
        → HasResult pays p.first_memory a.charged (answering p own a number call received) r
        → Once a.activations (answer_outcome number call.owner (received_value p own a call received) a r).items (answer_outcome number call.owner (received_value p own a call received) a r).next.activations
    answer_once pays number call received (Completed prints weight effects) has =
        answered_once number call.owner (received_value p own a call received) (waiting_on number (activation_at a.activations call.owner)) refl prints weight has.0 effects (ap (λ q. q.completion) has.2)
    answer_once pays number call received (Trapped prints text) has = broken_once a number call.owner prints (word.Text text)
    answer_once pays number call received (Exhausted prints cause) has = broken_once a number call.owner prints cause

  -- ---- events

  abbrev OnceBy : Event → ActorState L → Outcome (ActorState L) → Type 0
  OnceBy e state o = Once (activations_in state) o.items (activations_in o.next)

  same_once : (activations : List (Activation L)) (items : List Item) → answered_numbers items ≡ [] → Once activations items activations
  same_once activations items none = record { keeps = λ owner e. e; answers = inl none }

  installed_once : (p : Program L) (made : ℕ) (activations : List (Activation L)) (r : Result L.store) → Once activations (installed p made activations r).items (activations_in (installed p made activations r).next)
  installed_once p made activations (Completed prints weight store) = same_once activations (print_items prints ++ item.Installed ∷ []) (behind_prints prints (item.Installed ∷ []))
  installed_once p made activations (Trapped prints text) = same_once activations (trap_items prints (word.Text text)) (behind_prints prints (item.Trapped (word.Text text) ∷ []))
  installed_once p made activations (Exhausted prints cause) = same_once activations (trap_items prints cause) (behind_prints prints (item.Trapped cause ∷ []))

  upgraded_once : (old : Program L) (a : Actor L) (p : Program L) (before : List (List ℕ)) (r : Result L.store) → Once a.activations (upgraded old a p before r).items (activations_in (upgraded old a p before r).next)
  upgraded_once old a p before (Completed prints weight store) =
      same_once a.activations (print_items before ++ (print_items prints ++ item.Upgraded ∷ [])) (behind_prints before (print_items prints ++ item.Upgraded ∷ []) ∙ behind_prints prints (item.Upgraded ∷ []))
  upgraded_once old a p before (Trapped prints text) =
      same_once a.activations (print_items before ++ trap_items prints (word.Text text)) (behind_prints before (trap_items prints (word.Text text)) ∙ behind_prints prints (item.Trapped (word.Text text) ∷ []))
  upgraded_once old a p before (Exhausted prints cause) =
      same_once a.activations (print_items before ++ trap_items prints cause) (behind_prints before (trap_items prints cause) ∙ behind_prints prints (item.Trapped cause ∷ []))

  module _ (pays : Measure) (programs : List (Program L)) (own : List ℕ) where
    once_cases : Cases pays programs own OnceBy
    once_cases = record {
      ignored = λ e state. same_once (activations_in state) (item.Ignored ∷ []) refl;
      installs = λ number made activations p found r has. installed_once p made activations r;
      no_canister = λ query name caller bytes made activations. absent_once activations;
      no_method = λ query name caller bytes p a. rejected_once a;
      update = λ name caller bytes p a method found r has. update_once a r;
      query = λ query name caller bytes p a method r has. query_once a r;
      answer = λ number received p a call found opened r has. answer_once own p a pays number call received r has;
      save_traps = λ number old a prints text has. same_once a.activations (trap_items prints (word.Text text)) (behind_prints prints (item.Trapped (word.Text text) ∷ []));
      save_exhausted = λ number old a prints cause has. same_once a.activations (trap_items prints cause) (behind_prints prints (item.Trapped cause ∷ []));
      upgrades = λ number old a p found before weight kept saves r has. upgraded_once old a p before r;
    }

    -- ---- runs

    abbrev Unanswered : List (Activation L) → List ℕ → Type 0
    Unanswered activations numbers = AllByRecursion (λ owner. has_answer activations owner ≡ false) numbers

    still : (before behind : List (Activation L)) → Keeps before behind → (numbers : List ℕ) → Unanswered behind numbers → Unanswered before numbers
    still before behind keeps [] vacant = tt
    still before behind keeps (owner ∷ numbers) vacant = (pick (has_answer before owner) refl, still before behind keeps numbers vacant.1)
      where
        pick : (b : Bool) → has_answer before owner ≡ b → b ≡ false
        pick true e = absurd (true≢false (sym (keeps owner e) ∙ vacant.0))
        pick false e = refl

    apart : (activations : List (Activation L)) (owner : ℕ) → has_answer activations owner ≡ true → (numbers : List ℕ) → Unanswered activations numbers → AllByRecursion (λ m. m ≢ owner) numbers
    apart activations owner e [] vacant = tt
    apart activations owner e (m ∷ numbers) vacant = ((λ same. true≢false (sym e ∙ ap (has_answer activations) (sym same) ∙ vacant.0)), apart activations owner e numbers vacant.1)

    pub record Answered (activations : List (Activation L)) (numbers : List ℕ) : Type 0 where
      pub vacant : Unanswered activations numbers
      pub distinct : AreDistinct numbers

    run_once : (events : List Event) (state : ActorState L) (items : List Item) → RunsFrom pays programs own state events items → Answered (activations_in state) (answered_numbers items)
    run_once [] state items h = subst (λ items. Answered (activations_in state) (answered_numbers items)) (sym h) (record { vacant = tt; distinct = tt })
    run_once (e ∷ events) state items h =
        let first : OnceBy e state h.0 = each_event pays programs own OnceBy once_cases e state h.0 h.1 in
        let rest : Answered (activations_in (h.0).next) (answered_numbers h.2) = run_once events (h.0).next h.2 h.4 in
        subst (Answered (activations_in state)) (sym (ap answered_numbers h.3 ∙ both (h.0).items h.2)) (joined first rest first.answers)
      where
        joined : OnceBy e state h.0 → Answered (activations_in (h.0).next) (answered_numbers h.2) → AnswersOne (activations_in state) (h.0).items (activations_in (h.0).next)
            → Answered (activations_in state) (answered_numbers (h.0).items ++ answered_numbers h.2)
        joined first rest (inl none) =
            subst (λ front. Answered (activations_in state) (front ++ answered_numbers h.2)) (sym none)
            (record { vacant = still (activations_in state) (activations_in (h.0).next) first.keeps (answered_numbers h.2) rest.vacant; distinct = rest.distinct })
        joined first rest (inr one) =
            subst (λ front. Answered (activations_in state) (front ++ answered_numbers h.2)) (sym one.1)
            (record {
              vacant = (one.2, still (activations_in state) (activations_in (h.0).next) first.keeps (answered_numbers h.2) rest.vacant);
              distinct = (apart (activations_in (h.0).next) one.0 one.3 (answered_numbers h.2) rest.vacant, rest.distinct);
            })

pub calls_are_answered_once : (L : Language) (pays : Measure) → CallsAreAnsweredOnce L pays
calls_are_answered_once L pays programs own events items h = (run_once pays programs own events (NoActor 0 []) items h).distinct
