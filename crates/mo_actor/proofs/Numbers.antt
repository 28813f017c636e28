-- Outgoing calls are numbered in the order made.
use Rattle.std.proofs.Common.{◌≡◌, ℕ, zero, suc, ◌+◌, Bool, true, false, List, [], ◌∷◌, ◌++◌, length, map, Option, Some, None, refl, sym, ap, ap₂, ◌∙◌, append-nil, length-append, nat_eq, if◌then◌else◌, arith as arithmetic, codes}
use Rattle.std.proofs.lemmas.List.{length-map}
use Rattle.play_script.specs.declared.event.Event.{Event}
use Rattle.play_script.specs.declared.event.Event.TheVariants as event
use Rattle.play_script.specs.declared.item.Item.{Item}
use Rattle.play_script.specs.declared.item.Item.TheVariants as item
use Rattle.play_script.specs.declared.item.Word.{Word}
use Rattle.play_script.specs.declared.item.Word.TheVariants as word
use Rattle.mo_types.specs.Calls.{State, Call, next_number, set_from}
use Rattle.mo_actor.specs.Languages.{Language}
use Rattle.mo_actor.specs.Programs.{Replies, Rejects, OutgoingCall, Ending, Answers, Awaits, AwaitsNothing, Unchanged, Effects, Program}
use Rattle.mo_actor.specs.Measures.{Measure}
use Rattle.mo_actor.specs.Results.{Result, Completed, Trapped, Exhausted}
use Rattle.mo_actor.specs.States.{Activation, Actor, ActorState, NoActor, Running, activation_at, waiting_on}
use Rattle.mo_actor.specs.Outcomes.{Outcome, outcome, print_items, trap_items, call_items, answer_items, close}
use Rattle.mo_actor.specs.Completions.{open_call, committed, complete, after_query, update_outcome, query_outcome}
use Rattle.mo_actor.specs.IncomingCalls.{arrived}
use Rattle.mo_actor.specs.CallAnswers.{broken_by, broken, filled, answer_outcome}
use Rattle.mo_actor.specs.Upgrades.{installed, upgraded}
use Rattle.mo_actor.specs.Steps.{RunsFrom}
use Rattle.mo_actor.specs.Reached.{call_numbers, count_from}
use Rattle.mo_actor.specs.Laws.{CallsAreNumbered}
use Rattle.mo_actor.proofs.Outcomes.{closes}
use Rattle.mo_actor.proofs.Events.{Cases, each_event, event_of, running}

-- ---- numbers in a row

length_count : (first count : ℕ) → length (count_from first count) ≡ count
length_count first zero = refl
length_count first (suc count) = ap suc (length_count (first + 1) count)

count_both : (first m n : ℕ) → count_from first (m + n) ≡ count_from first m ++ count_from (first + m) n
count_both first zero n =
    let none : 0 + n ≡ n = omega arithmetic in
    let same : first ≡ first + 0 = omega arithmetic in
    ap (λ k. count_from first k) none ∙ ap (λ k. count_from k n) same
count_both first (suc m) n =
    let more : suc m + n ≡ suc (m + n) = omega arithmetic in
    let same : first + 1 + m ≡ first + suc m = omega arithmetic in
    ap (λ k. count_from first k) more
    ∙ ap (λ l. first ∷ l) (count_both (first + 1) m n ∙ ap (λ k. count_from (first + 1) m ++ count_from k n) same)

-- ---- items

numbers_both : (xs ys : List Item) → call_numbers (xs ++ ys) ≡ call_numbers xs ++ call_numbers ys
numbers_both [] ys = refl
numbers_both (item.Call number callee method argument ∷ xs) ys = ap (λ l. number ∷ l) (numbers_both xs ys)
numbers_both (_ ∷ xs) ys = numbers_both xs ys

after_prints : (prints : List (List ℕ)) (items : List Item) → call_numbers (print_items prints ++ items) ≡ call_numbers items
after_prints [] items = refl
after_prints (text ∷ prints) items = after_prints prints items

no_numbers_in_prints : (prints : List (List ℕ)) → call_numbers (print_items prints) ≡ []
no_numbers_in_prints [] = refl
no_numbers_in_prints (text ∷ prints) = no_numbers_in_prints prints

trap_numbers : (prints : List (List ℕ)) (cause : Word) → call_numbers (trap_items prints cause) ≡ []
trap_numbers prints cause = after_prints prints (item.Trapped cause ∷ [])

module _ {L : Language} where
  of_calls : (next : ℕ) (calls : List (OutgoingCall L)) (items : List Item) → call_numbers items ≡ [] → call_numbers (call_items next calls ++ items) ≡ count_from next (length calls)
  of_calls next [] items none = none
  of_calls next (c ∷ calls) items none = ap (λ l. next ∷ l) (of_calls (next + 1) calls items none)

  of_answer : (owner : ℕ) (ending : Ending L) → call_numbers (answer_items owner ending) ≡ []
  of_answer owner (Answers (Replies bytes)) = refl
  of_answer owner (Answers (Rejects code text)) = refl
  of_answer owner (Awaits number waiting) = refl
  of_answer owner AwaitsNothing = refl
  of_answer owner Unchanged = refl

  -- the number of the next outgoing call
  abbrev next_call : ActorState L → ℕ
  next_call (NoActor made activations) = made
  next_call (Running p a) = next_number a.table

  abbrev Numbered : Event → ActorState L → Outcome (ActorState L) → Type 0
  Numbered e state o = (count : ℕ) × (call_numbers o.items ≡ count_from (next_call state) count) × (next_call o.next ≡ next_call state + count)

  -- an event without calls
  quiet : (e : Event) (state : ActorState L) (o : Outcome (ActorState L)) → call_numbers o.items ≡ [] → next_call o.next ≡ next_call state → Numbered e state o
  quiet e state o none same = (0, none, (omega (arithmetic, same)))

  -- the rejection of a starved call has no number and makes no call
  closed : (p : Program L) (owner : ℕ) (items : List Item) (a : Actor L) (numbers : List ℕ) (next : ℕ) → call_numbers items ≡ numbers → next_number a.table ≡ next
      → (call_numbers (close owner items a).items ≡ numbers) × (next_number (close owner items a).next.table ≡ next)
  closed p owner items a numbers next e f =
      closes (λ o. (call_numbers o.items ≡ numbers) × (next_number o.next.table ≡ next)) owner items a (e, f)
      (numbers_both items (item.Rejected owner 5 (codes "no answer") ∷ []) ∙ append-nil (call_numbers items) ∙ e, f)

  trapped : (e : Event) (state : ActorState L) (p : Program L) (owner : ℕ) (prints : List (List ℕ)) (cause : Word) (a : Actor L) → next_number a.table ≡ next_call state
      → Numbered e state (running p (close owner (trap_items prints cause) a))
  trapped e state p owner prints cause a same =
      let c = closed p owner (trap_items prints cause) a [] (next_call state) (trap_numbers prints cause) same in
      quiet e state (running p (close owner (trap_items prints cause) a)) c.0 c.1

  completed : (e : Event) (state : ActorState L) (p : Program L) (owner : ℕ) (prints : List (List ℕ)) (weight : ℕ) (effects : Effects L) (a : Actor L)
      → next_number a.table ≡ next_call state → Numbered e state (running p (complete owner prints weight effects a))
  completed e state p owner prints weight effects a same =
      let items : List Item = print_items prints ++ (call_items (next_number a.table) effects.calls ++ answer_items owner effects.ending) in
      let shown : call_numbers items ≡ count_from (next_call state) (length effects.calls) =
      after_prints prints (call_items (next_number a.table) effects.calls ++ answer_items owner effects.ending)
      ∙ of_calls (next_number a.table) effects.calls (answer_items owner effects.ending) (of_answer owner effects.ending)
      ∙ ap (λ first. count_from first (length effects.calls)) same in
      let grown : length (a.table.calls ++ map (open_call owner) effects.calls) ≡ length a.table.calls + length effects.calls =
      length-append a.table.calls (map (open_call owner) effects.calls) ∙ ap (λ n. length a.table.calls + n) (length-map effects.calls (open_call owner)) in
      let made : next_number (committed owner weight effects a).table ≡ next_call state + length effects.calls = omega (arithmetic, same, grown) in
      let c = closed p owner items (committed owner weight effects a) (count_from (next_call state) (length effects.calls)) (next_call state + length effects.calls) shown made in
      (length effects.calls, c.0, c.1)

  queried : (e : Event) (p : Program L) (prints : List (List ℕ)) (owner : ℕ) (ending : Ending L) (a : Actor L) (state : ActorState L) → next_number a.table ≡ next_call state
      → Numbered e state (running p (close owner (print_items prints ++ answer_items owner ending) (after_query owner ending a)))
  queried e p prints owner ending a state same =
      let c = closed p owner (print_items prints ++ answer_items owner ending) (after_query owner ending a) [] (next_call state)
      (after_prints prints (answer_items owner ending) ∙ of_answer owner ending) (same_table ending ∙ same) in
      quiet e state (running p (close owner (print_items prints ++ answer_items owner ending) (after_query owner ending a))) c.0 c.1
    where
      same_table : (ending : Ending L) → next_number (after_query owner ending a).table ≡ next_number a.table
      same_table (Answers answer) = refl
      same_table (Awaits number waiting) = refl
      same_table AwaitsNothing = refl
      same_table Unchanged = refl

-- ---- tables

length_set : {T V : Type 0} (n number : ℕ) (calls : List (Call T V)) (st : State V) → length (set_from n calls number st) ≡ length calls
length_set n number [] st = refl
length_set n number (c ∷ calls) st = by (nat_eq n number) (length_set (suc n) number calls st)
  where
    by : (b : Bool) → length (set_from (suc n) calls number st) ≡ length calls → length (if b then record c { state = st } ∷ calls else c ∷ set_from (suc n) calls number st) ≡ suc (length calls)
    by true next = refl
    by false next = ap suc next

module _ {L : Language} where
  filled_number : (number : ℕ) (value : Option L.value) (a : Actor L) → next_number (filled number value a).table ≡ next_number a.table
  filled_number number value a = ap (λ n. a.table.first + n) (length_set a.table.first number a.table.calls _)

  broken_number : (number owner : ℕ) (a : Actor L) → next_number (broken number owner a).table ≡ next_number a.table
  broken_number number owner a = by (waiting_on number (activation_at a.activations owner))
    where
      by : (waiting : Option L.waiting) → next_number (broken_by number owner a waiting).table ≡ next_number a.table
      by None = ap (λ n. a.table.first + n) (length_set a.table.first number a.table.calls _)
      by (Some waiting) = ap (λ n. a.table.first + n) (length_set a.table.first number a.table.calls _)

  -- ---- events

  of_install : (number : ℕ) (p : Program L) (made : ℕ) (activations : List (Activation L)) (r : Result L.store)
      → Numbered (event.Install number) (NoActor made activations) (installed p made activations r)
  of_install number p made activations (Completed prints weight store) =
      (0, after_prints prints (item.Installed ∷ []), refl)
  of_install number p made activations (Trapped prints text) = quiet (event.Install number) (NoActor made activations) (installed p made activations (Trapped prints text)) (trap_numbers prints (word.Text text)) refl
  of_install number p made activations (Exhausted prints cause) = quiet (event.Install number) (NoActor made activations) (installed p made activations (Exhausted prints cause)) (trap_numbers prints cause) refl

  of_update : (e : Event) (p : Program L) (a : Actor L) (r : Result (Effects L)) → Numbered e (Running p a) (running p (update_outcome (length a.activations) (arrived a) r))
  of_update e p a (Completed prints weight effects) = completed e (Running p a) p (length a.activations) prints weight effects (arrived a) refl
  of_update e p a (Trapped prints text) = trapped e (Running p a) p (length a.activations) prints (word.Text text) (arrived a) refl
  of_update e p a (Exhausted prints cause) = trapped e (Running p a) p (length a.activations) prints cause (arrived a) refl

  of_query : (e : Event) (p : Program L) (a : Actor L) (r : Result (Effects L)) → Numbered e (Running p a) (running p (query_outcome (length a.activations) (arrived a) r))
  of_query e p a (Completed prints weight effects) = queried e p prints (length a.activations) effects.ending (arrived a) (Running p a) refl
  of_query e p a (Trapped prints text) = trapped e (Running p a) p (length a.activations) prints (word.Text text) (arrived a) refl
  of_query e p a (Exhausted prints cause) = trapped e (Running p a) p (length a.activations) prints cause (arrived a) refl

  of_received : (e : Event) (p : Program L) (a : Actor L) (number owner : ℕ) (value : Option L.value) (r : Result (Effects L))
      → Numbered e (Running p a) (running p (answer_outcome number owner value a r))
  of_received e p a number owner value (Completed prints weight effects) = completed e (Running p a) p owner prints weight effects (filled number value a) (filled_number number value a)
  of_received e p a number owner value (Trapped prints text) = trapped e (Running p a) p owner prints (word.Text text) (broken number owner a) (broken_number number owner a)
  of_received e p a number owner value (Exhausted prints cause) = trapped e (Running p a) p owner prints cause (broken number owner a) (broken_number number owner a)

  of_upgrade : (number : ℕ) (old : Program L) (a : Actor L) (p : Program L) (before : List (List ℕ)) (r : Result L.store)
      → Numbered (event.Upgrade number) (Running old a) (upgraded old a p before r)
  of_upgrade number old a p before (Completed prints weight store) =
      (0, after_prints before (print_items prints ++ item.Upgraded ∷ []) ∙ after_prints prints (item.Upgraded ∷ []), refl)
  of_upgrade number old a p before (Trapped prints text) =
      quiet (event.Upgrade number) (Running old a) (upgraded old a p before (Trapped prints text)) (after_prints before (trap_items prints (word.Text text)) ∙ trap_numbers prints (word.Text text)) refl
  of_upgrade number old a p before (Exhausted prints cause) =
      quiet (event.Upgrade number) (Running old a) (upgraded old a p before (Exhausted prints cause)) (after_prints before (trap_items prints cause) ∙ trap_numbers prints cause) refl

  module _ (pays : Measure) (programs : List (Program L)) (own : List ℕ) where
    numbered_cases : Cases pays programs own Numbered
    numbered_cases = record {
      ignored = λ e state. quiet e state (outcome (item.Ignored ∷ []) state) refl refl;
      installs = λ number made activations p found r has. of_install number p made activations r;
      no_canister = λ query name caller bytes made activations. (0, refl, omega arithmetic);
      no_method = λ query name caller bytes p a. (0, refl, omega arithmetic);
      update = λ name caller bytes p a method found r has. of_update (event.Call false name caller bytes) p a r;
      query = λ query name caller bytes p a method r has. of_query (event.Call query name caller bytes) p a r;
      answer = λ number received p a call found opened r has. of_received (event_of number received) p a number call.owner _ r;
      save_traps = λ number old a prints text has. quiet (event.Upgrade number) (Running old a) (outcome (trap_items prints (word.Text text)) (Running old a)) (trap_numbers prints (word.Text text)) refl;
      save_exhausted = λ number old a prints cause has. quiet (event.Upgrade number) (Running old a) (outcome (trap_items prints cause) (Running old a)) (trap_numbers prints cause) refl;
      upgrades = λ number old a p found before weight kept saves r has. of_upgrade number old a p before r;
    }

    run_numbers : (events : List Event) (state : ActorState L) (items : List Item) → RunsFrom pays programs own state events items
        → (count : ℕ) × (call_numbers items ≡ count_from (next_call state) count)
    run_numbers [] state items h = (0, ap call_numbers h)
    run_numbers (e ∷ events) state items h =
        let first : Numbered e state h.0 = each_event pays programs own Numbered numbered_cases e state h.0 h.1 in
        let rest = run_numbers events (h.0).next h.2 h.4 in (
          first.0 + rest.0,
          ap call_numbers h.3 ∙ numbers_both (h.0).items h.2
              ∙ ap₂ (λ xs ys. xs ++ ys) first.1 (rest.1 ∙ ap (λ n. count_from n rest.0) first.2)
              ∙ sym (count_both (next_call state) first.0 rest.0),
        )

pub calls_are_numbered : (L : Language) (pays : Measure) → CallsAreNumbered L pays
calls_are_numbered L pays programs own events items h =
    let n = run_numbers pays programs own events (NoActor 0 []) items h in
    let same : length (call_numbers items) ≡ n.0 = ap length n.1 ∙ length_count 0 n.0 in
    n.1 ∙ ap (λ count. count_from 0 count) (sym same)
