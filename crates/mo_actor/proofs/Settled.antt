-- Where the executions of programs stay as they are once they have ended, and nothing is exhausted, there is one run.
use Rattle.std.proofs.Common.{◌≡◌, ℕ, suc, zero, ◌+◌, ◌-◌, ◌≤◌, Bool, true, false, cond, List, [], ◌∷◌, ◌++◌, Option, Some, None, refl, sym, ap, ap₂, ◌∙◌, subst, ⊎_elim, slice_get, nat_eq, codes, arith as arithmetic}
use Rattle.std.specs.Prelude.{⊤}
use Rattle.std.specs.List.{AllByRecursion}
use Rattle.std.proofs.lemmas.Bool.{cases_lt}
use Rattle.play_script.specs.declared.event.Event.{Event}
use Rattle.play_script.specs.declared.event.Event.TheVariants as event
use Rattle.play_script.specs.declared.item.Item.{Item}
use Rattle.mo_types.specs.Calls.{Call, Answered, is_open_state, call_at, open_count, set_state}
use Rattle.mo_actor.specs.Languages.{Language}
use Rattle.mo_actor.specs.Executions.{Completion, Completes, Traps, Execution, Settles, ReadingCost, and_reading, after_reading, trapping}
use Rattle.mo_actor.specs.Programs.{Program, IsSettled}
use Rattle.mo_actor.proofs.Trapping as by_trap
use Rattle.mo_actor.specs.Measures.{Never}
use Rattle.mo_actor.specs.Results.{Result, Completed, Trapped, Exhausted, HasResult}
use Rattle.mo_actor.specs.States.{Activation, Actor, ActorState, NoActor, Running, activation_at, waiting_on}
use Rattle.mo_actor.specs.Outcomes.{Outcome}
use Rattle.mo_actor.specs.Courses.{Course, Over, Runs, NoCourse, over_states, ComesTo}
use Rattle.mo_actor.specs.IncomingCalls.{entered_body, entered, query_course, update_course, call_course}
use Rattle.mo_actor.specs.CallAnswers.{Received, Reply, Reject, resumed, received_reading, received_value, open_course, answer_course}
use Rattle.mo_actor.specs.Upgrades.{installed, install_course, saving, upgraded, saved, upgrade_course}
use Rattle.mo_actor.specs.Steps.{life_course, event_course, RunsFrom}
use Rattle.mo_actor.specs.Computed.{result_by}
use Rattle.mo_actor.specs.Laws.{UnexhaustedRunsAreOne}
use Rattle.mo_actor.proofs.Lists.{from_some}
use Rattle.mo_actor.proofs.Events.{Cases, each_event}

-- ---- one end

module _ {A : Type 0} (x : Execution A) (settles : Settles x) where
  stays : (later turns : ℕ) (end : Completion A) → (x turns).completion ≡ Some end → x (later + turns) ≡ x turns
  stays zero turns end e = let same : 0 + turns ≡ turns = omega arithmetic in ap x same
  stays (suc later) turns end e =
      let same : suc later + turns ≡ suc (later + turns) = omega arithmetic in
      let before : x (later + turns) ≡ x turns = stays later turns end e in
      ap x same ∙ settles (later + turns) end (ap (λ p. p.completion) before ∙ e) ∙ before

  from_on : (few many : ℕ) (end : Completion A) → few ≤ many → (x few).completion ≡ Some end → x many ≡ x few
  from_on few many end le e = let same : many ≡ (many - few) + few = omega (arithmetic, le) in ap x same ∙ stays (many - few) few end e

  one_end : (m n : ℕ) (end other : Completion A) → (x m).completion ≡ Some end → (x n).completion ≡ Some other → x m ≡ x n
  one_end m n end other e f =
      ⊎_elim (λ lt. sym (from_on m n end (omega (arithmetic, lt)) e)) (λ le. from_on n m other le f) (cases_lt m n)

  -- an end that was come to, and what is read off there
  abbrev Ended : Result A → Type 0
  Ended r = (turns : ℕ) × (end : Completion A) × ((x turns).completion ≡ Some end) × (result_by (x turns) (x turns).completion ≡ Some r)

  ended : (first_memory charged : ℕ) (r : Result A) → HasResult Never first_memory charged x r → Ended r
  ended first_memory charged (Completed prints weight a) h = (h.0, Completes a, ap (λ p. p.completion) h.2, ap (λ p. result_by p p.completion) h.2)
  ended first_memory charged (Trapped prints text) h =
      (h.0, Traps text, h.2, ap (λ end. result_by (x h.0) end) h.2 ∙ ap (λ ps. Some (Trapped ps text)) h.1)
  ended first_memory charged (Exhausted prints cause) h = absurd h.3

  pub one_result : (first_memory charged : ℕ) (r s : Result A) → HasResult Never first_memory charged x r → HasResult Never first_memory charged x s → r ≡ s
  one_result first_memory charged r s h k =
      let d : Ended r = ended first_memory charged r h in
      let e : Ended s = ended first_memory charged s k in
      from_some (sym d.3 ∙ ap (λ p. result_by p p.completion) (one_end d.0 e.0 d.1 e.1 d.2 e.2) ∙ e.3)

-- ---- courses whose executions settle

abbrev SettledCourse : {S : Type 0} → Course S → Type 0
SettledCourse (Over o) = ⊤
SettledCourse (Runs A first_memory charged x behind) = Settles x × ((r : Result A) → SettledCourse (behind r))
SettledCourse NoCourse = ⊤

one_outcome : {S : Type 0} (c : Course S) → SettledCourse c → (o p : Outcome S) → ComesTo Never c o → ComesTo Never c p → o ≡ p
one_outcome (Over q) settled o p h k = h ∙ sym k
one_outcome (Runs A first_memory charged x behind) settled o p h k =
    let same : k.0 ≡ h.0 = one_result x settled.0 first_memory charged k.0 h.0 k.1 h.1 in
    one_outcome (behind h.0) (settled.1 h.0) o p h.2 (subst (λ r. ComesTo Never (behind r) p) same k.2)
one_outcome NoCourse settled o p h k = absurd h

over_settled : {S T : Type 0} (f : S → T) (c : Course S) → SettledCourse c → SettledCourse (over_states f c)
over_settled f (Over o) settled = tt
over_settled f (Runs A first_memory charged x behind) settled = (settled.0, λ r. over_settled f (behind r) (settled.1 r))
over_settled f NoCourse settled = tt

reading_settles : {A : Type 0} (cost : ReadingCost) (x : Execution A) → Settles x → Settles (after_reading cost x)
reading_settles cost x settles n end e = ap (λ p. and_reading cost p) (settles n end e)

-- ---- the courses of events

module _ {L : Language} (p : Program L) (own : List ℕ) (settled : IsSettled p) where
  body_settles : (a : Actor L) (body : Option L.body) → Settles (entered_body p own a body)
  body_settles a None = by_trap.settles (codes "bad argument")
  body_settles a (Some body) = settled.run own a.table a.store body

  entered_settles : (a : Actor L) (method : L.method) (caller argument : List ℕ) → Settles (entered p own a method caller argument)
  entered_settles a method caller argument =
      reading_settles (p.argument_cost method argument) (entered_body p own a (p.enter method caller argument)) (body_settles a (p.enter method caller argument))

  query_settled : (a : Actor L) (method : Option L.method) (caller argument : List ℕ) → SettledCourse (query_course p own a method caller argument)
  query_settled a None caller argument = tt
  query_settled a (Some method) caller argument = (entered_settles a method caller argument, λ r. tt)

  update_settled : (a : Actor L) (method query : Option L.method) (caller argument : List ℕ) → SettledCourse (update_course p own a method query caller argument)
  update_settled a None query caller argument = query_settled a query caller argument
  update_settled a (Some method) query caller argument = (entered_settles a method caller argument, λ r. tt)

  call_settled : (a : Actor L) (query : Bool) (name caller argument : List ℕ) → SettledCourse (call_course p own a query name caller argument)
  call_settled a true name caller argument = query_settled a (p.query name) caller argument
  call_settled a false name caller argument = update_settled a (p.update name) (p.query name) caller argument

  resumed_settles : (a : Actor L) (number : ℕ) (value : Option L.value) (waiting : Option L.waiting) → Settles (resumed p own a number value waiting)
  resumed_settles a number None waiting = by_trap.settles (codes "bad reply")
  resumed_settles a number (Some value) None = λ n end e. refl
  resumed_settles a number (Some value) (Some waiting) = settled.run own (set_state a.table number (Answered (Some value))) a.store (p.resume waiting value)

  open_settled : (a : Actor L) (is_open : Bool) (number : ℕ) (call : Call L.results L.value) (received : Received) → SettledCourse (open_course p own a is_open number call received)
  open_settled a false number call received = tt
  open_settled a true number call received = (
    reading_settles (received_reading p own a call received)
        (resumed p own a number (received_value p own a call received) (waiting_on number (activation_at a.activations call.owner)))
        (resumed_settles a number (received_value p own a call received) (waiting_on number (activation_at a.activations call.owner))),
    λ r. tt,
  )

  answer_settled : (a : Actor L) (number : ℕ) (received : Received) (call : Option (Call L.results L.value)) → SettledCourse (answer_course p own a number received call)
  answer_settled a number received None = tt
  answer_settled a number received (Some call) = open_settled a (is_open_state call.state) number call received

  life_settled : (e : Event) (a : Actor L) → SettledCourse (life_course p own e a)
  life_settled (event.Install number) a = tt
  life_settled (event.Call query name caller bytes) a = call_settled a query name caller bytes
  life_settled (event.Reply number bytes) a = answer_settled a number (Reply bytes) (call_at a.table number)
  life_settled (event.Reject number code text) a = answer_settled a number (Reject code text) (call_at a.table number)
  life_settled (event.Upgrade number) a = tt

  saving_settles : (a : Actor L) → Settles (saving p own a)
  saving_settles a = by (nat_eq (open_count a.table) 0)
    where
      by : (b : Bool) → Settles (cond b (p.save own a.store) (trapping (codes "outstanding calls")))
      by true = settled.save own a.store
      by false = by_trap.settles (codes "outstanding calls")

abbrev SettledOption : {L : Language} → Option (Program L) → Type 0
SettledOption None = ⊤
SettledOption (Some p) = IsSettled p

settled_at : {L : Language} (programs : List (Program L)) → AllByRecursion (λ p. IsSettled p) programs → (number : ℕ) → SettledOption (slice_get programs number)
settled_at [] all number = tt
settled_at (p ∷ programs) all zero = all.0
settled_at (p ∷ programs) all (suc number) = settled_at programs all.1 number

module _ {L : Language} (own : List ℕ) where
  install_settled : (made : ℕ) (activations : List (Activation L)) (p : Option (Program L)) → SettledOption p → SettledCourse (install_course own made activations p)
  install_settled made activations None settled = tt
  install_settled made activations (Some p) settled = (settled.start own None, λ r. tt)

  saved_settled : (old : Program L) (a : Actor L) (p : Program L) → IsSettled p → (r : Result L.kept) → SettledCourse (saved own old a p r)
  saved_settled old a p settled (Completed prints weight kept) = (settled.start own (Some kept), λ r. tt)
  saved_settled old a p settled (Trapped prints text) = tt
  saved_settled old a p settled (Exhausted prints cause) = tt

  upgrade_settled : (old : Program L) → IsSettled old → (a : Actor L) (p : Option (Program L)) → SettledOption p → SettledCourse (upgrade_course own old a p)
  upgrade_settled old is a None settled = tt
  upgrade_settled old is a (Some p) settled = (saving_settles old own is a, λ r. saved_settled old a p settled r)

  abbrev SettledState : ActorState L → Type 0
  SettledState (NoActor made activations) = ⊤
  SettledState (Running p a) = IsSettled p

  module _ (programs : List (Program L)) (all : AllByRecursion (λ p. IsSettled p) programs) where
    event_settled : (e : Event) (state : ActorState L) → SettledState state → SettledCourse (event_course programs own e state)
    event_settled (event.Install number) (NoActor made activations) is = install_settled made activations (slice_get programs number) (settled_at programs all number)
    event_settled (event.Call query name caller bytes) (NoActor made activations) is = tt
    event_settled (event.Reply number bytes) (NoActor made activations) is = tt
    event_settled (event.Reject number code text) (NoActor made activations) is = tt
    event_settled (event.Upgrade number) (NoActor made activations) is = tt
    event_settled (event.Install number) (Running p a) is = tt
    event_settled (event.Call query name caller bytes) (Running p a) is = over_settled (Running p) (life_course p own (event.Call query name caller bytes) a) (life_settled p own is (event.Call query name caller bytes) a)
    event_settled (event.Reply number bytes) (Running p a) is = over_settled (Running p) (life_course p own (event.Reply number bytes) a) (life_settled p own is (event.Reply number bytes) a)
    event_settled (event.Reject number code text) (Running p a) is = over_settled (Running p) (life_course p own (event.Reject number code text) a) (life_settled p own is (event.Reject number code text) a)
    event_settled (event.Upgrade number) (Running p a) is = upgrade_settled p is a (slice_get programs number) (settled_at programs all number)

    -- the state behind an event

    program_settled : (number : ℕ) (p : Program L) → slice_get programs number ≡ Some p → IsSettled p
    program_settled number p found = subst SettledOption found (settled_at programs all number)

    installed_settled : (p : Program L) → IsSettled p → (made : ℕ) (activations : List (Activation L)) (r : Result L.store) → SettledState (installed p made activations r).next
    installed_settled p is made activations (Completed prints weight store) = is
    installed_settled p is made activations (Trapped prints text) = tt
    installed_settled p is made activations (Exhausted prints cause) = tt

    upgraded_settled : (old : Program L) → IsSettled old → (a : Actor L) (p : Program L) → IsSettled p → (before : List (List ℕ)) (r : Result L.store) → SettledState (upgraded old a p before r).next
    upgraded_settled old was a p is before (Completed prints weight store) = is
    upgraded_settled old was a p is before (Trapped prints text) = was
    upgraded_settled old was a p is before (Exhausted prints cause) = was

    abbrev StaysSettled : Event → ActorState L → Outcome (ActorState L) → Type 0
    StaysSettled e state o = SettledState state → SettledState o.next

    settled_cases : Cases Never programs own StaysSettled
    settled_cases = record {
      ignored = λ e state is. is;
      installs = λ number made activations p found r has is. installed_settled p (program_settled number p found) made activations r;
      no_canister = λ query name caller bytes made activations is. tt;
      no_method = λ query name caller bytes p a is. is;
      update = λ name caller bytes p a method found r has is. is;
      query = λ query name caller bytes p a method r has is. is;
      answer = λ number received p a call found opened r has is. is;
      save_traps = λ number old a prints text has is. is;
      save_exhausted = λ number old a prints cause has is. is;
      upgrades = λ number old a p found before weight kept saves r has is. upgraded_settled old is a p (program_settled number p found) before r;
    }

    one_run : (events : List Event) (state : ActorState L) → SettledState state → (items others : List Item)
        → RunsFrom Never programs own state events items → RunsFrom Never programs own state events others → items ≡ others
    one_run [] state is items others h k = h ∙ sym k
    one_run (e ∷ events) state is items others h k =
        let same : k.0 ≡ h.0 = one_outcome (event_course programs own e state) (event_settled e state is) k.0 h.0 k.1 h.1 in
        let next : SettledState (h.0).next = each_event Never programs own StaysSettled settled_cases e state h.0 h.1 is in
        let rest : h.2 ≡ k.2 = one_run events (h.0).next next h.2 k.2 h.4 (subst (λ o. RunsFrom Never programs own o.next events k.2) same k.4) in
        h.3 ∙ ap₂ (λ o rest. o.items ++ rest) (sym same) rest ∙ sym k.3

pub unexhausted_runs_are_one : (L : Language) → UnexhaustedRunsAreOne L
unexhausted_runs_are_one L programs all own events items others h k = one_run own programs all events (NoActor 0 []) tt items others h k
