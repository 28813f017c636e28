-- What holds of the outcome of every event is shown case by case.
use Rattle.std.proofs.Common.{◌≡◌, ℕ, Bool, true, false, List, [], ◌∷◌, ◌++◌, length, Option, Some, None, refl, slice_get, codes}
use Rattle.play_script.specs.declared.event.Event.{Event}
use Rattle.play_script.specs.declared.event.Event.TheVariants as event
use Rattle.play_script.specs.declared.item.Item.TheVariants as item
use Rattle.play_script.specs.declared.item.Word.{Word}
use Rattle.play_script.specs.declared.item.Word.TheVariants as word
use Rattle.mo_types.specs.Calls.{Call, is_open_state, call_at}
use Rattle.mo_actor.specs.Languages.{Language}
use Rattle.mo_actor.specs.Programs.{Effects, Program}
use Rattle.mo_actor.specs.Measures.{Measure}
use Rattle.mo_actor.specs.Results.{Result, Completed, Trapped, Exhausted, HasResult}
use Rattle.mo_actor.specs.States.{Activation, IsAnswered, Actor, ActorState, NoActor, Running}
use Rattle.mo_actor.specs.Outcomes.{Outcome, outcome, trap_items, rejected}
use Rattle.mo_actor.specs.Completions.{update_outcome, query_outcome}
use Rattle.mo_actor.specs.IncomingCalls.{arrived, entered, query_course, update_course, call_course}
use Rattle.mo_actor.specs.CallAnswers.{Received, Reply, Reject, answer_outcome, received_value, answering, open_course, answer_course}
use Rattle.mo_actor.specs.Upgrades.{installed, install_course, saving, upgraded, saved, upgrade_course}
use Rattle.mo_actor.specs.Steps.{event_course, Step}
use Rattle.mo_actor.proofs.Outcomes.{AllOutcomes, each_outcome, all_over}

abbrev pub event_of : ℕ → Received → Event
event_of number (Reply bytes) = event.Reply number bytes
event_of number (Reject code text) = event.Reject number code text

abbrev pub running : {L : Language} → Program L → Outcome (Actor L) → Outcome (ActorState L)
running p o = outcome o.items (Running p o.next)

module _ {L : Language} (pays : Measure) (programs : List (Program L)) (own : List ℕ) where
  pub record Cases (P : Event → ActorState L → Outcome (ActorState L) → Type 0) : Type 0 where
    pub ignored : (e : Event) (state : ActorState L) → P e state (outcome (item.Ignored ∷ []) state)
    pub installs : (number made : ℕ) (activations : List (Activation L)) (p : Program L) → slice_get programs number ≡ Some p
        → (r : Result L.store) → HasResult pays p.first_memory 0 (p.start own None) r
        → P (event.Install number) (NoActor made activations) (installed p made activations r)
    pub no_canister : (query : Bool) (name caller bytes : List ℕ) (made : ℕ) (activations : List (Activation L))
        → P (event.Call query name caller bytes) (NoActor made activations)
        (outcome (item.Rejected (length activations) 3 (codes "no canister") ∷ []) (NoActor made (activations ++ IsAnswered ∷ [])))
    pub no_method : (query : Bool) (name caller bytes : List ℕ) (p : Program L) (a : Actor L)
        → P (event.Call query name caller bytes) (Running p a) (running p (rejected (length a.activations) 5 (codes "no method") [] (arrived a)))
    pub update : (name caller bytes : List ℕ) (p : Program L) (a : Actor L) (method : L.method) → p.update name ≡ Some method
        → (r : Result (Effects L)) → HasResult pays p.first_memory a.charged (entered p own a method caller bytes) r
        → P (event.Call false name caller bytes) (Running p a) (running p (update_outcome (length a.activations) (arrived a) r))
    pub query : (query : Bool) (name caller bytes : List ℕ) (p : Program L) (a : Actor L) (method : L.method)
        → (r : Result (Effects L)) → HasResult pays p.first_memory a.charged (entered p own a method caller bytes) r
        → P (event.Call query name caller bytes) (Running p a) (running p (query_outcome (length a.activations) (arrived a) r))
    pub answer : (number : ℕ) (received : Received) (p : Program L) (a : Actor L) (call : Call L.results L.value)
        → call_at a.table number ≡ Some call → is_open_state call.state ≡ true
        → (r : Result (Effects L)) → HasResult pays p.first_memory a.charged (answering p own a number call received) r
        → P (event_of number received) (Running p a) (running p (answer_outcome number call.owner (received_value p own a call received) a r))
    pub save_traps : (number : ℕ) (old : Program L) (a : Actor L) (prints : List (List ℕ)) (text : List ℕ)
        → HasResult pays old.first_memory a.charged (saving old own a) (Trapped prints text)
        → P (event.Upgrade number) (Running old a) (outcome (trap_items prints (word.Text text)) (Running old a))
    pub save_exhausted : (number : ℕ) (old : Program L) (a : Actor L) (prints : List (List ℕ)) (cause : Word)
        → HasResult pays old.first_memory a.charged (saving old own a) (Exhausted prints cause)
        → P (event.Upgrade number) (Running old a) (outcome (trap_items prints cause) (Running old a))
    pub upgrades : (number : ℕ) (old : Program L) (a : Actor L) (p : Program L) → slice_get programs number ≡ Some p
        → (before : List (List ℕ)) (weight : ℕ) (kept : L.kept) → HasResult pays old.first_memory a.charged (saving old own a) (Completed before weight kept)
        → (r : Result L.store) → HasResult pays p.first_memory 0 (p.start own (Some kept)) r
        → P (event.Upgrade number) (Running old a) (upgraded old a p before r)

  module _ (P : Event → ActorState L → Outcome (ActorState L) → Type 0) (cases : Cases P) where
    all_queries : (query : Bool) (name caller bytes : List ℕ) (p : Program L) (a : Actor L) (method : Option L.method)
        → AllOutcomes pays (λ o. P (event.Call query name caller bytes) (Running p a) (running p o)) (query_course p own a method caller bytes)
    all_queries query name caller bytes p a None = cases.no_method query name caller bytes p a
    all_queries query name caller bytes p a (Some method) = λ r has. cases.query query name caller bytes p a method r has

    all_updates : (name caller bytes : List ℕ) (p : Program L) (a : Actor L) (method : Option L.method) → p.update name ≡ method
        → AllOutcomes pays (λ o. P (event.Call false name caller bytes) (Running p a) (running p o)) (update_course p own a method (p.query name) caller bytes)
    all_updates name caller bytes p a None is = all_queries false name caller bytes p a (p.query name)
    all_updates name caller bytes p a (Some method) is = λ r has. cases.update name caller bytes p a method is r has

    all_calls : (query : Bool) (name caller bytes : List ℕ) (p : Program L) (a : Actor L)
        → AllOutcomes pays (λ o. P (event.Call query name caller bytes) (Running p a) (running p o)) (call_course p own a query name caller bytes)
    all_calls true name caller bytes p a = all_queries true name caller bytes p a (p.query name)
    all_calls false name caller bytes p a = all_updates name caller bytes p a (p.update name) refl

    all_open : (number : ℕ) (received : Received) (p : Program L) (a : Actor L) (call : Call L.results L.value) → call_at a.table number ≡ Some call
        → (is_open : Bool) → is_open_state call.state ≡ is_open
        → AllOutcomes pays (λ o. P (event_of number received) (Running p a) (running p o)) (open_course p own a is_open number call received)
    all_open number received p a call found false is = cases.ignored (event_of number received) (Running p a)
    all_open number received p a call found true is = λ r has. cases.answer number received p a call found is r has

    all_answers : (number : ℕ) (received : Received) (p : Program L) (a : Actor L) (call : Option (Call L.results L.value)) → call_at a.table number ≡ call
        → AllOutcomes pays (λ o. P (event_of number received) (Running p a) (running p o)) (answer_course p own a number received call)
    all_answers number received p a None found = cases.ignored (event_of number received) (Running p a)
    all_answers number received p a (Some call) found = all_open number received p a call found (is_open_state call.state) refl

    all_installs : (number made : ℕ) (activations : List (Activation L)) (p : Option (Program L)) → slice_get programs number ≡ p
        → AllOutcomes pays (P (event.Install number) (NoActor made activations)) (install_course own made activations p)
    all_installs number made activations None found = cases.ignored (event.Install number) (NoActor made activations)
    all_installs number made activations (Some p) found = λ r has. cases.installs number made activations p found r has

    all_saved : (number : ℕ) (old : Program L) (a : Actor L) (p : Program L) → slice_get programs number ≡ Some p
        → (r : Result L.kept) → HasResult pays old.first_memory a.charged (saving old own a) r
        → AllOutcomes pays (P (event.Upgrade number) (Running old a)) (saved own old a p r)
    all_saved number old a p found (Completed prints weight kept) saves = λ r has. cases.upgrades number old a p found prints weight kept saves r has
    all_saved number old a p found (Trapped prints text) saves = cases.save_traps number old a prints text saves
    all_saved number old a p found (Exhausted prints cause) saves = cases.save_exhausted number old a prints cause saves

    all_upgrades : (number : ℕ) (old : Program L) (a : Actor L) (p : Option (Program L)) → slice_get programs number ≡ p
        → AllOutcomes pays (P (event.Upgrade number) (Running old a)) (upgrade_course own old a p)
    all_upgrades number old a None found = cases.ignored (event.Upgrade number) (Running old a)
    all_upgrades number old a (Some p) found = λ r saves. all_saved number old a p found r saves

    all_events : (e : Event) (state : ActorState L) → AllOutcomes pays (P e state) (event_course programs own e state)
    all_events (event.Install number) (NoActor made activations) = all_installs number made activations (slice_get programs number) refl
    all_events (event.Call query name caller bytes) (NoActor made activations) = cases.no_canister query name caller bytes made activations
    all_events (event.Reply number bytes) (NoActor made activations) = cases.ignored (event.Reply number bytes) (NoActor made activations)
    all_events (event.Reject number code text) (NoActor made activations) = cases.ignored (event.Reject number code text) (NoActor made activations)
    all_events (event.Upgrade number) (NoActor made activations) = cases.ignored (event.Upgrade number) (NoActor made activations)
    all_events (event.Install number) (Running p a) = tt
    all_events (event.Call query name caller bytes) (Running p a) =
        all_over pays (P (event.Call query name caller bytes) (Running p a)) (Running p) (call_course p own a query name caller bytes) (all_calls query name caller bytes p a)
    all_events (event.Reply number bytes) (Running p a) =
        all_over pays (P (event.Reply number bytes) (Running p a)) (Running p) (answer_course p own a number (Reply bytes) (call_at a.table number))
        (all_answers number (Reply bytes) p a (call_at a.table number) refl)
    all_events (event.Reject number code text) (Running p a) =
        all_over pays (P (event.Reject number code text) (Running p a)) (Running p) (answer_course p own a number (Reject code text) (call_at a.table number))
        (all_answers number (Reject code text) p a (call_at a.table number) refl)
    all_events (event.Upgrade number) (Running p a) = all_upgrades number p a (slice_get programs number) refl

    pub each_event : (e : Event) (state : ActorState L) (reached : Outcome (ActorState L)) → Step pays programs own e state reached → P e state reached
    each_event e state reached h = each_outcome pays (P e state) (event_course programs own e state) (all_events e state) reached h
