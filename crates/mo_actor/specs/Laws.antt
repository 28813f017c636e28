-- What holds of every run of an actor, for any language, as statements.
use Rattle.std.specs.Prelude.{◌≡◌, ℕ, ◌+◌, ◌≤◌, List, [], ◌∷◌, ◌++◌, length, Bool, true, false, Some, None}
use Rattle.std.specs.List.{list_any, AllByRecursion}
use Rattle.play_script.specs.declared.event.Event.{Event}
use Rattle.play_script.specs.declared.event.Event.TheVariants as event
use Rattle.play_script.specs.declared.item.Item.{Item}
use Rattle.mo_types.specs.Calls.{State, CallTable, is_open_state, open_count, set_state}
use Rattle.mo_actor.specs.Languages.{Language}
use Rattle.mo_actor.specs.Executions.{Completes}
use Rattle.mo_actor.specs.Programs.{Effects, Program, IsSettled}
use Rattle.mo_actor.specs.Measures.{Measure, Never}
use Rattle.mo_actor.specs.States.{Activation, Actor, ActorState, NoActor, Running, activation_at, is_answered, owns_open}
use Rattle.mo_actor.specs.Outcomes.{Outcome}
use Rattle.mo_actor.specs.Steps.{Step, ActorRun}
use Rattle.mo_actor.specs.Computed.{Extent, Transcript, transcript_after}
use Rattle.mo_actor.specs.Passes.{CommittedState, AllKeep}
use Rattle.mo_actor.specs.Reached.{Reaches, is_trap, is_exhausted, call_numbers, answered_numbers, count_from, AreDistinct}

-- The actor with these activations.
abbrev pub with_activations : {L : Language} → Actor L → List (Activation L) → Actor L
with_activations a activations = record a { activations = activations }

-- The actor is as it was, but for one more incoming call.
abbrev pub IsAsBefore : {L : Language} → Program L → Actor L → ActorState L → Type 0
IsAsBefore {L = L} p a next = (activation : Activation L) × (next ≡ Running p (with_activations a (a.activations ++ activation ∷ [])))

-- The store and what was charged are as before, and so are the outgoing calls, but that the answered one is no longer open.
abbrev pub IsAsBeforeAnswer : {L : Language} → Program L → Actor L → (number : ℕ) → ActorState L → Type 0
IsAsBeforeAnswer {L = L} p a number next =
    (state : State L.value) × (is_open_state state ≡ false) × (activations : List (Activation L))
    × (next ≡ Running p (record a { table = set_state a.table number state; activations = activations }))

-- What a trap leaves of an event.
abbrev pub IsUndone : {L : Language} → Event → ActorState L → ActorState L → Type 0
IsUndone e (NoActor made activations) next = next ≡ NoActor made activations
IsUndone (event.Install number) (Running p a) next = next ≡ Running p a
IsUndone (event.Upgrade number) (Running p a) next = next ≡ Running p a
IsUndone (event.Call query name caller bytes) (Running p a) next = IsAsBefore p a next
IsUndone (event.Reply number bytes) (Running p a) next = IsAsBeforeAnswer p a number next
IsUndone (event.Reject number code text) (Running p a) next = IsAsBeforeAnswer p a number next

-- No execution of the program leaves more than 500 calls open.
abbrev pub KeepsRoom : {L : Language} → Program L → Type 0
KeepsRoom {L = L} p =
    (own : List ℕ) (table : CallTable L.results L.value) (store : L.store) (body : L.body) (turns : ℕ) (effects : Effects L)
    → open_count table ≤ 500 → (p.run own table store body turns).completion ≡ Some (Completes effects) → open_count table + length effects.calls ≤ 500

module _ (L : Language) where
  -- What is computed is a run, where its exhaustions are deserved.
  abbrev pub TranscriptsAreRuns : Measure → Type 0
  TranscriptsAreRuns pays =
      (extents : List Extent) (programs : List (Program L)) (own : List ℕ) (events : List Event) (t : Transcript)
      → transcript_after extents programs own events ≡ Some t → AllByRecursion pays t.exhaustions → ActorRun pays programs own events t.items

  -- Each run is computed, by some extents.
  abbrev pub RunsAreTranscripts : Measure → Type 0
  RunsAreTranscripts pays =
      (programs : List (Program L)) (own : List ℕ) (events : List Event) (items : List Item) → ActorRun pays programs own events items
      → (extents : List Extent) × (t : Transcript) × (transcript_after extents programs own events ≡ Some t) × AllByRecursion pays t.exhaustions × (t.items ≡ items)

  -- A run by the one measure is one by the other.
  abbrev pub RunsAreLooser : (strict loose : Measure) → Type 0
  RunsAreLooser strict loose =
      (programs : List (Program L)) (own : List ℕ) (events : List Event) (items : List Item)
      → ActorRun strict programs own events items → ActorRun loose programs own events items

  -- Where nothing is exhausted, the programs and the events determine the items.
  abbrev pub UnexhaustedRunsAreOne : Type 0
  UnexhaustedRunsAreOne =
      (programs : List (Program L)) → AllByRecursion (λ p. IsSettled p) programs → (own : List ℕ) (events : List Event) (items others : List Item)
      → ActorRun Never programs own events items → ActorRun Never programs own events others → items ≡ others

  -- The items tell whether anything was exhausted.
  abbrev pub ExhaustionsShow : Measure → Type 0
  ExhaustionsShow pays =
      (programs : List (Program L)) (own : List ℕ) (events : List Event) (items : List Item)
      → ActorRun pays programs own events items → list_any is_exhausted items ≡ false → ActorRun Never programs own events items

  abbrev pub UnexhaustedRunsShowNone : Type 0
  UnexhaustedRunsShowNone =
      (programs : List (Program L)) (own : List ℕ) (events : List Event) (items : List Item)
      → ActorRun Never programs own events items → list_any is_exhausted items ≡ false

  -- Outgoing calls are numbered from 0 in the order made, over traps and upgrades, and no number comes twice.
  abbrev pub CallsAreNumbered : Measure → Type 0
  CallsAreNumbered pays =
      (programs : List (Program L)) (own : List ℕ) (events : List Event) (items : List Item)
      → ActorRun pays programs own events items → call_numbers items ≡ count_from 0 (length (call_numbers items))

  -- No incoming call is answered twice.
  abbrev pub CallsAreAnsweredOnce : Measure → Type 0
  CallsAreAnsweredOnce pays =
      (programs : List (Program L)) (own : List ℕ) (events : List Event) (items : List Item)
      → ActorRun pays programs own events items → AreDistinct (answered_numbers items)

  -- A query leaves the actor as it was, but for its call; so does a call that finds a query method alone.
  abbrev pub QueriesLeaveNoTrace : Measure → Type 0
  QueriesLeaveNoTrace pays =
      (programs : List (Program L)) (own : List ℕ) (name caller bytes : List ℕ) (p : Program L) (a : Actor L) (reached : Outcome (ActorState L))
      → Step pays programs own (event.Call true name caller bytes) (Running p a) reached → IsAsBefore p a reached.next

  abbrev pub CallsOfQueriesLeaveNoTrace : Measure → Type 0
  CallsOfQueriesLeaveNoTrace pays =
      (programs : List (Program L)) (own : List ℕ) (name caller bytes : List ℕ) (p : Program L) (a : Actor L) (reached : Outcome (ActorState L))
      → p.update name ≡ None → Step pays programs own (event.Call false name caller bytes) (Running p a) reached → IsAsBefore p a reached.next

  -- An event that trapped is undone.
  abbrev pub TrapsAreUndone : Measure → Type 0
  TrapsAreUndone pays =
      (programs : List (Program L)) (own : List ℕ) (e : Event) (state : ActorState L) (reached : Outcome (ActorState L))
      → Step pays programs own e state reached → list_any is_trap reached.items ≡ true → IsUndone e state reached.next

  -- In every state that a run comes to, an incoming call without an answer has an open call that could bring it.
  abbrev pub UnansweredCallsWait : Measure → Type 0
  UnansweredCallsWait pays =
      (programs : List (Program L)) (own : List ℕ) (events : List Event) (p : Program L) (a : Actor L) → Reaches pays programs own events (Running p a)
      → (owner : ℕ) → is_answered (activation_at a.activations owner) ≡ false → owns_open a.table owner ≡ true

  -- In every such state at most 500 calls are open.
  abbrev pub CallsAreBounded : Measure → Type 0
  CallsAreBounded pays =
      (programs : List (Program L)) → AllByRecursion (λ p. KeepsRoom p) programs → (own : List ℕ) (events : List Event) (p : Program L) (a : Actor L)
      → Reaches pays programs own events (Running p a) → open_count a.table ≤ 500

-- Where each program of a list does what that in its place in another list does, on the events that are given, the runs of
-- the other list are runs of the first one.
abbrev pub PassesCarryRuns : (S T : Language) → Measure → Measure → Type 0
PassesCarryRuns S T pays_old pays_new =
    (related : Program S → Program T → CommittedState S → CommittedState T → Bool) (alike_kept : S.kept → T.kept → Bool) (weighs : ℕ → ℕ → Bool) (given : Event → Bool) (own : List ℕ)
    (ps : List (Program S)) (qs : List (Program T))
    → AllKeep (λ p q s t. related p q s t ≡ true) (λ k l. alike_kept k l ≡ true) (λ x y. weighs x y ≡ true) (λ e. given e ≡ true) pays_old pays_new own ps qs
    → (events : List Event) → AllByRecursion (λ e. given e ≡ true) events → (items : List Item)
    → ActorRun pays_new qs own events items → ActorRun pays_old ps own events items
