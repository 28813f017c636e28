-- The life of one module, told by lists of events: calls, answers, and savings, which are looked at by themselves and leave
-- the state as it was. So an upgrade stands here for its saving alone.
use Rattle.std.specs.Prelude.{◌≡◌, ⊤, ℕ, List, [], ◌∷◌, Option, Some, None}
use Rattle.std.specs.List.{AllByRecursion}
use Rattle.play_script.specs.Events.{IsNoInstall}
use Rattle.play_script.specs.declared.event.Event.{Event}
use Rattle.play_script.specs.declared.event.Event.TheVariants as event
use Rattle.play_script.specs.declared.item.Item.{Item}
use Rattle.play_script.specs.declared.item.Word.TheVariants as word
use Rattle.wasm_tree.specs.declared.module_parts.Module.{Module}
use Rattle.wasm_tree.specs.Exec.{ExecutionLimits}
use Rattle.canister_host.specs.State.{Canister, HostState}
use Rattle.canister_host.specs.declared.calls.IncomingCall.{IncomingCall}
use Rattle.canister_host.specs.Execution.{End, Breaks, left_by}
use Rattle.canister_host.specs.HostRun.{step}
use Rattle.mo_actor.specs.Languages.{Language}
use Rattle.mo_actor.specs.Programs.{Program}
use Rattle.mo_actor.specs.Measures.{Measure}
use Rattle.mo_actor.specs.Results.{Result, HasResult}
use Rattle.mo_actor.specs.States.{Activation, Actor}
use Rattle.mo_actor.specs.Outcomes.{Outcome}
use Rattle.mo_actor.specs.Upgrades.{started, saving}
use Rattle.mo_actor.specs.Steps.{LifeStep}
use Rattle.actor_refinement.specs.Ends.{EndsAlike, save_end}
use Rattle.actor_refinement.specs.Agreement.{SameIncoming}

-- What an event shows: its items, or how saving came out.
pub data Seen (A : Type 0) : Type 0 where
  Shown : (items : List Item) → Seen A
  Saved : (saving : A) → Seen A

-- ---- of an actor

module _ {L : Language} (pays : Measure) (own : List ℕ) (p : Program L) where
  abbrev pub ActorLife : Actor L → List Event → List (Seen (Result L.kept)) → Type 0
  ActorLife a [] seen = seen ≡ []
  ActorLife a (event.Install number ∷ events) seen = ⊥
  ActorLife a (event.Upgrade number ∷ events) seen =
      (r : Result L.kept) × HasResult pays p.first_memory a.charged (saving p own a) r × (others : List (Seen (Result L.kept))) × (seen ≡ Saved r ∷ others) × ActorLife a events others
  ActorLife a (e ∷ events) seen =
      (reached : Outcome (Actor L)) × LifeStep pays p own e a reached × (others : List (Seen (Result L.kept))) × (seen ≡ Shown reached.items ∷ others) × ActorLife reached.next events others

-- ---- of a canister, by its host

abbrev pub saving_end : ExecutionLimits → (own : List ℕ) → Option Canister → End
saving_end limits own None = Breaks word.Unreachable []
saving_end limits own (Some c) = save_end limits own c

abbrev pub canister_life : ExecutionLimits → (own : List ℕ) → List Event → HostState → List (Seen End)
canister_life limits own [] s = []
canister_life limits own (event.Install number ∷ events) s = []
canister_life limits own (event.Upgrade number ∷ events) s = Saved (saving_end limits own s.canister) ∷ canister_life limits own events s
canister_life limits own (e ∷ events) s = Shown (step [] limits own e s).items ∷ canister_life limits own events (step [] limits own e s).next

-- ---- side by side

-- The same items; and the same savings, which leave what is kept in the memory.
abbrev pub SameLives : {Kept : Type 0} → (Kept → List ℕ → Type 0) → List (Seen (Result Kept)) → List (Seen End) → Type 0
SameLives Stable [] [] = ⊤
SameLives Stable (Shown items ∷ seen) (Shown shown ∷ others) = (items ≡ shown) × SameLives Stable seen others
SameLives Stable (Saved r ∷ seen) (Saved end ∷ others) = EndsAlike (λ weight kept store. Stable kept store.world.stable.bytes) r end × SameLives Stable seen others
SameLives Stable _ _ = ⊥

module _ {L : Language} (Stable : L.kept → List ℕ → Type 0) where
  -- The life of the canister over these events is one of the actor.
  abbrev pub LivesAlike : Measure → ExecutionLimits → (own : List ℕ) → Program L → List Event → Actor L → HostState → Type 0
  LivesAlike pays limits own p events a s = (seen : List (Seen (Result L.kept))) × ActorLife pays own p a events seen × SameLives Stable seen (canister_life limits own events s)

  -- A module begins as a program starts, and its life from then on, over any events, whatever calls came and were made before,
  -- is one of the program's actor.
  abbrev pub SegmentsAlike : (Given : Event → Type 0) → Measure → ExecutionLimits → (own : List ℕ) → Program L → Module → Option L.kept → End → Type 0
  SegmentsAlike Given pays limits own p m kept end =
      (r : Result L.store) × HasResult pays p.first_memory 0 (p.start own kept) r
      × EndsAlike (λ weight store left. (events : List Event) → AllByRecursion Given events → AllByRecursion IsNoInstall events
      → (made : ℕ) (activations : List (Activation L)) (incoming : List IncomingCall) → SameIncoming activations incoming
      → LivesAlike pays limits own p events (started made activations store weight) (record { canister = Some (left_by m left); incoming = incoming; made = made; waiting = [] })) r end
