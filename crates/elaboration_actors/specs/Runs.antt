-- Runs of actors over lists of events: what the elaborated programs do, the typed programs do (Motoko language manual, sections "Actors" and "Stable
-- variables").
use Rattle.std.specs.Prelude.{◌≡◌, ℕ, ◌*◌, ◌≤◌, Bool, true, List, map}
use Rattle.std.specs.List.{AllByRecursion}
use Rattle.play_script.specs.declared.event.Event.{Event}
use Rattle.play_script.specs.declared.item.Item.{Item}
use Rattle.mo_types.specs.Graph.{head_at}
use Rattle.mo_actor.specs.Measures.{Measure, Spent, Unmeasured}
use Rattle.mo_actor.specs.Passes.{CommittedState}
use Rattle.mo_actor.specs.Programs as actor
use Rattle.mo_actor.specs.Steps.{ActorRun}
use Rattle.core_ir.specs.Actor.{core_language, actor_program}
use Rattle.core_ir.specs.CoreMachine.{Waiting, core_machine}
use Rattle.core_ir.specs.Expressions.{Core}
use Rattle.core_ir.specs.Messages.{Messages}
use Rattle.mo_meaning.specs.Coding.{Coding}
use Rattle.mo_meaning.specs.Kernel.{Kept}
use Rattle.mo_machine.specs.ActorLanguage.{machine}
use Rattle.mo_machine.specs.States.{TypedActor, by_meaning}
use Rattle.elaboration_actors.specs.Actors.{SameMessages, SoundActor, StartsAndSaves}

-- one of the programs between which upgrades go: as it is typed, as it is elaborated, what its actor is told of messages, how many bytes its first memory
-- has then, and a test of the states in which it may be
pub record Version : Type 0 where
  pub typed : TypedActor
  pub core : Core
  pub messages : Messages Kept
  pub memory : ℕ
  pub safe : CommittedState machine → Bool

abbrev pub elaborated_actor : Version → actor.Program (core_language Waiting Kept)
elaborated_actor v = actor_program (core_machine v.core) v.messages v.core v.memory

abbrev pub typed_actor : Version → TypedActor
typed_actor v = v.typed

module _ (times : ℕ) (coding : Coding) (own : List ℕ) (allowed : Event → Bool) (fits : Kept → Bool) where
  -- all that is asked of a program
  pub record Qualifies (v : Version) : Type 0 where
    pub messages : SameMessages coding v.typed.types v.typed.program v.messages
    pub head : v.core.head ≡ head_at v.typed.types
    pub memory : v.memory ≤ times * v.typed.first
    pub sound : SoundActor times coding v.typed.types v.typed.program v.typed.first own (λ e. allowed e ≡ true) (λ s. v.safe s ≡ true) (λ k. fits k ≡ true)
    pub starting : StartsAndSaves times coding v.typed.types v.typed.program v.typed.first own (λ e. allowed e ≡ true) (λ s. v.safe s ≡ true) (λ k. fits k ≡ true) v.core v.messages v.memory

  -- upgrades from each of the programs to each among the events
  abbrev pub RunsBy : Measure → Measure → List Version → Type 0
  RunsBy pays_old pays_new versions =
      (events : List Event) → AllByRecursion (λ e. allowed e ≡ true) events → (items : List Item)
      → ActorRun pays_new (map elaborated_actor versions) own events items → ActorRun pays_old (map (by_meaning coding) (map typed_actor versions)) own events items

abbrev pub RunsKeep : Type 0
RunsKeep =
    (times : ℕ) → 1 ≤ times → (coding : Coding) (own : List ℕ) (allowed : Event → Bool) (fits : Kept → Bool) (versions : List Version) → AllByRecursion (Qualifies times coding own allowed fits) versions
    → RunsBy times coding own allowed fits Unmeasured Unmeasured versions

-- an exhaustion of an elaborated program that is deserved by so many steps and pages is deserved by the meaning where those times so many are no more
abbrev pub MeasuredRunsKeep : Type 0
MeasuredRunsKeep =
    (times : ℕ) → 1 ≤ times → (coding : Coding) (own : List ℕ) (allowed : Event → Bool) (fits : Kept → Bool) (versions : List Version) → AllByRecursion (Qualifies times coding own allowed fits) versions
    → (steps stack pages more_steps more_pages : ℕ) → times * steps ≤ more_steps → times * pages ≤ more_pages → RunsBy times coding own allowed fits (Spent steps stack pages) (Spent more_steps stack more_pages) versions
