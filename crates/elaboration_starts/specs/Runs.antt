-- Runs of elaborated programs: what is asked of them is asked of the typed programs alone (Motoko language manual, sections "Actors" and "Stable
-- variables").
use Rattle.std.specs.Prelude.{◌≡◌, ℕ, ◌*◌, ◌≤◌, Bool, true, List, Option, Some, None}
use Rattle.std.specs.List.{AllByRecursion}
use Rattle.play_script.specs.declared.event.Event.{Event}
use Rattle.play_script.specs.declared.event.Event.TheVariants as event
use Rattle.mo_types.specs.Graph.{head_at}
use Rattle.mo_actor.specs.Measures.{Spent, Unmeasured}
use Rattle.mo_actor.specs.Passes.{committed_state}
use Rattle.mo_actor.specs.States.{Actor}
use Rattle.typed_tree.specs.Language as source
use Rattle.mo_meaning.specs.Coding.{Coding}
use Rattle.mo_meaning.specs.Kernel.{Kept}
use Rattle.mo_meaning.specs.Saving.{alone}
use Rattle.mo_meaning.specs.Starting.{all_taken, all_kept}
use Rattle.mo_machine.specs.ActorLanguage.{machine}
use Rattle.mo_machine.specs.Starting.{start_from}
use Rattle.elaboration.specs.Playing.{messages_of}
use Rattle.elaboration.specs.Programs.{elaborated}
use Rattle.elaboration_actors.specs.Actors.{SoundActor}
use Rattle.elaboration_actors.specs.Runs.{Version, RunsBy}
use Rattle.elaboration_starts.specs.Saves.{SaveIsSound}
use Rattle.elaboration_starts.specs.Starts.{ActorStands, StartIsSound}

module _ (times : ℕ) (coding : Coding) (own : List ℕ) (allowed : Event → Bool) (fits : Kept → Bool) where
  -- a program that is elaborated, and whose executions are sound: events, starts and saves
  pub record IsElaborated (v : Version) : Type 0 where
    pub core : v.core ≡ elaborated v.typed.program
    pub messages : v.messages ≡ messages_of coding v.typed.types v.typed.program
    pub head : v.core.head ≡ head_at v.typed.types
    pub memory : v.memory ≤ times * v.typed.first
    pub stands : ActorStands v.typed.program
    pub sound : SoundActor times coding v.typed.types v.typed.program v.typed.first own (λ e. allowed e ≡ true) (λ s. v.safe s ≡ true) (λ k. fits k ≡ true)
    pub installs : StartIsSound times (alone coding v.typed.types own) (start_from coding v.typed.types v.typed.program own None)
    pub upgrades : (kept : Kept) → fits kept ≡ true → (vs : List (Option source.Value)) → all_kept (all_taken coding kept.types v.typed.types kept.variables v.typed.program.stable) ≡ Some vs
        → StartIsSound times (alone coding v.typed.types own) (start_from coding v.typed.types v.typed.program own (Some kept))
    pub saves : (number : ℕ) → allowed (event.Upgrade number) ≡ true → (a : Actor machine) → v.safe (committed_state a) ≡ true → SaveIsSound times coding v.typed.types v.typed.program own a.store

abbrev pub ElaboratedRunsKeep : Type 0
ElaboratedRunsKeep =
    (times : ℕ) → 3 ≤ times → (coding : Coding) (own : List ℕ) (allowed : Event → Bool) (fits : Kept → Bool) (versions : List Version) → AllByRecursion (IsElaborated times coding own allowed fits) versions
    → RunsBy times coding own allowed fits Unmeasured Unmeasured versions

-- with exhaustions, deserved by so many steps and pages
abbrev pub MeasuredElaboratedRunsKeep : Type 0
MeasuredElaboratedRunsKeep =
    (times : ℕ) → 3 ≤ times → (coding : Coding) (own : List ℕ) (allowed : Event → Bool) (fits : Kept → Bool) (versions : List Version) → AllByRecursion (IsElaborated times coding own allowed fits) versions
    → (steps stack pages more_steps more_pages : ℕ) → times * steps ≤ more_steps → times * pages ≤ more_pages → RunsBy times coding own allowed fits (Spent steps stack pages) (Spent more_steps stack more_pages) versions
