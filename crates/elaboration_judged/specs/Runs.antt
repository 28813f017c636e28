-- What elaborated programs do over a list of events, the judged programs from which they are made do by the meaning (Motoko language manual, sections "Actors",
-- "Stable variables" and "Type soundness").
use Rattle.std.specs.Prelude.{ℕ, ◌*◌, ◌≤◌, List, length, map}
use Rattle.std.specs.List.{AllByRecursion}
use Rattle.play_script.specs.declared.event.Event.{Event}
use Rattle.play_script.specs.declared.item.Item.{Item}
use Rattle.mo_values.specs.Shapes.{Bytes}
use Rattle.mo_actor.specs.Measures.{Never, Spent, Unmeasured}
use Rattle.mo_actor.specs.Steps.{ActorRun}
use Rattle.mo_meaning.specs.Coding.{Coding, IsFaithful}
use Rattle.mo_machine.specs.States.{by_meaning}
use Rattle.program_soundness.specs.Actors.{IsProper}
use Rattle.elaboration_kept.specs.Runs.{Version, typed_actor, elaborated_actor, RunsBy}
use Rattle.elaboration_judged.specs.Judged.{IsJudged}

-- one of the programs, made of a judged source
pub record IsJudgedVersion (times : ℕ) (v : Version) : Type 0 where
  pub judged : IsJudged v.program_of
  pub memory : v.memory ≤ times * v.first

abbrev pub JudgedRunsKeep : Type 0
JudgedRunsKeep =
    (times : ℕ) → 3 ≤ times → (coding : Coding) → IsFaithful coding → (own : Bytes) → length own ≤ 29 → (versions : List Version) → AllByRecursion (IsJudgedVersion times) versions
    → RunsBy coding own Unmeasured Unmeasured versions

-- with exhaustions, deserved by so many steps and pages
abbrev pub MeasuredJudgedRunsKeep : Type 0
MeasuredJudgedRunsKeep =
    (times : ℕ) → 3 ≤ times → (coding : Coding) → IsFaithful coding → (own : Bytes) → length own ≤ 29 → (versions : List Version) → AllByRecursion (IsJudgedVersion times) versions
    → (steps stack pages more_steps more_pages : ℕ) → times * steps ≤ more_steps → times * pages ≤ more_pages → RunsBy coding own (Spent steps stack pages) (Spent more_steps stack more_pages) versions

-- and the other way round, where nothing is exhausted
abbrev pub ElaboratesBy : Coding → Bytes → List Version → Type 0
ElaboratesBy coding own versions =
    (events : List Event) → AllByRecursion IsProper events → (items : List Item)
    → ActorRun Never (map (by_meaning coding) (map typed_actor versions)) own events items → ActorRun Never (map (elaborated_actor coding) versions) own events items

abbrev pub JudgedRunsElaborate : Type 0
JudgedRunsElaborate =
    (times : ℕ) → 3 ≤ times → (coding : Coding) → IsFaithful coding → (own : Bytes) → length own ≤ 29 → (versions : List Version) → AllByRecursion (IsJudgedVersion times) versions
    → ElaboratesBy coding own versions
