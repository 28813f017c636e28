-- What elaborated programs do over a list of events, the well-typed programs from which they are made do by the meaning (Motoko language manual, sections
-- "Actors", "Stable variables" and "Type soundness").
use Rattle.std.specs.Prelude.{ℕ, ◌*◌, ◌≤◌, List, length, map}
use Rattle.std.specs.List.{AllByRecursion}
use Rattle.play_script.specs.declared.event.Event.{Event}
use Rattle.play_script.specs.declared.item.Item.{Item}
use Rattle.mo_values.specs.Shapes.{Bytes}
use Rattle.mo_actor.specs.Measures.{Measure, Spent, Unmeasured}
use Rattle.mo_actor.specs.Programs as actor
use Rattle.mo_actor.specs.Steps.{ActorRun}
use Rattle.core_ir.specs.Actor.{core_language, actor_program}
use Rattle.core_ir.specs.CoreMachine.{Waiting, core_machine}
use Rattle.typed_tree.specs.declared.program.Program.{Program}
use Rattle.typed_tree.specs.ProgramView.{program}
use Rattle.typed_tree.specs.WellTyped.{WellTyped}
use Rattle.mo_meaning.specs.Coding.{Coding, IsFaithful}
use Rattle.mo_meaning.specs.Kernel.{Kept}
use Rattle.mo_machine.specs.States.{TypedActor, by_meaning}
use Rattle.machine_nesting.specs.Sizes.{SizedProgram}
use Rattle.program_soundness.specs.Actors.{IsProper}
use Rattle.elaboration.specs.Playing.{messages_of}
use Rattle.elaboration.specs.Programs.{elaborated}
use Rattle.elaboration_starts.specs.Starts.{ActorStands}

-- one of the programs between which upgrades go, with the bytes of the first memory of its actor, as it is typed and as it is elaborated
pub record Version : Type 0 where
  pub program_of : Program
  pub first : ℕ
  pub memory : ℕ

abbrev pub typed_actor : Version → TypedActor
typed_actor v = record { first = v.first; types = v.program_of.types; program = program v.program_of }

abbrev pub elaborated_actor : Coding → Version → actor.Program (core_language Waiting Kept)
elaborated_actor coding v =
    actor_program (core_machine (elaborated (program v.program_of))) (messages_of coding v.program_of.types (program v.program_of)) (elaborated (program v.program_of)) v.memory

-- it is well typed, in the bodies of its functions no more stands open at once than they have nodes, and its names have their places
pub record IsVersion (times : ℕ) (v : Version) : Type 0 where
  pub well_typed : WellTyped v.program_of
  pub sized : SizedProgram (program v.program_of)
  pub stands : ActorStands (program v.program_of)
  pub memory : v.memory ≤ times * v.first

-- upgrades from each of the programs to each among the events
abbrev pub RunsBy : Coding → Bytes → Measure → Measure → List Version → Type 0
RunsBy coding own pays_old pays_new versions =
    (events : List Event) → AllByRecursion IsProper events → (items : List Item)
    → ActorRun pays_new (map (elaborated_actor coding) versions) own events items → ActorRun pays_old (map (by_meaning coding) (map typed_actor versions)) own events items

abbrev pub WellTypedRunsKeep : Type 0
WellTypedRunsKeep =
    (times : ℕ) → 3 ≤ times → (coding : Coding) → IsFaithful coding → (own : Bytes) → length own ≤ 29 → (versions : List Version) → AllByRecursion (IsVersion times) versions
    → RunsBy coding own Unmeasured Unmeasured versions

-- with exhaustions, deserved by so many steps and pages
abbrev pub MeasuredWellTypedRunsKeep : Type 0
MeasuredWellTypedRunsKeep =
    (times : ℕ) → 3 ≤ times → (coding : Coding) → IsFaithful coding → (own : Bytes) → length own ≤ 29 → (versions : List Version) → AllByRecursion (IsVersion times) versions
    → (steps stack pages more_steps more_pages : ℕ) → times * steps ≤ more_steps → times * pages ≤ more_pages → RunsBy coding own (Spent steps stack pages) (Spent more_steps stack more_pages) versions
