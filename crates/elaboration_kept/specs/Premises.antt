-- What the laws of elaboration ask of executions holds of those of well-typed programs (Motoko language manual, sections "Actors", "Stable variables" and "Type
-- soundness").
use Rattle.std.specs.Prelude.{◌≤◌, ℕ, List, length, Option}
use Rattle.mo_types.specs.declared.node.TypeId.{TypeId}
use Rattle.mo_values.specs.Shapes.{Bytes}
use Rattle.mo_actor.specs.Passes.{CommittedState}
use Rattle.typed_tree.specs.declared.program.Program.{Program as TypedProgram}
use Rattle.typed_tree.specs.Programs.{Program}
use Rattle.typed_tree.specs.ProgramView.{program}
use Rattle.typed_tree.specs.WellTyped.{WellTyped}
use Rattle.mo_meaning.specs.Coding.{Types, Coding, IsFaithful}
use Rattle.mo_meaning.specs.Kernel.{Kept}
use Rattle.mo_meaning.specs.Saving.{alone}
use Rattle.mo_machine.specs.ActorLanguage.{machine, Fields, unload_fields}
use Rattle.mo_machine.specs.Starting.{start_from}
use Rattle.machine_nesting.specs.Actors.{GoodFields, GoodState}
use Rattle.machine_nesting.specs.Sizes.{SizedProgram}
use Rattle.mo_soundness.specs.Running.{AnswerTypes}
use Rattle.program_soundness.specs.Actors.{IsProper}
use Rattle.program_soundness.specs.Bodies.{FieldsTyped}
use Rattle.elaboration_actors.specs.Actors.{SoundActor}
use Rattle.elaboration_starts.specs.Saves.{SaveIsSound}
use Rattle.elaboration_starts.specs.Starts.{StartIsSound}
use Rattle.elaboration_sound.specs.Typed.{CommittedTyped}

-- states in which the actor may be
abbrev pub IsSafe : Types → Program → CommittedState machine → Type 0
IsSafe types p s = CommittedTyped types p s × GoodState s

-- whatever an upgrade hands on
abbrev pub IsAnything : Kept → Type 0
IsAnything k = Unit {0}

abbrev pub ActorsAreSound : Type 0
ActorsAreSound =
    (times : ℕ) → 3 ≤ times → (coding : Coding) → IsFaithful coding → (p : TypedProgram) → WellTyped p → SizedProgram (program p) → (first : ℕ) (own : Bytes) → length own ≤ 29
    → SoundActor times coding p.types (program p) first own IsProper (IsSafe p.types (program p)) IsAnything

abbrev pub StartsAreSound : Type 0
StartsAreSound =
    (times : ℕ) → 3 ≤ times → (coding : Coding) → IsFaithful coding → (p : TypedProgram) → WellTyped p → SizedProgram (program p) → (own : Bytes) → length own ≤ 29 → (kept : Option Kept)
    → StartIsSound times (alone coding p.types own) (start_from coding p.types (program p) own kept)

abbrev pub SavesAreSound : Type 0
SavesAreSound =
    (times : ℕ) → 3 ≤ times → (coding : Coding) (p : TypedProgram) → WellTyped p → SizedProgram (program p) → (own : Bytes) (answers : AnswerTypes) (kinds : List TypeId) (fields : Fields)
    → FieldsTyped p.types (program p) answers kinds (unload_fields fields) → GoodFields fields → SaveIsSound times coding p.types (program p) own fields
