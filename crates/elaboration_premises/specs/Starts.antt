-- Starts and saves of well-typed programs are as elaboration asks (Motoko language manual, sections "Actors" and "Stable variables").
use Rattle.std.specs.Prelude.{◌≤◌, List, [], length, Option}
use Rattle.mo_types.specs.declared.node.TypeId.{TypeId}
use Rattle.mo_values.specs.Shapes.{Bytes}
use Rattle.typed_tree.specs.declared.program.Program.{Program}
use Rattle.typed_tree.specs.ProgramView.{program}
use Rattle.typed_tree.specs.WellTyped.{WellTyped}
use Rattle.mo_meaning.specs.Coding.{Coding, IsFaithful}
use Rattle.mo_meaning.specs.Kernel.{Kept}
use Rattle.mo_meaning.specs.Saving.{alone}
use Rattle.mo_soundness.specs.Running.{AnswerTypes}
use Rattle.program_soundness.specs.Bodies.{FieldsTyped}
use Rattle.mo_machine.specs.ActorLanguage.{Fields, unload_fields}
use Rattle.mo_machine.specs.Starting.{saving_from, start_from}
use Rattle.mo_machine.specs.Turns.{steps}
use Rattle.elaboration_premises.specs.Serving.{Served}

-- also over what an upgrade kept
abbrev pub StartsServe : Type 0
StartsServe =
    (coding : Coding) → IsFaithful coding → (p : Program) → WellTyped p → (own : Bytes) → length own ≤ 29 → (kept : Option Kept) → Served (λ j. steps (alone coding p.types own) j (start_from coding p.types (program p) own kept))

-- the hook before an upgrade
abbrev pub SavesServe : Type 0
SavesServe =
    (coding : Coding) (p : Program) → WellTyped p → (own : Bytes) (answers : AnswerTypes) (kinds : List TypeId) (fields : Fields) → FieldsTyped p.types (program p) answers kinds (unload_fields fields)
    → Served (λ j. steps (alone coding p.types own) j (saving_from (program p) fields))
