-- Starts of well-typed programs, and what is saved of their actors before an upgrade: nothing is called or awaited there, no error is thrown, and no jump leaves
-- the declarations or the hook (Motoko language manual, sections "Actors", "Stable variables" and "System functions").
use Rattle.std.specs.Prelude.{◌≡◌, ◌≤◌, ℕ, List, length, Option, Some}
use Rattle.mo_types.specs.declared.node.TypeId.{TypeId}
use Rattle.mo_types.specs.Code.{Variable}
use Rattle.mo_types.specs.Graph.{head_at}
use Rattle.mo_values.specs.Shapes.{Bytes}
use Rattle.typed_tree.specs.declared.program.Program.{Program as TypedProgram}
use Rattle.typed_tree.specs.ProgramView.{program}
use Rattle.typed_tree.specs.WellTyped.{WellTyped}
use Rattle.mo_meaning.specs.Coding.{Types, Coding, IsFaithful}
use Rattle.mo_meaning.specs.Configurations.{Surroundings}
use Rattle.mo_meaning.specs.Exports.{stable_cells}
use Rattle.mo_meaning.specs.Kernel.{Kept}
use Rattle.mo_meaning.specs.Saving.{alone, held_in, variables_of}
use Rattle.mo_machine.specs.ActorLanguage.{Fields, unload_fields}
use Rattle.mo_machine.specs.Configurations.{Configuration, Returns, Still, Ended}
use Rattle.mo_machine.specs.Exports.{part_at, values_in}
use Rattle.mo_machine.specs.Starting.{saving_from, start_from}
use Rattle.mo_machine.specs.Turns.{steps}
use Rattle.mo_machine.specs.Unload.{unload, unload_list}
use Rattle.mo_machine.specs.Values.{Value}
use Rattle.mo_soundness.specs.Running.{AnswerTypes}
use Rattle.program_soundness.specs.Bodies.{FieldsTyped}
use Rattle.elaboration_starts.specs.Saves.{HoldEach}
use Rattle.elaboration_starts.specs.Staying.{StaysAt}

-- each state on the way stays inside
abbrev pub IsInside : Surroundings → Configuration → Type 0
IsInside s c = (j : ℕ) (c' : Configuration) → steps s j c ≡ Still c' → StaysAt (head_at s.types) c'.store c'.focus c'.stack

-- also over what an upgrade kept
abbrev pub StartsStayInside : Type 0
StartsStayInside =
    (coding : Coding) → IsFaithful coding → (p : TypedProgram) → WellTyped p → (own : Bytes) → length own ≤ 29 → (kept : Option Kept)
    → IsInside (alone coding p.types own) (start_from coding p.types (program p) own kept)

module _ (coding : Coding) (types : Types) (p : TypedProgram) (own : Bytes) (f : Fields) where
  abbrev pub Saved : ℕ → Configuration → Value → Type 0
  Saved j c v = steps (alone coding types own) j (saving_from (program p) f) ≡ Ended c (Returns v)

  -- where the hook has ended each cell holds a value, and these are of the types of the stable variables
  pub record SaveHolds : Type 0 where
    pub inside : IsInside (alone coding types own) (saving_from (program p) f)
    pub holds : (j : ℕ) (c : Configuration) (v : Value) → Saved j c v → (vs : List Value) × HoldEach c.store (values_in (part_at 3 f.exports)) vs
    pub saves : (j : ℕ) (c : Configuration) (v : Value) → Saved j c v
        → (variables : List (Variable TypeId)) × (variables_of types (program p).stable (held_in (unload_list c.store) (stable_cells (unload f.exports))) ≡ Some variables)

abbrev pub SavesHold : Type 0
SavesHold =
    (coding : Coding) (p : TypedProgram) → WellTyped p → (own : Bytes) (answers : AnswerTypes) (kinds : List TypeId) (fields : Fields)
    → FieldsTyped p.types (program p) answers kinds (unload_fields fields) → SaveHolds coding p.types p own fields
