-- What an upgrade saves of the actor of an elaborated program: its hook and its cells are those of the typed program, and so it does the same (Motoko
-- language manual, section "Stable variables").
use Rattle.std.specs.Prelude.{◌≡◌, ℕ, ◌≤◌, List, [], ◌∷◌, Some}
use Rattle.mo_types.specs.declared.node.TypeId.{TypeId}
use Rattle.mo_types.specs.Code.{Variable}
use Rattle.mo_types.specs.Graph.{head_at}
use Rattle.mo_values.specs.Shapes.{Bytes}
use Rattle.core_ir.specs.Actor as core_actor
use Rattle.core_ir.specs.Actor.{actor_program}
use Rattle.core_ir.specs.CoreMachine.{core_machine}
use Rattle.core_ir.specs.Expressions.{Core}
use Rattle.typed_tree.specs.Programs.{Program}
use Rattle.mo_meaning.specs.Coding.{Types, Coding}
use Rattle.mo_meaning.specs.Kernel.{Kept}
use Rattle.mo_meaning.specs.Exports.{stable_cells}
use Rattle.mo_meaning.specs.Saving.{alone, held_in, variables_of}
use Rattle.mo_machine.specs.ActorLanguage.{Fields}
use Rattle.mo_machine.specs.Configurations.{Configuration, Returns, Ended}
use Rattle.mo_machine.specs.Exports.{part_at, values_in}
use Rattle.mo_machine.specs.Starting.{saving_from}
use Rattle.mo_machine.specs.States.{with_states}
use Rattle.mo_machine.specs.Turns.{steps}
use Rattle.mo_machine.specs.Unload.{unload, unload_list}
use Rattle.mo_machine.specs.Acts.{Store}
use Rattle.mo_machine.specs.Cells.{cell_of, held}
use Rattle.mo_machine.specs.Values.{Value}
use Rattle.elaboration.specs.Playing.{messages_of}
use Rattle.elaboration_values.specs.Belonging.{Known}
use Rattle.elaboration_actors.specs.Actors.{globals}
use Rattle.elaboration_actors.specs.Ends.{EndsToo}
use Rattle.elaboration_actors.specs.Bodies.{Follows, FieldsBelong}
use Rattle.elaboration_actors.specs.Saving.{SavingBelongs}
use Rattle.elaboration_starts.specs.Starts.{StartIsSound}

-- what these cells hold
abbrev pub HoldEach : Store → List Value → List Value → Type 0
HoldEach store [] [] = Unit {0}
HoldEach store (c ∷ cs) (v ∷ vs) = (held store (cell_of c) ≡ Some v) × HoldEach store cs vs
HoldEach store _ _ = ⊥

-- the save of a typed program is sound, its cells hold values, and these are of their types
pub record SaveIsSound (times : ℕ) (coding : Coding) (types : Types) (p : Program) (own : Bytes) (f : Fields) : Type 0 where
  pub start : StartIsSound times (alone coding types own) (saving_from p f)
  pub holds : (j : ℕ) (c : Configuration) (v : Value) → steps (alone coding types own) j (saving_from p f) ≡ Ended c (Returns v) → (vs : List Value) × HoldEach c.store (values_in (part_at 3 f.exports)) vs
  pub saves : (j : ℕ) (c : Configuration) (v : Value) → steps (alone coding types own) j (saving_from p f) ≡ Ended c (Returns v)
      → (variables : List (Variable TypeId)) × (variables_of types p.stable (held_in (unload_list c.store) (stable_cells (unload f.exports))) ≡ Some variables)

abbrev pub SavesFollow : Type 0
SavesFollow =
    (times : ℕ) → 3 ≤ times → (coding : Coding) (types : Types) (p : Program) (program : Core) (first memory : ℕ) (own : Bytes) → program.head ≡ head_at types
    → (known : List Known) (f : Fields) (g : core_actor.Fields) → FieldsBelong program g.names (globals program own g.names) known f g → SavingBelongs p program known (globals program own g.names) f.exports
    → SaveIsSound times coding types p own f
    → Follows times (λ (k : Kept) (l : Kept). l ≡ k) ((with_states coding first types p).save own f) ((actor_program (core_machine program) (messages_of coding types p) program memory).save own g)

-- where the typed save has ended, Core's has
abbrev pub SavesEnd : Type 0
SavesEnd =
    (times : ℕ) → 3 ≤ times → (coding : Coding) (types : Types) (p : Program) (program : Core) (first memory : ℕ) (own : Bytes) → program.head ≡ head_at types
    → (known : List Known) (f : Fields) (g : core_actor.Fields) → FieldsBelong program g.names (globals program own g.names) known f g → SavingBelongs p program known (globals program own g.names) f.exports
    → SaveIsSound times coding types p own f
    → EndsToo ((with_states coding first types p).save own f) ((actor_program (core_machine program) (messages_of coding types p) program memory).save own g)
