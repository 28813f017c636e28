-- No more stands open on the machine than the bodies have nodes.
use Rattle.std.specs.Prelude.{ℕ, ◌≤◌}
use Rattle.mo_values.specs.Shapes.{Bytes}
use Rattle.typed_tree.specs.Programs.{Program}
use Rattle.nesting.specs.Shapes.{pile, Shaped}
use Rattle.mo_meaning.specs.Coding.{Types, Coding}
use Rattle.machine_nesting.specs.Actors.{LightActor}
use Rattle.machine_nesting.specs.Sizes.{SizedProgram}

abbrev pub NestedProgramsAreSized : Type 0
NestedProgramsAreSized = (p : Program) → pile 1 1 p.body ≤ p.nodes → Shaped p.body → SizedProgram p

abbrev pub ActorsAreLight : Type 0
ActorsAreLight = (coding : Coding) (types : Types) (p : Program) → SizedProgram p → (first : ℕ) (own : Bytes) → LightActor coding types p first own
