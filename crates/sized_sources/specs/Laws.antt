-- Judged programs, as the machine runs them.
use Rattle.std.specs.Prelude.{List}
use Rattle.mo_types.specs.declared.node.TypeId.{TypeId}
use Rattle.mo_types.specs.Graph.{Slot}
use Rattle.typed_tree.specs.ProgramView.{program}
use Rattle.typing_rules.specs.AbstractSyntax.{Program}
use Rattle.typing_rules.specs.Definitions.{Definitions}
use Rattle.typing_rules.specs.Terms.{Term}
use Rattle.typing_rules.specs.TypedTrees.{Note}
use Rattle.desugaring.specs.Programs.{desugared}
use Rattle.machine_nesting.specs.Sizes.{SizedProgram}

abbrev pub WrittenOutProgramsAreSized : Type 0
WrittenOutProgramsAreSized = (defs : Definitions) (number : Term → TypeId) (types : List Slot) (source : Program Note) → SizedProgram (program (desugared defs number types source))
