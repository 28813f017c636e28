-- What is written out of judged programs nests less than it has written nodes.
use Rattle.std.specs.Prelude.{◌+◌, ◌≤◌, List, map, length}
use Rattle.mo_types.specs.declared.node.TypeId.{TypeId}
use Rattle.mo_types.specs.Graph.{Slot}
use Rattle.typed_tree.specs.declared.program.Program.{Program as TypedProgram}
use Rattle.typed_tree.specs.Language.{Exp}
use Rattle.typed_tree.specs.ProgramView.{optional_function, program}
use Rattle.typed_tree.specs.View.{block, declaration, expression}
use Rattle.typing_rules.specs.AbstractSyntax.{Expression, Program}
use Rattle.typing_rules.specs.Definitions.{Definitions}
use Rattle.typing_rules.specs.Nodes as counts
use Rattle.typing_rules.specs.Terms.{Term}
use Rattle.typing_rules.specs.TypedTrees.{Note}
use Rattle.desugaring.specs.Expressions.{tree}
use Rattle.desugaring.specs.Frames.{Frame}
use Rattle.desugaring.specs.Programs.{desugared}
use Rattle.nesting.specs.Shapes.{Fine, Shaped, nest, pile}

abbrev pub ExpressionsNest : Type 0
ExpressionsNest = (defs : Definitions) (number : Term → TypeId) (f : Frame) (a : Expression Note) → Fine (counts.in_expression a) (expression (tree defs number f a))

pub record Nests (p : TypedProgram) : Type 0 where
  -- around what stands behind the declarations, where a hook after an upgrade may stand before it
  pub start : (r : Exp) → nest (block (map declaration p.declarations) r) + length (optional_function p.after_upgrade) ≤ p.nodes + nest r
  -- what stands open at once
  pub light : pile 1 1 (program p).body ≤ p.nodes
  -- the functions behind the declarations among them
  pub shaped : Shaped (program p).body

abbrev pub ProgramsNest : Type 0
ProgramsNest = (defs : Definitions) (number : Term → TypeId) (types : List Slot) (source : Program Note) → Nests (desugared defs number types source)
