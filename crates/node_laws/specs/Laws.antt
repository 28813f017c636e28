-- Nodes of what is written out, and of what is written.
use Rattle.std.specs.Prelude.{suc, ◌+◌, false, List}
use Rattle.mo_types.specs.declared.node.TypeId.{TypeId}
use Rattle.mo_types.specs.Graph.{Slot}
use Rattle.typed_tree.specs.Nodes.{in_expression, in_patterns, in_list}
use Rattle.typed_tree.specs.Typing.{Covers}
use Rattle.typing_rules.specs.AbstractSyntax.{Patterns, Expression, Declarations, Program}
use Rattle.typing_rules.specs.Definitions.{Definitions}
use Rattle.typing_rules.specs.Nodes as counts
use Rattle.typing_rules.specs.Terms.{Term}
use Rattle.typing_rules.specs.TypedTrees.{Note}
use Rattle.desugaring.specs.Expressions.{tree, public_names, pieces, object_of_names}
use Rattle.desugaring.specs.Frames.{Frame}
use Rattle.desugaring.specs.Patterns.{patterns}
use Rattle.desugaring.specs.Pieces.{arranged}
use Rattle.desugaring.specs.Programs.{desugared}

-- of the parameters and the body of a function
abbrev pub FunctionsAreCovered : Type 0
FunctionsAreCovered =
    (defs : Definitions) (number : Term → TypeId) (f : Frame) (qs : Patterns Note) (a : Expression Note) →
    Covers (counts.in_patterns qs + counts.in_expression a) (in_patterns (patterns defs number qs) + in_expression (tree defs number f a))

-- of the parameters of a class and the object that it makes
abbrev pub ClassesAreCovered : Type 0
ClassesAreCovered =
    (defs : Definitions) (number : Term → TypeId) (f : Frame) (u : Term) (qs : Patterns Note) (fields : Declarations Note) →
    Covers (suc (counts.in_patterns qs + counts.in_list fields)) (in_patterns (patterns defs number qs) + in_expression (object_of_names defs number u (public_names fields) (arranged false (pieces defs number fields) f)))

-- of the declarations of a program
abbrev pub ProgramsAreCovered : Type 0
ProgramsAreCovered =
    (defs : Definitions) (number : Term → TypeId) (types : List Slot) (program : Program Note) →
    Covers (desugared defs number types program).nodes (in_list (desugared defs number types program).declarations)
