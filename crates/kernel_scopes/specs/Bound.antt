-- Names that patterns bind, and the bodies of loops.
use Rattle.std.specs.Prelude.{List, map}
use Rattle.typed_tree.specs.declared.expression.Form.TheOpen as F
use Rattle.typed_tree.specs.declared.expression.TypedExpression.{TypedExpression}
use Rattle.typing_rules.specs.AbstractSyntax.{Bytes}
use Rattle.typing_rules.specs.AbstractSyntax as p
use Rattle.typing_rules.specs.Terms.{unit}
use Rattle.typing_rules.specs.TypedTrees as trees
use Rattle.abstract_tree.specs.declared.expressions.Expression.{Expression}
use Rattle.abstract_types.specs.declared.patterns.Pattern.{Pattern}
use Rattle.abstract_types.specs.PatternView.{listed, pattern}
use Rattle.value_scopes.specs.declared.note.Note.{Note}
use Rattle.value_scopes.specs.Values.{noted}
use Rattle.met_types.specs.States.{State}
use Rattle.desugaring.specs.FreeNames.{names_in, names_in_each}
use Rattle.desugaring.specs.Frames.{Continued, Frame, with_exit}
use Rattle.desugaring.specs.Nodes as nodes
use Rattle.kernel_types.specs.Numbers.{definitions, number}
use Rattle.kernel_parts.specs.Views.{tree_of}

module _ (s : State) where
  abbrev pub pattern_in : Pattern Note → p.Pattern trees.Note
  pattern_in q = pattern (noted s.forms) q

  abbrev pub patterns_in : List (Pattern Note) → p.Patterns trees.Note
  patterns_in qs = listed (map pattern_in qs)

  abbrev pub names_of : Pattern Note → List Bytes
  names_of q = names_in (pattern_in q)

  abbrev pub parameters_of : List (Pattern Note) → List Bytes
  parameters_of qs = names_in_each (patterns_in qs)

  abbrev pub label_in : TypedExpression → TypedExpression
  label_in a = nodes.at (definitions s) (number s) unit (F.Label a)

  -- the body of a loop under the label x
  abbrev pub continued_of : Frame → Bytes → Expression Note → TypedExpression
  continued_of f x a = label_in (tree_of s (with_exit (Continued x) f) a)
