-- What parts are written out to, with the types as they are in the table and in the graph.
use Rattle.std.specs.Prelude.{Bool, List, map}
use Rattle.typed_tree.specs.declared.expression.TypedExpression.{TypedExpression}
use Rattle.typing_rules.specs.AbstractSyntax as p
use Rattle.typing_rules.specs.TypedTrees as trees
use Rattle.abstract_tree.specs.declared.declarations.Declaration.{Declaration}
use Rattle.abstract_tree.specs.declared.expressions.Expression.{Expression}
use Rattle.abstract_tree.specs.TreeView.{declaration, declarations, expression}
use Rattle.value_scopes.specs.declared.note.Note.{Note}
use Rattle.value_scopes.specs.Values.{noted}
use Rattle.met_types.specs.States.{State}
use Rattle.desugaring.specs.Expressions.{form, pieces, tree}
use Rattle.desugaring.specs.Frames.{Frame}
use Rattle.desugaring.specs.Pieces.{Arranged, arranged}
use Rattle.kernel_types.specs.Numbers.{definitions, number}

module _ (s : State) where
  abbrev pub expression_in : Expression Note → p.Expression trees.Note
  expression_in e = expression (noted s.forms) e

  abbrev pub list_in : List (Declaration Note) → p.Declarations trees.Note
  list_in ds = declarations (map (declaration (noted s.forms)) ds)

  module _ (f : Frame) where
    abbrev pub tree_of : Expression Note → TypedExpression
    tree_of e = tree (definitions s) (number s) f (expression_in e)

    abbrev pub form_of : Note → p.Form trees.Note → TypedExpression
    form_of n x = form (definitions s) (number s) f (noted s.forms n) x

    abbrev pub list_of : Bool → List (Declaration Note) → Arranged
    list_of has_value ds = arranged has_value (pieces (definitions s) (number s) (list_in ds)) f
