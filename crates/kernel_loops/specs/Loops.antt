-- Cases, and loops under labels.
use Rattle.typed_tree.specs.declared.expression.Case as typed
use Rattle.typed_tree.specs.declared.expression.Case.{roll-Case}
use Rattle.typed_tree.specs.declared.expression.Form.TheOpen as F
use Rattle.typed_tree.specs.declared.expression.TypedExpression.{TypedExpression}
use Rattle.typing_rules.specs.AbstractSyntax.{Bytes}
use Rattle.type_terms.specs.declared.form.TermId.{TermId}
use Rattle.abstract_tree.specs.declared.expressions.Case.{Case}
use Rattle.abstract_tree.specs.declared.expressions.Expression.{Expression}
use Rattle.abstract_types.specs.declared.patterns.Pattern.{Pattern}
use Rattle.value_scopes.specs.declared.note.Note.{Note}
use Rattle.met_types.specs.States.{State}
use Rattle.desugaring.specs.Expressions.{looped}
use Rattle.desugaring.specs.Frames.{Frame, with_names}
use Rattle.kernel_types.specs.Numbers.{definitions, number}
use Rattle.kernel_nodes.specs.Made.{at_type}
use Rattle.kernel_patterns.specs.Written.{pattern_of}
use Rattle.kernel_parts.specs.Views.{expression_in, tree_of}
use Rattle.kernel_scopes.specs.Bound.{continued_of, names_of}

module _ (s : State) (f : Frame) where
  abbrev pub case_of : Case Note → typed.Case
  case_of x = roll-Case (record { pattern = pattern_of s x.pattern; body = tree_of s (with_names (names_of s x.pattern) f) x.body })

  abbrev pub looped_in : Bytes → Expression Note → TypedExpression
  looped_in x a = looped (definitions s) (number s) f x (expression_in s a)

  module _ (kind : TermId) (x : Bytes) where
    abbrev pub while_under_of : Expression Note → Expression Note → TypedExpression
    while_under_of c a = at_type s kind (F.While (tree_of s f c) (continued_of s f x a))

    abbrev pub loop_under_of : Expression Note → TypedExpression
    loop_under_of a = at_type s kind (F.Loop (continued_of s f x a))

    abbrev pub loop_while_under_of : Expression Note → Expression Note → TypedExpression
    loop_while_under_of a c = at_type s kind (F.Repeat (continued_of s f x a) (tree_of s f c))

    abbrev pub for_under_of : Pattern Note → Expression Note → Expression Note → TypedExpression
    for_under_of q a b = at_type s kind (F.For (pattern_of s q) (tree_of s f a) (continued_of s (with_names (names_of s q) f) x b))
