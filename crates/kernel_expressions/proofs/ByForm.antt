-- An expression, by its form.
use Rattle.std.proofs.Common.{◌≡◌, ◌∙◌, sym, ap}
use Rattle.std.specs.Prelude.{Result, IfOk}
use Rattle.typing_rules.specs.AbstractSyntax as p
use Rattle.typing_rules.specs.TypedTrees as trees
use Rattle.typed_tree.specs.declared.expression.TypedExpression.{TypedExpression}
use Rattle.abstract_tree.specs.declared.expressions.Expression.{Expression}
use Rattle.abstract_tree.specs.declared.expressions.ExpressionForm.{ExpressionForm}
use Rattle.abstract_tree.specs.TreeView.{expression_form}
use Rattle.value_scopes.specs.declared.note.Note.{Note}
use Rattle.value_scopes.specs.Values.{noted}
use Rattle.met_types.specs.States.{State}
use Rattle.desugaring.specs.Expressions.{tree}
use Rattle.desugaring.specs.Frames.{Frame}
use Rattle.judged_parts.proofs.TreeViews.{expression_is}
use Rattle.kernel_nodes.proofs.Rolling.{if_same}
use Rattle.kernel_types.specs.Numbers.{definitions, number}
use Rattle.kernel_parts.specs.Views.{form_of, tree_of}

module _ {E : Type 0} (s : State) (f : Frame) where
  pub of_form : (n : Note) (x y : p.Form trees.Note) (r : Result TypedExpression E) → x ≡ y → IfOk r (λ m. m ≡ form_of s f n y) → IfOk r (λ m. m ≡ form_of s f n x)
  of_form n x y r e = if_same r (form_of s f n y) (form_of s f n x) (ap (form_of s f n) (sym e))

  pub of_tree : (a : Expression Note) (g : ExpressionForm Note) (r : Result TypedExpression E) → g ≡ a.form → IfOk r (λ m. m ≡ form_of s f a.note (expression_form (noted s.forms) g)) → IfOk r (λ m. m ≡ tree_of s f a)
  of_tree a g r e =
      if_same r (form_of s f a.note (expression_form (noted s.forms) g)) (tree_of s f a)
      (ap (λ (h : ExpressionForm Note). form_of s f a.note (expression_form (noted s.forms) h)) e ∙ ap (tree (definitions s) (number s) f) (sym (expression_is (noted s.forms) a)))
