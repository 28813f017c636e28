use Rattle.std.proofs.Common.{◌∙◌, ap, sym}
use Rattle.abstract_tree.proofs.TreeViews.{expression_is}
use Rattle.abstract_tree.specs.TreeView.{plain_form}
use Rattle.expression_shapes.specs.Shapes.{shape_of, shape_of_form}
use Rattle.expression_shapes.proofs.shape.shape_of.Goals as goal

pub returns : goal.returns
returns c = c.form_shape.ensures ∙ (ap (λ f. shape_of_form (plain_form f)) c.get.ensures ∙ sym (ap shape_of (expression_is c.args.expression.now)))
