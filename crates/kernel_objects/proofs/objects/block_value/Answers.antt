use Rattle.std.proofs.Common.{◌∙◌, Option, ap}
use Rattle.typed_tree.specs.declared.expression.TypedExpression.{TypedExpression}
use Rattle.desugaring.specs.Expressions.{or_else}
use Rattle.kernel_nodes.specs.Made.{unit_in}
use Rattle.kernel_nodes.proofs.Rolling.{block_is}
use Rattle.kernel_objects.proofs.objects.block_value.Goals as goal

pub returns : goal.returns
returns c =
    block_is c.args.types.now c.args.kind c.at.result c.parts-steps.result.0 c.args.list.steps c.in_ok-value.value (or_else (unit_in c.args.types.now) c.args.list.last) c.parts-steps.ensures.steps
    (c.in_ok-value.ensures ∙ ap (λ (l : Option TypedExpression). or_else (unit_in c.args.types.now) l) c.parts-steps.ensures.last) c.at.ensures
