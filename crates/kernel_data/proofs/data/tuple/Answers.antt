use Rattle.std.proofs.Common.{◌∙◌, List, ap, map}
use Rattle.typed_tree.specs.declared.expression.TypedExpression.{TypedExpression}
use Rattle.abstract_tree.specs.TreeView.{listed}
use Rattle.desugaring.specs.Expressions.{trees}
use Rattle.kernel_types.specs.Numbers.{definitions, number}
use Rattle.kernel_parts.specs.Views.{expression_in}
use Rattle.kernel_data.proofs.Several.{each_is}
use Rattle.kernel_nodes.specs.Made.{tuple_at}
use Rattle.kernel_nodes.proofs.Rolling.{if_same}
use Rattle.kernel_data.proofs.data.tuple.Goals as goal

pub returns-clause-made : goal.returns-clause-made
returns-clause-made g c =
    if_same c.tuple.result (tuple_at c.args.layer.now.types.now c.args.note.kind c.in_ok-parts.parts) (tuple_at c.args.layer.now.types.now c.args.note.kind (trees (definitions c.args.layer.now.types.now) (number c.args.layer.now.types.now) c.args.frames.now (listed (map (expression_in c.args.layer.now.types.now) c.args.items.now))))
    (ap (λ (l : List TypedExpression). tuple_at c.args.layer.now.types.now c.args.note.kind l) (c.in_ok-parts.ensures.made ∙ each_is c.args.layer.now.types.now c.args.frames.now c.args.items.now)) c.tuple.ensures
