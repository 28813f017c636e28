use Rattle.std.proofs.Common.{◌∙◌, List, ap, map}
use Rattle.typed_tree.specs.declared.expression.TypedExpression.{TypedExpression}
use Rattle.abstract_tree.specs.TreeView.{listed}
use Rattle.desugaring.specs.Expressions.{trees}
use Rattle.kernel_types.specs.Numbers.{definitions, number}
use Rattle.kernel_parts.specs.Views.{expression_in}
use Rattle.kernel_data.proofs.Several.{each_is}
use Rattle.mo_values.specs.declared.operation.Operation.TheVariants as op
use Rattle.kernel_nodes.specs.Made.{operates_at}
use Rattle.kernel_nodes.proofs.Rolling.{if_same}
use Rattle.kernel_data.proofs.data.constant_array.Goals as goal

pub returns-clause-made : goal.returns-clause-made
returns-clause-made g c =
    if_same c.operates.result (operates_at c.args.layer.now.types.now c.args.note.kind op.MakeArray c.in_ok-parts.parts) (operates_at c.args.layer.now.types.now c.args.note.kind op.MakeArray (trees (definitions c.args.layer.now.types.now) (number c.args.layer.now.types.now) c.args.frames.now (listed (map (expression_in c.args.layer.now.types.now) c.args.items.now))))
    (ap (λ (l : List TypedExpression). operates_at c.args.layer.now.types.now c.args.note.kind op.MakeArray l) (c.in_ok-parts.ensures.made ∙ each_is c.args.layer.now.types.now c.args.frames.now c.args.items.now)) c.operates.ensures
