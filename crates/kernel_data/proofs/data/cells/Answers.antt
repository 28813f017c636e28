use Rattle.std.proofs.Common.{◌∙◌, ap}
use Rattle.typed_tree.specs.declared.expression.TypedExpression.{TypedExpression}
use Rattle.desugaring.specs.Frames.{Frame}
use Rattle.kernel_parts.proofs.Looping.{pushed}
use Rattle.kernel_nodes.specs.Made.{cell_at}
use Rattle.kernel_parts.specs.Views.{tree_of}
use Rattle.kernel_data.specs.Fields.{cells_of}
use Rattle.kernel_data.proofs.data.cells.Goals as goal

pub loop-item-preserved : goal.loop-item-preserved
loop-item-preserved g c = record {
  made = pushed (cells_of c.args.layer.now.types.now c.args.frames.now c.args.of_type) c.args.items.now c.loop-item.item-index c.item-item.result c.loop-item.made c.push.new.self c.in_ok-cell.cell c.loop-item-test.true c.item-item.is c.loop-item.invariant.made
      (c.in_ok-cell.ensures ∙ ap (λ (z : TypedExpression). cell_at c.args.of_type z) (c.in_ok-part.ensures.made ∙ ap (λ (f : Frame). tree_of c.args.layer.now.types.now f c.item-item.result) c.loop-item.invariant.same)) c.in_ok-push.ensures.ok;
  same = c.in_ok-part.ensures.same ∙ c.loop-item.invariant.same;
}
