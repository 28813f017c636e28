use Rattle.std.proofs.Common.{◌∙◌, List, [], ◌∷◌, ap}
use Rattle.desugaring.specs.Frames.{Frame}
use Rattle.typed_tree.specs.declared.expression.TypedExpression.{TypedExpression}
use Rattle.typed_tree.specs.declared.action.Action.TheVariants as action
use Rattle.kernel_nodes.specs.Made.{acts_at}
use Rattle.kernel_parts.specs.Views.{tree_of}
use Rattle.kernel_choices.specs.Cells.{cell_of}
use Rattle.kernel_nodes.proofs.Rolling.{if_same}
use Rattle.kernel_choices.proofs.places.write_cell.Goals as goal

pub returns-clause-made : goal.returns-clause-made
returns-clause-made g c =
    if_same c.acts.result (acts_at c.args.layer.now.types.now c.args.note.kind action.Write c.in_ok-operands.operands) (acts_at c.args.layer.now.types.now c.args.note.kind action.Write ((cell_of c.args.layer.now.types.now c.args.frames.now c.args.to.now) ∷ tree_of c.args.layer.now.types.now c.args.frames.now c.args.a.now ∷ []))
    (ap (λ (l : List TypedExpression). acts_at c.args.layer.now.types.now c.args.note.kind action.Write l) (c.in_ok-operands.ensures
    ∙ (ap (λ (z : TypedExpression). z ∷ c.in_ok-value.value ∷ []) c.in_ok-place.ensures.made ∙ ap (λ (z : TypedExpression). (cell_of c.args.layer.now.types.now c.args.frames.now c.args.to.now) ∷ z ∷ []) (c.in_ok-value.ensures.made ∙ ap (λ (f : Frame). tree_of c.args.layer.now.types.now f c.args.a.now) c.in_ok-place.ensures.same)))) c.acts.ensures
