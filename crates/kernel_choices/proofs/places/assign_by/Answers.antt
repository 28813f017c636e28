use Rattle.std.proofs.Common.{◌∙◌, ap, refl, sym}
use Rattle.typed_tree.specs.declared.expression.TypedExpression.{TypedExpression}
use Rattle.typed_tree.specs.declared.expression.Form.TheVariants as f
use Rattle.typed_tree.specs.declared.expression.Form.TheOpen as F
use Rattle.mo_values.specs.declared.operation.Operation.{Operation}
use Rattle.typing_rules.specs.Terms.{Term}
use Rattle.typing_rules.specs.TypedTrees.{type_of}
use Rattle.desugaring.specs.Frames.{Frame}
use Rattle.desugaring.specs.Nodes.{operation}
use Rattle.kernel_types.specs.Numbers.{definitions, number, number_of}
use Rattle.kernel_nodes.proofs.Rolling.{made_as}
use Rattle.kernel_parts.specs.Views.{expression_in, tree_of}
use Rattle.kernel_parts.proofs.Typed.{type_is}
use Rattle.kernel_choices.specs.Cells.{cell_of}
use Rattle.kernel_choices.proofs.places.assign_by.Goals as goal

pub returns-clause-made : goal.returns-clause-made
returns-clause-made g c =
    let o : Operation = operation (definitions c.args.layer.now.types.now) (number c.args.layer.now.types.now) c.args.operator (type_of (expression_in c.args.layer.now.types.now c.args.to.now)) in
    made_as c.at.result (number_of c.args.layer.now.types.now c.args.note.kind) (number_of c.args.layer.now.types.now c.args.note.kind) (f.Update c.in_ok-done.done c.in_ok-place.place c.in_ok-value.value) (F.Update o (cell_of c.args.layer.now.types.now c.args.frames.now c.args.to.now) (tree_of c.args.layer.now.types.now c.args.frames.now c.args.a.now)) refl
    (f.rolls-Update o (cell_of c.args.layer.now.types.now c.args.frames.now c.args.to.now) (tree_of c.args.layer.now.types.now c.args.frames.now c.args.a.now)
    ∙ (ap (λ (w : Operation). f.Update w (cell_of c.args.layer.now.types.now c.args.frames.now c.args.to.now) (tree_of c.args.layer.now.types.now c.args.frames.now c.args.a.now)) (sym (c.in_ok-done.ensures ∙ ap (λ (u : Term). operation (definitions c.args.layer.now.types.now) (number c.args.layer.now.types.now) c.args.operator u) (sym (type_is c.args.layer.now.types.now c.args.to.now))))
    ∙ (ap (λ (z : TypedExpression). f.Update c.in_ok-done.done z (tree_of c.args.layer.now.types.now c.args.frames.now c.args.a.now)) (sym c.in_ok-place.ensures.made)
    ∙ ap (λ (z : TypedExpression). f.Update c.in_ok-done.done c.in_ok-place.place z) (sym (c.in_ok-value.ensures.made ∙ ap (λ (f : Frame). tree_of c.args.layer.now.types.now f c.args.a.now) c.in_ok-place.ensures.same))))) c.at.ensures
