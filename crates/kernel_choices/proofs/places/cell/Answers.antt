use Rattle.std.proofs.Common.{◌∙◌, ℕ, [], ◌∷◌, ap}
use Rattle.typed_tree.specs.declared.expression.TypedExpression.{TypedExpression}
use Rattle.mo_values.specs.declared.operation.Operation.TheVariants as op
use Rattle.value_scopes.specs.Values.{noted}
use Rattle.desugaring.specs.Frames.{found}
use Rattle.kernel_nodes.specs.Made.{name_at, operates_at}
use Rattle.kernel_shapes.specs.Kinds.{Element, Member, Name, Other}
use Rattle.kernel_parts.specs.Views.{expression_in, tree_of}
use Rattle.kernel_choices.specs.Cells.{cell_of}
use Rattle.kernel_choices.proofs.Assigned.{cell_is, tree_is}
use Rattle.kernel_nodes.proofs.Rolling.{if_same}
use Rattle.kernel_choices.proofs.places.cell.Goals as goal

pub returns-in-Name-clause-made : goal.returns-in-Name-clause-made
returns-in-Name-clause-made g c =
    if_same c.name.result (name_at c.args.layer.now.types.now c.args.to.now.note.kind c.find-found.result.index) (cell_of c.args.layer.now.types.now c.args.frames.now c.args.to.now)
    (ap (λ (n : ℕ). name_at c.args.layer.now.types.now c.args.to.now.note.kind n) c.find-found.ensures.index ∙ cell_is c.args.layer.now.types.now c.args.frames.now c.args.to.now c.get.result.now c.get.ensures (Name c.in-Name.of.now) (c.in-Name.ensures (noted c.args.layer.now.types.now.forms))) c.name.ensures

pub returns-in_ok-part-in-Member-clause-made : goal.returns-in_ok-part-in-Member-clause-made
returns-in_ok-part-in-Member-clause-made g c =
    if_same c.field.result (operates_at c.args.layer.now.types.now c.args.to.now.note.kind (op.Field c.in-Member.label.now) (c.in_ok-part-in-Member.part ∷ [])) (cell_of c.args.layer.now.types.now c.args.frames.now c.args.to.now)
    (ap (λ (z : TypedExpression). operates_at c.args.layer.now.types.now c.args.to.now.note.kind (op.Field c.in-Member.label.now) (z ∷ [])) c.in_ok-part-in-Member.ensures.made
    ∙ cell_is c.args.layer.now.types.now c.args.frames.now c.args.to.now c.get.result.now c.get.ensures (Member (expression_in c.args.layer.now.types.now c.in-Member.a.now) c.in-Member.label.now) (c.in-Member.ensures (noted c.args.layer.now.types.now.forms))) c.field.ensures

pub returns-in_ok-parts-in-Element-clause-made : goal.returns-in_ok-parts-in-Element-clause-made
returns-in_ok-parts-in-Element-clause-made g c =
    if_same c.element_place.result (operates_at c.args.layer.now.types.now c.args.to.now.note.kind op.Element (c.in_ok-parts-in-Element.parts.0 ∷ c.in_ok-parts-in-Element.parts.1 ∷ [])) (cell_of c.args.layer.now.types.now c.args.frames.now c.args.to.now)
    (ap (λ (z : TypedExpression). operates_at c.args.layer.now.types.now c.args.to.now.note.kind op.Element (z ∷ c.in_ok-parts-in-Element.parts.1 ∷ [])) c.in_ok-parts-in-Element.ensures.first
    ∙ (ap (λ (z : TypedExpression). operates_at c.args.layer.now.types.now c.args.to.now.note.kind op.Element (tree_of c.args.layer.now.types.now c.args.frames.now c.in-Element.a.now ∷ z ∷ [])) c.in_ok-parts-in-Element.ensures.second
    ∙ cell_is c.args.layer.now.types.now c.args.frames.now c.args.to.now c.get.result.now c.get.ensures (Element (expression_in c.args.layer.now.types.now c.in-Element.a.now) (expression_in c.args.layer.now.types.now c.in-Element.i.now)) (c.in-Element.ensures (noted c.args.layer.now.types.now.forms)))) c.element_place.ensures

pub returns-in-Other-clause-made : goal.returns-in-Other-clause-made
returns-in-Other-clause-made g c =
    if_same c.part-in-Other.result (tree_of c.args.layer.now.types.now c.args.frames.now c.args.to.now) (cell_of c.args.layer.now.types.now c.args.frames.now c.args.to.now)
    (tree_is c.args.layer.now.types.now c.args.frames.now c.args.to.now c.get.result.now c.get.ensures ∙ cell_is c.args.layer.now.types.now c.args.frames.now c.args.to.now c.get.result.now c.get.ensures Other (c.in-Other.ensures (noted c.args.layer.now.types.now.forms))) c.part-in-Other.ensures.made
