use Rattle.std.proofs.Common.{◌∙◌, List, [], ◌∷◌, ap}
use Rattle.typed_tree.specs.declared.expression.TypedExpression.{TypedExpression}
use Rattle.typed_tree.specs.declared.action.Action.TheVariants as action
use Rattle.kernel_nodes.specs.Made.{acts_at}
use Rattle.kernel_parts.specs.Views.{tree_of}
use Rattle.kernel_nodes.proofs.Rolling.{if_same}
use Rattle.kernel_choices.proofs.places.write_element.Goals as goal

pub returns-clause-made : goal.returns-clause-made
returns-clause-made g c =
    if_same c.acts.result (acts_at c.args.layer.now.types.now c.args.note.kind action.WriteElement c.in_ok-operands.operands) (acts_at c.args.layer.now.types.now c.args.note.kind action.WriteElement ((tree_of c.args.layer.now.types.now c.args.frames.now c.args.of.now) ∷ (tree_of c.args.layer.now.types.now c.args.frames.now c.args.i.now) ∷ (tree_of c.args.layer.now.types.now c.args.frames.now c.args.a.now) ∷ []))
    (ap (λ (l : List TypedExpression). acts_at c.args.layer.now.types.now c.args.note.kind action.WriteElement l) (c.in_ok-operands.ensures
    ∙ (ap (λ (z : TypedExpression). z ∷ c.in_ok-parts.parts.1 ∷ c.in_ok-parts.parts.2 ∷ []) c.in_ok-parts.ensures.first ∙ (ap (λ (z : TypedExpression). (tree_of c.args.layer.now.types.now c.args.frames.now c.args.of.now) ∷ z ∷ c.in_ok-parts.parts.2 ∷ []) c.in_ok-parts.ensures.second ∙ ap (λ (z : TypedExpression). (tree_of c.args.layer.now.types.now c.args.frames.now c.args.of.now) ∷ (tree_of c.args.layer.now.types.now c.args.frames.now c.args.i.now) ∷ z ∷ []) c.in_ok-parts.ensures.third)))) c.acts.ensures
