use Rattle.std.proofs.Common.{◌∙◌, ap}
use Rattle.typed_tree.specs.declared.expression.TypedExpression.{TypedExpression}
use Rattle.kernel_choices.specs.Whens.{when_at}
use Rattle.kernel_nodes.proofs.Rolling.{if_same}
use Rattle.kernel_parts.specs.Views.{tree_of}
use Rattle.kernel_choices.proofs.choices.when.Goals as goal

pub returns-clause-made : goal.returns-clause-made
returns-clause-made g c =
    if_same c.when_value.result (when_at c.args.layer.now.types.now c.args.note.kind c.in_ok-parts.parts.0 c.in_ok-parts.parts.1) (when_at c.args.layer.now.types.now c.args.note.kind (tree_of c.args.layer.now.types.now c.args.frames.now c.args.c.now) (tree_of c.args.layer.now.types.now c.args.frames.now c.args.a.now))
    (ap (λ (z : TypedExpression). when_at c.args.layer.now.types.now c.args.note.kind z c.in_ok-parts.parts.1) c.in_ok-parts.ensures.first ∙ ap (λ (z : TypedExpression). when_at c.args.layer.now.types.now c.args.note.kind (tree_of c.args.layer.now.types.now c.args.frames.now c.args.c.now) z) c.in_ok-parts.ensures.second) c.when_value.ensures
