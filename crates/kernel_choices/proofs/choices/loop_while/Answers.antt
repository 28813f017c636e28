use Rattle.std.proofs.Common.{◌∙◌, ap, refl, sym}
use Rattle.typed_tree.specs.declared.expression.TypedExpression.{TypedExpression}
use Rattle.typed_tree.specs.declared.expression.Form.TheVariants as f
use Rattle.typed_tree.specs.declared.expression.Form.TheOpen as F
use Rattle.kernel_types.specs.Numbers.{number_of}
use Rattle.kernel_nodes.proofs.Rolling.{made_as}
use Rattle.kernel_parts.specs.Views.{tree_of}
use Rattle.kernel_choices.proofs.choices.loop_while.Goals as goal

pub returns-clause-made : goal.returns-clause-made
returns-clause-made g c =
    made_as c.at.result (number_of c.args.layer.now.types.now c.args.note.kind) (number_of c.args.layer.now.types.now c.args.note.kind) (f.Repeat c.in_ok-parts.parts.0 c.in_ok-parts.parts.1) (F.Repeat (tree_of c.args.layer.now.types.now c.args.frames.now c.args.a.now) (tree_of c.args.layer.now.types.now c.args.frames.now c.args.c.now)) refl
    (f.rolls-Repeat (tree_of c.args.layer.now.types.now c.args.frames.now c.args.a.now) (tree_of c.args.layer.now.types.now c.args.frames.now c.args.c.now) ∙ (ap (λ (z : TypedExpression). f.Repeat z (tree_of c.args.layer.now.types.now c.args.frames.now c.args.c.now)) (sym c.in_ok-parts.ensures.first) ∙ ap (λ (z : TypedExpression). f.Repeat c.in_ok-parts.parts.0 z) (sym c.in_ok-parts.ensures.second))) c.at.ensures
