use Rattle.std.proofs.Common.{◌∙◌, ap, refl, sym}
use Rattle.typed_tree.specs.declared.expression.TypedExpression.{TypedExpression}
use Rattle.typed_tree.specs.declared.expression.Form.TheVariants as f
use Rattle.typed_tree.specs.declared.expression.Form.TheOpen as F
use Rattle.kernel_types.specs.Numbers.{number_of}
use Rattle.kernel_nodes.proofs.Rolling.{made_as}
use Rattle.kernel_scopes.specs.Bound.{continued_of}
use Rattle.kernel_loops.proofs.labels.loop_under.Goals as goal

pub returns-clause-made : goal.returns-clause-made
returns-clause-made g c =
    made_as c.at.result (number_of c.args.layer.now.types.now c.args.note.kind) (number_of c.args.layer.now.types.now c.args.note.kind) (f.Loop c.in_ok-body.body) (F.Loop (continued_of c.args.layer.now.types.now c.args.frames.now c.args.label.now c.args.a.now)) refl
    (f.rolls-Loop (continued_of c.args.layer.now.types.now c.args.frames.now c.args.label.now c.args.a.now) ∙ ap (λ (z : TypedExpression). f.Loop z) (sym c.in_ok-body.ensures.made)) c.at.ensures
