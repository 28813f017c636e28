use Rattle.std.proofs.Common.{◌∙◌, ap, refl, sym}
use Rattle.typed_tree.specs.declared.expression.TypedExpression.{TypedExpression}
use Rattle.typed_tree.specs.declared.expression.Form.TheVariants as f
use Rattle.typed_tree.specs.declared.expression.Form.TheOpen as F
use Rattle.kernel_types.specs.Numbers.{number_of}
use Rattle.kernel_nodes.proofs.Rolling.{made_as}
use Rattle.desugaring.specs.Frames.{Labelled, with_exit}
use Rattle.kernel_loops.specs.Loops.{looped_in}
use Rattle.kernel_loops.proofs.labels.labelled.Goals as goal

pub returns-clause-made : goal.returns-clause-made
returns-clause-made g c =
    let body : TypedExpression = looped_in c.args.layer.now.types.now (with_exit (Labelled c.args.label.now) c.args.frames.now) c.args.label.now c.args.a.now in
    made_as c.at.result (number_of c.args.layer.now.types.now c.args.note.kind) (number_of c.args.layer.now.types.now c.args.note.kind) (f.Label c.in_ok-body.body) (F.Label body) refl
    (f.rolls-Label body ∙ ap (λ (z : TypedExpression). f.Label z) (sym c.in_ok-body.ensures.made)) c.at.ensures
