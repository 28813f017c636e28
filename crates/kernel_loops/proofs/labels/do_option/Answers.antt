use Rattle.std.proofs.Common.{◌∙◌, [], ◌∷◌, ap, refl, sym}
use Rattle.typed_tree.specs.declared.expression.TypedExpression.{TypedExpression}
use Rattle.typed_tree.specs.declared.expression.Form.TheVariants as f
use Rattle.typed_tree.specs.declared.expression.Form.TheOpen as F
use Rattle.kernel_types.specs.Numbers.{number_of}
use Rattle.kernel_nodes.proofs.Rolling.{made_as}
use Rattle.kernel_parts.specs.Views.{tree_of}
use Rattle.mo_values.specs.declared.operation.Operation.TheVariants as op
use Rattle.desugaring.specs.Frames.{Optional, with_exit}
use Rattle.kernel_nodes.specs.Made.{operates_at}
use Rattle.kernel_loops.proofs.labels.do_option.Goals as goal

pub returns-clause-made : goal.returns-clause-made
returns-clause-made g c =
    let body : TypedExpression = tree_of c.args.layer.now.types.now (with_exit Optional c.args.frames.now) c.args.a.now in
    let option : TypedExpression = operates_at c.args.layer.now.types.now c.args.note.kind op.MakeOption (body ∷ []) in
    made_as c.at.result (number_of c.args.layer.now.types.now c.args.note.kind) (number_of c.args.layer.now.types.now c.args.note.kind) (f.Label c.in_ok-option.option) (F.Label option) refl
    (f.rolls-Label option ∙ ap (λ (z : TypedExpression). f.Label z) (sym (c.in_ok-option.ensures ∙ ap (λ (z : TypedExpression). operates_at c.args.layer.now.types.now c.args.note.kind op.MakeOption (z ∷ [])) c.in_ok-body.ensures.made))) c.at.ensures
