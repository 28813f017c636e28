use Rattle.desugaring.specs.Frames.{Frame}
use Rattle.std.proofs.Common.{[], ◌∷◌, ap}
use Rattle.mo_values.specs.declared.operation.Operation.TheVariants as op
use Rattle.typed_tree.specs.declared.expression.TypedExpression.{TypedExpression}
use Rattle.kernel_nodes.specs.Made.{operates_at, unit_in}
use Rattle.kernel_nodes.proofs.Rolling.{if_same}
use Rattle.kernel_forms.proofs.without.tag.Goals as goal

pub returns : goal.returns
returns c = λ (f : Frame). if_same c.tagged.result (operates_at c.args.types.now c.args.note.kind (op.MakeTag c.args.name.now) (c.in_ok-value.value ∷ [])) (operates_at c.args.types.now c.args.note.kind (op.MakeTag c.args.name.now) (unit_in c.args.types.now ∷ [])) (ap (λ (z : TypedExpression). operates_at c.args.types.now c.args.note.kind (op.MakeTag c.args.name.now) (z ∷ [])) c.in_ok-value.ensures) c.tagged.ensures
