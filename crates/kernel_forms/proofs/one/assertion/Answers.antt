use Rattle.std.proofs.Common.{[], ◌∷◌, ap}
use Rattle.typed_tree.specs.declared.expression.TypedExpression.{TypedExpression}
use Rattle.kernel_nodes.proofs.Rolling.{if_same}
use Rattle.kernel_parts.specs.Views.{tree_of}
use Rattle.mo_values.specs.declared.operation.Operation.TheVariants as op
use Rattle.kernel_nodes.specs.Made.{operates_at}
use Rattle.kernel_forms.proofs.one.assertion.Goals as goal

pub returns-clause-made : goal.returns-clause-made
returns-clause-made g c = if_same c.operate_on.result (operates_at c.args.layer.now.types.now c.args.note.kind op.Assert (c.in_ok-part.part ∷ [])) (operates_at c.args.layer.now.types.now c.args.note.kind op.Assert ((tree_of c.args.layer.now.types.now c.args.frames.now c.args.a.now) ∷ [])) (ap (λ (z : TypedExpression). operates_at c.args.layer.now.types.now c.args.note.kind op.Assert (z ∷ [])) c.in_ok-part.ensures.made) c.operate_on.ensures
