use Rattle.std.proofs.Common.{◌∙◌, ℕ, ap}
use Rattle.typed_tree.specs.declared.expression.TypedExpression.{TypedExpression}
use Rattle.desugaring.specs.Frames.{exit, is_returned}
use Rattle.kernel_nodes.specs.Made.{leaves_at, unit_in}
use Rattle.kernel_nodes.proofs.Rolling.{if_same}
use Rattle.kernel_forms.proofs.without.returning.Goals as goal

pub returns : goal.returns
returns c = if_same c.leaves.result (leaves_at c.args.types.now c.args.note.kind c.find_exit-exits.result c.in_ok-value.value) (leaves_at c.args.types.now c.args.note.kind (exit c.args.frames.now is_returned) (unit_in c.args.types.now)) (ap (λ (n : ℕ). leaves_at c.args.types.now c.args.note.kind n c.in_ok-value.value) c.find_exit-exits.ensures ∙ ap (λ (z : TypedExpression). leaves_at c.args.types.now c.args.note.kind (exit c.args.frames.now is_returned) z) c.in_ok-value.ensures) c.leaves.ensures
