use Rattle.std.proofs.Common.{◌∙◌, ℕ, ap}
use Rattle.typed_tree.specs.declared.expression.TypedExpression.{TypedExpression}
use Rattle.desugaring.specs.Frames.{exit, is_label}
use Rattle.kernel_nodes.specs.Made.{leaves_at}
use Rattle.kernel_nodes.proofs.Rolling.{if_same}
use Rattle.kernel_parts.specs.Views.{tree_of}
use Rattle.kernel_forms.proofs.one.breaking_with.Goals as goal

pub returns-clause-made : goal.returns-clause-made
returns-clause-made g c = if_same c.leaves.result (leaves_at c.args.layer.now.types.now c.args.note.kind c.find_exit-exits.result c.in_ok-part.part) (leaves_at c.args.layer.now.types.now c.args.note.kind (exit c.args.frames.now (is_label c.args.name.now)) (tree_of c.args.layer.now.types.now c.args.frames.now c.args.a.now)) (ap (λ (n : ℕ). leaves_at c.args.layer.now.types.now c.args.note.kind n c.in_ok-part.part) c.find_exit-exits.ensures ∙ ap (λ (z : TypedExpression). leaves_at c.args.layer.now.types.now c.args.note.kind (exit c.args.frames.now (is_label c.args.name.now)) z) c.in_ok-part.ensures.made) c.leaves.ensures
