use Rattle.std.proofs.Common.{ap}
use Rattle.typed_tree.specs.declared.expression.TypedExpression.{TypedExpression}
use Rattle.kernel_nodes.proofs.Rolling.{if_same}
use Rattle.kernel_parts.specs.Views.{tree_of}
use Rattle.kernel_nodes.specs.Made.{ignored_at}
use Rattle.kernel_forms.proofs.one.ignoring.Goals as goal

pub returns-clause-made : goal.returns-clause-made
returns-clause-made g c = if_same c.ignored.result (ignored_at c.args.layer.now.types.now c.args.note.kind c.in_ok-part.part) (ignored_at c.args.layer.now.types.now c.args.note.kind (tree_of c.args.layer.now.types.now c.args.frames.now c.args.a.now)) (ap (λ (z : TypedExpression). ignored_at c.args.layer.now.types.now c.args.note.kind z) c.in_ok-part.ensures.made) c.ignored.ensures
