use Rattle.std.proofs.Common.{ap}
use Rattle.typed_tree.specs.declared.expression.Function.{Function}
use Rattle.kernel_nodes.specs.Made.{alone_at}
use Rattle.kernel_nodes.proofs.Rolling.{if_same}
use Rattle.kernel_functions.specs.Functions.{unnamed_in}
use Rattle.kernel_functions.proofs.functions.function.Goals as goal

pub returns-clause-made : goal.returns-clause-made
returns-clause-made g c = if_same c.alone.result (alone_at c.args.layer.now.types.now c.args.note.kind c.in_ok-made.made) (alone_at c.args.layer.now.types.now c.args.note.kind (unnamed_in c.args.layer.now.types.now c.args.frames.now c.args.of.now c.args.body.now)) (ap (λ (z : Function). alone_at c.args.layer.now.types.now c.args.note.kind z) c.in_ok-made.ensures.made) c.alone.ensures
