use Rattle.std.proofs.Common.{ap}
use Rattle.typed_tree.specs.declared.expression.TypedExpression.{TypedExpression}
use Rattle.kernel_operators.specs.Operations.{negated_in}
use Rattle.kernel_parts.specs.Views.{tree_of}
use Rattle.kernel_nodes.proofs.Rolling.{if_same}
use Rattle.kernel_choices.proofs.places.negated.Goals as goal

pub returns-clause-made : goal.returns-clause-made
returns-clause-made g c = if_same c.negative.result (negated_in c.args.layer.now.types.now c.args.note.kind c.in_ok-part.part) (negated_in c.args.layer.now.types.now c.args.note.kind (tree_of c.args.layer.now.types.now c.args.frames.now c.args.a.now)) (ap (λ (z : TypedExpression). negated_in c.args.layer.now.types.now c.args.note.kind z) c.in_ok-part.ensures.made) c.negative.ensures
