use Rattle.std.proofs.Common.{map}
use Rattle.typing_rules.specs.AbstractExpressions.{in_expression}
use Rattle.abstract_layers.proofs.ControlMaking.{call_made}
use Rattle.abstract_layers.proofs.layers.Layers.call.Goals as goal

pub returns : goal.returns
returns g c = call_made (in_expression c.args.a.now) c.args.types.now (map in_expression c.args.arguments.now) c.args.at _ _ _ _ _ _ c.finish.result c.in_ok-function.ensures c.in_ok-types.ensures (rw c.as_slice.ensures at c.in_ok-arguments.ensures) c.finish.ensures
