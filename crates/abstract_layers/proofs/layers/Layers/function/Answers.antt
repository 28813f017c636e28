use Rattle.typing_rules.specs.AbstractExpressions.{in_expression}
use Rattle.abstract_layers.proofs.ControlMaking.{function_made}
use Rattle.abstract_layers.proofs.layers.Layers.function.Goals as goal

pub returns : goal.returns
returns g c = function_made c.args.parameters.now c.args.annotation.now c.args.equal_sign (in_expression c.args.body.now) c.args.at _ _ _ _ _ c.finish.result c.in_ok-start.ensures c.in_ok-signature.ensures c.in_ok-body.ensures c.finish.ensures
