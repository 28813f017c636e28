use Rattle.typing_rules.specs.AbstractExpressions.{in_expression}
use Rattle.abstract_layers.proofs.ControlMaking.{either_made}
use Rattle.abstract_layers.proofs.layers.Layers.either.Goals as goal

pub returns : goal.returns
returns g c = either_made (in_expression c.args.c.now) (in_expression c.args.a.now) (in_expression c.args.b.now) c.args.at _ _ _ _ _ _ c.finish.result c.in_ok-condition.ensures c.in_ok-left.ensures c.in_ok-right.ensures c.finish.ensures
