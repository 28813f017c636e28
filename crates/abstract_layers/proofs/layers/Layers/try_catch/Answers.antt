use Rattle.typing_rules.specs.AbstractExpressions.{in_expression}
use Rattle.abstract_layers.proofs.ControlMaking.{try_made}
use Rattle.abstract_layers.proofs.layers.Layers.try_catch.Goals as goal

pub returns : goal.returns
returns g c = try_made (in_expression c.args.a.now) c.args.q.now (in_expression c.args.b.now) c.args.at _ _ _ _ _ _ c.finish.result c.in_ok-body.ensures (rw c.get.ensures at c.in_ok-pattern.ensures) c.in_ok-handler.ensures c.finish.ensures
