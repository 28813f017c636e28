use Rattle.typing_rules.specs.AbstractExpressions.{in_expression}
use Rattle.abstract_layers.proofs.ControlMaking.{for_made}
use Rattle.abstract_layers.proofs.layers.Layers.for_loop.Goals as goal

pub returns : goal.returns
returns g c = for_made c.args.q.now (in_expression c.args.a.now) (in_expression c.args.b.now) c.args.at _ _ _ _ _ _ c.finish.result (rw c.get.ensures at c.in_ok-pattern.ensures) c.in_ok-of.ensures c.in_ok-body.ensures c.finish.ensures
