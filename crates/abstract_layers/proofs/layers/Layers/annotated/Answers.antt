use Rattle.typing_rules.specs.AbstractExpressions.{in_expression}
use Rattle.abstract_layers.proofs.ControlMaking.{annotated_made}
use Rattle.abstract_layers.proofs.layers.Layers.annotated.Goals as goal

pub returns : goal.returns
returns g c = annotated_made (in_expression c.args.a.now) c.args.kind.now c.args.at _ _ _ _ c.finish.result c.in_ok-of.ensures (rw c.get.ensures at c.in_ok-annotation.ensures) c.finish.ensures
