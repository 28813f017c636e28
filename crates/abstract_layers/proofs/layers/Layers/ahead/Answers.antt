use Rattle.typing_rules.specs.AbstractExpressions.{in_expression}
use Rattle.abstract_parts.specs.Shapes.{one_form}
use Rattle.abstract_layers.proofs.ShapeMaking.{ahead_made}
use Rattle.abstract_layers.proofs.layers.Layers.ahead.Goals as goal

pub returns : goal.returns
returns g c = ahead_made (in_expression c.args.a.now) (one_form c.args.form) _ c.args.at c.args.tokens _ _ c.finish.result c.in_ok-of.ensures c.in_ok-form.ensures c.finish.ensures
