use Rattle.typing_rules.specs.AbstractExpressions.{in_expression}
use Rattle.abstract_parts.specs.Shapes.{two_form}
use Rattle.abstract_layers.proofs.ShapeMaking.{between_made}
use Rattle.abstract_layers.proofs.layers.Layers.two.Goals as goal

pub returns : goal.returns
returns g c = between_made (in_expression c.args.a.now) (in_expression c.args.b.now) (two_form c.args.form) _ c.args.at c.args.before c.args.between c.args.behind _ _ _ _ c.finish.result c.in_ok-left.ensures c.in_ok-right.ensures c.two_form.ensures c.finish.ensures
