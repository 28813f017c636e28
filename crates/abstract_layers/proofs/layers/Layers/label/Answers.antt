use Rattle.std.proofs.Common.{◌∙◌}
use Rattle.typing_rules.specs.AbstractExpressions.{in_expression}
use Rattle.abstract_layers.proofs.ControlMaking.{label_made}
use Rattle.abstract_layers.proofs.layers.Layers.label.Goals as goal

pub returns : goal.returns
returns g c = label_made c.args.name.now c.args.kind.now (in_expression c.args.a.now) _ c.args.at _ _ _ _ c.finish.result (c.in_ok-name.ensures ∙ c.as_slice.ensures) c.in_ok-annotation.ensures c.in_ok-body.ensures c.finish.ensures
