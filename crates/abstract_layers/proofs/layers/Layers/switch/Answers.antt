use Rattle.std.proofs.Common.{map}
use Rattle.typing_rules.specs.AbstractExpressions.{in_case, in_expression}
use Rattle.abstract_layers.proofs.ControlMaking.{switch_made}
use Rattle.abstract_layers.proofs.layers.Layers.switch.Goals as goal

pub returns : goal.returns
returns g c = switch_made (in_expression c.args.a.now) (map in_case c.args.cases.now) c.args.last c.args.at _ _ _ _ _ c.finish.result c.count_if.ensures.count c.in_ok-of.ensures (rw c.as_slice.ensures at c.in_ok-cases.ensures) c.finish.ensures
