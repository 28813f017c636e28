use Rattle.std.proofs.Common.{map}
use Rattle.typing_rules.specs.AbstractExpressions.{in_expression}
use Rattle.abstract_layers.proofs.ControlMaking.{array_made}
use Rattle.abstract_layers.proofs.layers.Layers.array.Goals as goal

pub returns : goal.returns
returns g c = array_made c.args.mutable (map in_expression c.args.items.now) c.args.at _ _ _ c.finish.result c.count_if.ensures.count (rw c.as_slice.ensures at c.in_ok-items.ensures) c.finish.ensures
