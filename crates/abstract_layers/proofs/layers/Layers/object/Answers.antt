use Rattle.std.proofs.Common.{map}
use Rattle.typing_rules.specs.AbstractExpressions.{in_object_field}
use Rattle.abstract_layers.proofs.ControlMaking.{object_made}
use Rattle.abstract_layers.proofs.layers.Layers.object.Goals as goal

pub returns : goal.returns
returns g c = object_made (map in_object_field c.args.fields.now) c.args.last c.args.at _ _ _ c.finish.result c.count_if.ensures.count (rw c.as_slice.ensures at c.in_ok-fields.ensures) c.finish.ensures
