use Rattle.std.proofs.Common.{map}
use Rattle.typing_rules.specs.AbstractExpressions.{in_declaration}
use Rattle.abstract_layers.proofs.ControlMaking.{block_made}
use Rattle.abstract_layers.proofs.layers.Layers.block.Goals as goal

pub returns : goal.returns
returns g c = block_made (map in_declaration c.args.declarations.now) c.args.last c.args.at _ _ _ c.finish.result c.count_if.ensures.count (rw c.as_slice.ensures at c.in_ok-declarations.ensures) c.finish.ensures
