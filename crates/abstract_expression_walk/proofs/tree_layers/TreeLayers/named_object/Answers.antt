use Rattle.std.proofs.Common.{map}
use Rattle.typing_rules.specs.AbstractExpressions.{in_member}
use Rattle.abstract_expression_walk.proofs.DeclarationMaking.{named_object_made}
use Rattle.abstract_expression_walk.proofs.tree_layers.TreeLayers.named_object.Goals as goal

pub returns : goal.returns
returns g c = named_object_made c.args.name.now (map in_member c.args.fields.now) c.args.last c.args.at _ _ _ _ _ c.in_ok-name.ensures (rw c.as_slice.ensures at c.in_ok-fields.ensures) c.count_if.ensures.count c.in_ok-behind.ensures
