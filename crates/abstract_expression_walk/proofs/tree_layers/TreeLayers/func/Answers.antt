use Rattle.typing_rules.specs.AbstractExpressions.{in_expression}
use Rattle.abstract_expression_walk.proofs.DeclarationMaking.{func_made}
use Rattle.abstract_expression_walk.proofs.tree_layers.TreeLayers.func.Goals as goal

pub returns : goal.returns
returns g c = func_made c.args.name.now c.args.generics.now c.args.parameters.now c.args.annotation.now c.args.equal_sign (in_expression c.args.body.now) c.args.at _ _ _ _ _ _ c.in_ok-name.ensures c.in_ok-number_behind.ensures c.in_ok-signature.ensures c.in_ok-body.ensures
