use Rattle.typing_rules.specs.AbstractExpressions.{in_expression}
use Rattle.abstract_expression_walk.proofs.DeclarationMaking.{var_made}
use Rattle.abstract_expression_walk.proofs.tree_layers.TreeLayers.var.Goals as goal

pub returns : goal.returns
returns g c = var_made c.args.name.now c.args.kind.now (in_expression c.args.a.now) c.args.at _ _ _ _ _ c.in_ok-name.ensures c.in_ok-annotation.ensures c.in_ok-value.ensures
