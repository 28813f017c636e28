use Rattle.typing_rules.specs.AbstractExpressions.{in_expression}
use Rattle.abstract_expression_walk.proofs.DeclarationMaking.{let_made}
use Rattle.abstract_expression_walk.proofs.tree_layers.TreeLayers.let_in.Goals as goal

pub returns : goal.returns
returns g c = let_made c.args.q.now (in_expression c.args.a.now) c.args.at _ _ _ _ (rw c.get.ensures at c.in_ok-pattern.ensures) c.in_ok-value.ensures
