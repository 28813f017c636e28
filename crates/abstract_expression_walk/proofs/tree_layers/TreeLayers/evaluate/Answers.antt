use Rattle.typing_rules.specs.AbstractExpressions.{in_expression}
use Rattle.abstract_expression_walk.proofs.DeclarationMaking.{evaluate_made}
use Rattle.abstract_expression_walk.proofs.tree_layers.TreeLayers.evaluate.Goals as goal

pub returns : goal.returns
returns g c = evaluate_made (in_expression c.args.a.now) c.args.at _ _ c.in_ok-of.ensures
