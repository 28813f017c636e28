use Rattle.typing_rules.specs.AbstractExpressions.{in_expression}
use Rattle.abstract_parts.proofs.ListMaking.{no_value_made, value_made}
use Rattle.abstract_parts.proofs.tree_walk.TreeWalk.value.Goals as goal

pub returns-in_ok-make_expression-in-None : goal.returns-in_ok-make_expression-in-None
returns-in_ok-make_expression-in-None g c = rw c.in-None.is (no_value_made c.args.name.now c.args.place c.args.mark _ (rw c.in_ok-name-in-None.ensures at c.in_ok-make_expression-in-None.ensures))

pub returns-in-Some : goal.returns-in-Some
returns-in-Some g c = rw c.in-Some.is (value_made c.args.name.now (in_expression c.in-Some.a) c.args.place c.args.mark c.walk.result c.walk.ensures)
