use Rattle.typing_rules.specs.AbstractExpressions.{in_declaration}
use Rattle.abstract_parts.proofs.ListMaking.{declared_made}
use Rattle.abstract_parts.proofs.tree_walk.TreeWalk.in_block.Goals as goal

pub returns : goal.returns
returns g c = declared_made (in_declaration c.args.d.now) _ _ _ _ _ c.in_ok-place.ensures c.in_ok-form.ensures c.in_ok-make_declaration.ensures
