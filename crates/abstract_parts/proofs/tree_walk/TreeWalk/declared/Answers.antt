use Rattle.typing_rules.specs.AbstractExpressions.{in_declaration}
use Rattle.abstract_tree.specs.TreeView.{plain_declaration}
use Rattle.abstract_parts.specs.TreeWalks.{in_block}
use Rattle.abstract_parts.proofs.ListMaking.{block_made}
use Rattle.abstract_type_walk.proofs.Listing.{none_made, one_more, all_made}
use Rattle.abstract_parts.proofs.tree_walk.TreeWalk.declared.Goals as goal

pub loop-one-init : goal.loop-one-init
loop-one-init g c = none_made (λ d. in_block (in_declaration d)) plain_declaration c.args.declarations.now _ _ c.new-made.ensures

pub loop-one-preserved : goal.loop-one-preserved
loop-one-preserved g c = one_more (λ d. in_block (in_declaration d)) plain_declaration c.args.declarations.now _ c.args.declarations.now _ _ _ _ _ _ _ _ c.loop-one-test.true c.one-item.is c.in_ok-declaration.ensures c.in_ok-push.ensures.ok c.loop-one.invariant

pub returns : goal.returns
returns g c = block_made c.args.declarations.now _ _ _ (all_made (λ d. in_block (in_declaration d)) plain_declaration c.args.declarations.now _ _ c.args.declarations.now _ _ _ _ c.in_ok-next.ensures c.loop-one-test.false c.loop-one.invariant)
