use Rattle.typing_rules.specs.AbstractExpressions.{in_object_field}
use Rattle.abstract_tree.specs.TreeView.{plain_field}
use Rattle.abstract_type_walk.proofs.Listing.{none_made, one_more, all_made}
use Rattle.abstract_parts.proofs.tree_walk.TreeWalk.fields.Goals as goal

pub loop-one-init : goal.loop-one-init
loop-one-init g c = none_made in_object_field plain_field c.args.fields.now _ _ c.new-made.ensures

pub loop-one-preserved : goal.loop-one-preserved
loop-one-preserved g c = one_more in_object_field plain_field c.args.fields.now _ c.args.fields.now _ _ _ _ _ _ _ _ c.loop-one-test.true c.one-item.is (rw c.get.ensures at c.in_ok-field.ensures) c.in_ok-push.ensures.ok c.loop-one.invariant

pub returns : goal.returns
returns g c = all_made in_object_field plain_field c.args.fields.now _ _ c.args.fields.now _ _ _ _ c.in_ok-next.ensures c.loop-one-test.false c.loop-one.invariant
