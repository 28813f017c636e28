use Rattle.typing_rules.specs.AbstractTypes.{written_parameter}
use Rattle.abstract_types.specs.TypeView.{parameter}
use Rattle.abstract_type_walk.proofs.Listing.{none_made, one_more, all_made}
use Rattle.abstract_type_walk.proofs.type_making.each_type_parameter.Goals as goal

pub loop-one-init : goal.loop-one-init
loop-one-init c = none_made written_parameter parameter c.args.parameters.now _ _ c.new-made.ensures

pub loop-one-preserved : goal.loop-one-preserved
loop-one-preserved c = one_more written_parameter parameter c.args.parameters.now _ c.args.parameters.now _ _ _ _ _ _ _ _ c.loop-one-test.true c.one-item.is c.in_ok-node.ensures c.in_ok-push.ensures.ok c.loop-one.invariant

pub returns : goal.returns
returns c = all_made written_parameter parameter c.args.parameters.now _ _ c.args.parameters.now _ _ _ _ c.in_ok-next.ensures c.loop-one-test.false c.loop-one.invariant
