use Rattle.judged_parts.specs.Parts.{See}
use Rattle.kernel_outside.proofs.Adding.{nodes_begun, nodes_end, nodes_more}
use Rattle.kernel_outside.proofs.nodes.own_nodes.Goals as goal

pub loop-one-init : goal.loop-one-init
loop-one-init c = λ (see : See). nodes_begun see c.args.fields.now

pub loop-one-preserved : goal.loop-one-preserved
loop-one-preserved c = λ (see : See).
    nodes_more see c.args.fields.now c.loop-one.one-index c.one-item.result c.loop-one.nodes c.in_ok-more.more c.loop-one-test.true c.one-item.is (c.loop-one.invariant see) (rw c.get.ensures at (c.in_ok-more.ensures see))

pub returns : goal.returns
returns c = λ (see : See). nodes_end see c.args.fields.now c.loop-one.one-index c.loop-one.nodes c.loop-one-test.false (c.loop-one.invariant see)
