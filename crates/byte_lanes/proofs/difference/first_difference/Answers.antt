use Rattle.std.proofs.Common.{arith}
use Rattle.byte_lanes.proofs.PlaceLemmas.{same_block, first_in_block}
use Rattle.byte_lanes.proofs.difference.first_difference.Goals as goal

pub returns-then-mask-ne0-clause-least : goal.returns-then-mask-ne0-clause-least
returns-then-mask-ne0-clause-least c =
    let lane = c.lowest.ensures in
    first_in_block c.args.a.now c.args.b.now c.loop-at.at c.differing-mask.result c.lowest.result c.differing-mask.ensures c.loop-at.invariant.same
    (omega arith) (omega arith) lane.bound lane.set lane.below

pub loop-at-preserved : goal.loop-at-preserved
loop-at-preserved c = record {
  within = omega arith;
  same = same_block c.args.a.now c.args.b.now c.loop-at.at c.differing-mask.result c.differing-mask.ensures c.loop-at.invariant.same c.if-mask-ne0.false;
}
