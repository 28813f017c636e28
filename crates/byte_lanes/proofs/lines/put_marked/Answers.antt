use Rattle.std.proofs.Common.{take, refl, arith}
use Rattle.std.proofs.lemmas.List.{length-take-le}
use Rattle.std.proofs.lemmas.Nat.{ones-le}
use Rattle.byte_lanes.proofs.StoreLemmas.{one_store, one_cleared, bits_of_stores}
use Rattle.byte_lanes.proofs.lines.put_marked.Goals as goal

pub loop-lane-preserved : goal.loop-lane-preserved
loop-lane-preserved c =
    let i = c.loop-lane.invariant in
    let few = ones-le 64 c.args.mask c.ranges.mask.fits in
    record {
      left = one_cleared c.loop-lane.lane c.args.mask c.loop-lane.left i.left;
      stored =
          one_store (take c.args.count c.args.found.now) c.loop-lane.found c.args.count c.loop-lane.lane c.args.base c.args.mask c.loop-lane.left i.left (omega (arith, few)) i.stored;
    }

pub returns-clause-places : goal.returns-clause-places
returns-clause-places c =
    bits_of_stores (take c.args.count c.args.found.now) c.loop-lane.found c.args.count _ c.loop-lane.lane c.args.base c.args.mask
    (length-take-le c.args.count c.args.found.now (omega arith)) c.ranges.mask.fits refl (omega arith) c.loop-lane.invariant.stored
