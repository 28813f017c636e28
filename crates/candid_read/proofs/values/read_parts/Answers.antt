use Rattle.candid_types.specs.Inside.{below}
use Rattle.candid_read.specs.Values.{known_part}
use Rattle.candid_read.proofs.Reach.{turns}
use Rattle.candid_read.proofs.values.read_parts.Goals as goal

pub loop-parts-preserved : goal.loop-parts-preserved
loop-parts-preserved c =
    let taken = rw c.in-Some.is at c.in_ok-next.ensures in
    turns (known_part c.args.types.now c.args.known.now) (below c.args.known.now.shapes) _ _ _ _ _ _ _ _ _ _ _ c.loop-parts.invariant taken c.in_ok-part-in-Some.ensures c.in_ok-put-in-Some.ensures.ok c.in_ok-push-in-Some.ensures.items
