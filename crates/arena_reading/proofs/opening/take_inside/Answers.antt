use Rattle.std.proofs.Common.{reverse}
use Rattle.arena_reading.proofs.opening.take_inside.Goals as goal

pub loop-preserved : goal.loop-preserved
loop-preserved c =
    let both = c.in_ok-take_one.ensures c.loop.counter (reverse c.args.values.now.items) c.loop.invariant.inside c.loop.invariant.left in
    record { inside = both.0; left = both.1 }
