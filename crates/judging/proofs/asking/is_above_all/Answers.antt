use Rattle.met_types.specs.States.{IsReached}
use Rattle.judging.proofs.FirstAbove.{each_of}
use Rattle.judging.proofs.asking.is_above_all.Goals as goal

pub is_below-requires-clause-low : goal.is_below-requires-clause-low
is_below-requires-clause-low c = each_of (IsReached c.args.types.now) c.args.kinds.now c.loop-one.one-index (record { index = 0 }) c.requires.kinds c.loop-one-test.true
