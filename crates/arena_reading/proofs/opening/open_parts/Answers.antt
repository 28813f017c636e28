use Rattle.std.proofs.Common.{◌-◌, reverse, arith}
use Rattle.arena_reading.proofs.Readings.{opened_over}
use Rattle.arena_reading.proofs.opening.open_parts.Goals as goal

pub loop-left-preserved : goal.loop-left-preserved
loop-left-preserved c = record {
  few = omega (arith, c.loop-left.invariant.few);
  opened = opened_over c.args.types.now c.args.of.now c.args.parts.now c.loop-left.left (c.loop-left.left - 1) (omega (arith, c.loop-left-test.true)) (omega (arith, c.loop-left.invariant.few, c.loop-left-test.true)) c.args.arena.now
      c.loop-left.arena (reverse c.loop-left.values.items) c.if-left-of.false c.loop-left.invariant.opened;
}
