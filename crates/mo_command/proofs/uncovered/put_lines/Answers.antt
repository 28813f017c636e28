use Rattle.std.proofs.Common.{arith, refl}
use Rattle.mo_command.specs.Uncovered.{joined}
use Rattle.mo_command.proofs.Puts.{put_next, put_stopped}
use Rattle.mo_command.proofs.uncovered.put_lines.Goals as goal

pub returns-in-Err-clause-put : goal.returns-in-Err-clause-put
returns-in-Err-clause-put g c = (
  joined c.args.lines.now,
  refl,
  put_stopped c.args.lines.now c.loop-line.line-index c.line-item.result (g.O.Sink.shown c.args.out.now) (g.O.Sink.shown c.loop-line.out) (g.O.Sink.shown c.put_line.new.out) c.loop-line-test.true c.line-item.is
      c.loop-line.invariant.put c.in-Err.ensures.put,
)

pub loop-line-preserved : goal.loop-line-preserved
loop-line-preserved g c = record {
  put =
      put_next c.args.lines.now c.loop-line.line-index c.line-item.result (g.O.Sink.shown c.args.out.now) (g.O.Sink.shown c.loop-line.out) (g.O.Sink.shown c.put_line.new.out) c.loop-line-test.true c.line-item.is
      c.loop-line.invariant.put c.in-Ok.ensures.put;
  count = omega (arith, c.loop-line.invariant.count, c.put_line.ensures.cause.later);
}
