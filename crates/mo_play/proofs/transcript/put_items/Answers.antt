use Rattle.std.proofs.Common.{arith}
use Rattle.mo_play.proofs.Runs.{put_at, begun_at}
use Rattle.mo_play.proofs.transcript.put_items.Goals as goal

pub returns-in-Err-clause-put : goal.returns-in-Err-clause-put
returns-in-Err-clause-put g c =
    begun_at c.args.items.now c.loop-item.item-index c.item-item.result (g.O.Sink.shown c.args.out.now) (g.O.Sink.shown c.loop-item.out) (g.O.Sink.shown c.put_item.new.out) c.loop-item-test.true c.item-item.is
    c.loop-item.invariant.put c.in-Err.ensures.put

pub loop-item-preserved : goal.loop-item-preserved
loop-item-preserved g c = record {
  put =
      put_at c.args.items.now c.loop-item.item-index c.item-item.result (g.O.Sink.shown c.args.out.now) (g.O.Sink.shown c.loop-item.out) (g.O.Sink.shown c.put_item.new.out) c.loop-item-test.true c.item-item.is
      c.loop-item.invariant.put c.in-Ok.ensures.put;
  count = omega (arith, c.loop-item.invariant.count, c.put_item.ensures.cause.later);
}
