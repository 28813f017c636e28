use Rattle.meaning_player.proofs.Lines.{next_put}
use Rattle.meaning_player.proofs.playing.put_items.Goals as goal

pub loop-item-preserved : goal.loop-item-preserved
loop-item-preserved g c =
    next_put c.args.items.now c.loop-item.item-index c.item-item.result c.in_ok-line.line (g.O.Sink.shown c.args.out.now) (g.O.Sink.shown c.loop-item.out) (g.O.Sink.shown c.put_line.new.out)
    c.loop-item-test.true c.item-item.is c.loop-item.invariant c.in_ok-line.ensures (rw c.as_slice.ensures at c.in_ok-put_line.ensures)
