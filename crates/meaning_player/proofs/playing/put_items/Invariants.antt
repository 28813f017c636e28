use Rattle.std.proofs.Common.{take}
use Rattle.meaning_player.specs.Played.{ArePut}
use Rattle.meaning_player.proofs.playing.put_items.Given as goal

abbrev pub invariant-loop-item : goal.invariant-loop-item
invariant-loop-item g l = ArePut (take l.item-index l.items) (g.O.Sink.shown l.fn.out) (g.O.Sink.shown l.out)
