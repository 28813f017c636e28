use Rattle.std.proofs.Common.{◌≤◌, take}
use Rattle.mo_play.proofs.Runs.{HasPut}
use Rattle.mo_play.proofs.transcript.put_items.Given as goal

abbrev pub invariant-loop-item : goal.invariant-loop-item
invariant-loop-item g l = record {
  put : HasPut (take l.item-index l.items) (g.O.Sink.shown l.fn.out) (g.O.Sink.shown l.out);
  count : g.O.Sink.faults l.fn.out ≤ g.O.Sink.faults l.out;
}
