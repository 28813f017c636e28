use Rattle.std.proofs.Common.{arith}
use Rattle.std.proofs.lemmas.List.{nil_from_length}
use Rattle.candid_write.proofs.VisitLemmas.{done}
use Rattle.candid_write.proofs.places.visit.Goals as goal

pub returns : goal.returns
returns c = record {
  shapes = c.loop-number.invariant.shapes;
  ready = c.loop-number.invariant.ready;
  visits = done c.args.shapes c.args.roots.now c.loop-number.table.order.items c.loop-number.todo.items (nil_from_length c.loop-number.todo.items (omega (arith, c.loop-number.todo.ok.0, c.in_default.ensures.cases.0))) c.loop-number.invariant.visits;
}
