use Rattle.std.proofs.Common.{◌≡◌, ◌+◌, ◌-◌, ◌*◌, ◌^◌, ℕ, List, [], length, reverse}
use Rattle.mo_types.specs.Header.{Visits}
use Rattle.candid_types.specs.Shapes.{shape_at}
use Rattle.candid_write.specs.Order.{IsReady}
use Rattle.candid_write.proofs.places.visit.Given as goal

abbrev pub invariant-loop-number : goal.invariant-loop-number
invariant-loop-number l = record {
  shapes : l.table.shapes ≡ l.initial.table.shapes;
  ready : IsReady l.table;
  visits : (out : List ℕ) → Visits (shape_at l.initial.table.shapes) l.table.order.items (reverse l.todo.items) out → Visits (shape_at l.initial.table.shapes) [] l.roots out;
}

abbrev pub decreases-loop-number : goal.decreases-loop-number
decreases-loop-number l = (2 ^ 64 - length l.table.order.items) * 2 ^ 64 + length l.todo.items
