use Rattle.std.proofs.Common.{◌≡◌, ◌<◌, ℕ, length, slice_index}
use Rattle.candid_types.specs.Shapes.{shape_at}
use Rattle.candid_write.specs.Signature.{signature}
use Rattle.candid_write.specs.Rounds.{lists}
use Rattle.candid_write.proofs.PlaceLemmas.{IsPlace}
use Rattle.candid_write.proofs.Counting.{Onto}
use Rattle.candid_write.proofs.classes.refine.Given as goal

abbrev pub invariant-loop-number : goal.invariant-loop-number
invariant-loop-number l = record {
  count : length l.next.items ≡ l.number;
  onto : Onto (length (lists l.seen.keys)) l.next.items l.number;
  places : (i : ℕ) → i < l.number → IsPlace (lists l.seen.keys) (signature l.classes (shape_at l.shapes i)) (slice_index l.next.items i);
}
