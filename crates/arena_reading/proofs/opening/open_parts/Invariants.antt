use Rattle.std.proofs.Common.{◌≤◌, drop, length, reverse}
use Rattle.mo_types.specs.Graph.{head_at}
use Rattle.arena_reading.specs.Opening.{built, AreOpened}
use Rattle.arena_reading.proofs.opening.open_parts.Given as goal

abbrev pub invariant-loop-left : goal.invariant-loop-left
invariant-loop-left l = record {
  few : l.left ≤ length l.parts;
  opened : AreOpened l.initial.arena (built (head_at l.types) (drop l.left l.of) (drop l.left l.parts)) l.arena (reverse l.values.items);
}

abbrev pub decreases-loop-left : goal.decreases-loop-left
decreases-loop-left l = l.left
