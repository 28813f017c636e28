use Rattle.std.proofs.Common.{◌≤◌, ◌+◌}
use Rattle.marked_lines.specs.Marks.{AreInner}
use Rattle.marked_lines.proofs.marking.to_of.Given as goal

abbrev pub invariant-loop-to : goal.invariant-loop-to
invariant-loop-to l = (l.place ≤ l.to) × (l.to ≤ l.place + 100) × AreInner l.source (l.to + 1) (l.place + 101)

abbrev pub decreases-loop-to : goal.decreases-loop-to
decreases-loop-to l = l.to
