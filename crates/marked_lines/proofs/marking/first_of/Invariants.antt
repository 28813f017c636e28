use Rattle.std.proofs.Common.{◌≤◌}
use Rattle.marked_lines.specs.Marks.{IsUnbroken}
use Rattle.marked_lines.proofs.marking.first_of.Given as goal

abbrev pub invariant-loop-first : goal.invariant-loop-first
invariant-loop-first l = (l.first ≤ l.place) × IsUnbroken l.source l.first l.place

abbrev pub decreases-loop-first : goal.decreases-loop-first
decreases-loop-first l = l.first
