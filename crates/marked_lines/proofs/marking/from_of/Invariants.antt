use Rattle.std.proofs.Common.{◌≤◌, ◌-◌}
use Rattle.marked_lines.specs.Marks.{AreInner}
use Rattle.marked_lines.proofs.marking.from_of.Given as goal

abbrev pub invariant-loop-from : goal.invariant-loop-from
invariant-loop-from l = (l.place - 100 ≤ l.from) × (l.from ≤ l.place) × AreInner l.source (l.place - 100) l.from

abbrev pub decreases-loop-from : goal.decreases-loop-from
decreases-loop-from l = l.place - l.from
