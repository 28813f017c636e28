use Rattle.std.proofs.Common.{◌≤◌, ◌-◌, length}
use Rattle.marked_lines.specs.Marks.{IsUnbroken}
use Rattle.marked_lines.proofs.marking.last_of.Given as goal

abbrev pub invariant-loop-last : goal.invariant-loop-last
invariant-loop-last l = (l.place ≤ l.last) × (l.last ≤ length l.source) × IsUnbroken l.source l.place l.last

abbrev pub decreases-loop-last : goal.decreases-loop-last
decreases-loop-last l = length l.source - l.last
