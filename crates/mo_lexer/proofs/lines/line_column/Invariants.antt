use Rattle.std.proofs.Common.{length, ◌-◌, ◌≤◌, ◌<◌, get_or}
use Rattle.mo_lexer.proofs.lines.line_column.Given as goal

abbrev pub invariant-loop-line : goal.invariant-loop-line
invariant-loop-line l = (0 < l.line) × (l.line ≤ length l.starts) × (get_or l.starts (l.line - 1) 0 ≤ l.place)

abbrev pub decreases-loop-line : goal.decreases-loop-line
decreases-loop-line l = length l.starts - l.line
