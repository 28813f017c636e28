use Rattle.std.proofs.Common.{◌≡◌, ◌≤◌, drop, map, length}
use Rattle.typed_tree.specs.PatternView.{pattern}
use Rattle.pattern_elab.specs.Making.{begun, all_made, started}
use Rattle.pattern_elab.proofs.switch.cases.Given as goal

abbrev pub invariant-loop-number : goal.invariant-loop-number
invariant-loop-number l = (l.number ≤ length l.patterns) × (begun l.start l.state ≡ all_made (map pattern (drop l.number l.patterns)) l.number started)

abbrev pub decreases-loop-number : goal.decreases-loop-number
decreases-loop-number l = l.number
