use Rattle.std.proofs.Common.{◌≡◌, ◌-◌, ◌≤◌, length}
use Rattle.mo_types.specs.Values.{copies}
use Rattle.pattern_coverage.specs.Known.{Unknown}
use Rattle.mo_coverage.specs.Shapes.{all_known}
use Rattle.mo_coverage.proofs.columns.unknowns.Given as goal

abbrev pub invariant-loop-made : goal.invariant-loop-made
invariant-loop-made l = (length l.made.items ≤ l.count) × (all_known l.made.items ≡ copies (length l.made.items) Unknown)

abbrev pub decreases-loop-made : goal.decreases-loop-made
decreases-loop-made l = l.count - length l.made.items
