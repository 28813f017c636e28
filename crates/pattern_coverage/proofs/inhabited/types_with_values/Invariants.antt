use Rattle.std.proofs.Common.{◌≡◌, length}
use Rattle.pattern_coverage.specs.Followed.{value_head}
use Rattle.pattern_coverage.specs.Inhabited.{IsSound, in_table, left_out}
use Rattle.pattern_coverage.proofs.inhabited.types_with_values.Given as goal

abbrev pub invariant-loop-index : goal.invariant-loop-index
invariant-loop-index l = (length l.table.items ≡ length l.types) × IsSound (value_head l.types) (in_table l.table.items)

abbrev pub decreases-loop-index : goal.decreases-loop-index
decreases-loop-index l = left_out l.table.items
