use Rattle.pattern_coverage.specs.Followed.{value_head}
use Rattle.pattern_coverage.specs.Inhabited.{AreDone}
use Rattle.pattern_coverage.proofs.inhabited.next_type.Given as goal

abbrev pub invariant-loop-index : goal.invariant-loop-index
invariant-loop-index l = AreDone (value_head l.types) l.table l.index
