use Rattle.std.proofs.Common.{◌≡◌, drop}
use Rattle.pattern_coverage.specs.Inhabited.{in_table}
use Rattle.mo_coverage.specs.Met.{unmarked}
use Rattle.mo_coverage.proofs.tagged.is_unmarked.Given as goal

abbrev pub invariant-loop-place : goal.invariant-loop-place
invariant-loop-place l = unmarked (in_table l.table) l.place (drop l.place l.tags) l.marks ≡ unmarked (in_table l.table) 0 l.tags l.marks
