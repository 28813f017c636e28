use Rattle.std.proofs.Common.{◌≡◌, drop}
use Rattle.mo_types.specs.Values.{types_of}
use Rattle.pattern_coverage.specs.Inhabited.{some_has, in_table}
use Rattle.pattern_coverage.proofs.inhabited.some_in.Given as goal

abbrev pub invariant-loop-tag : goal.invariant-loop-tag
invariant-loop-tag l = some_has (in_table l.table) (types_of (drop l.tag-index l.tags)) ≡ some_has (in_table l.table) (types_of l.tags)
