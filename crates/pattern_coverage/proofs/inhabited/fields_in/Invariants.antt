use Rattle.std.proofs.Common.{◌≡◌, drop}
use Rattle.mo_types.specs.Values.{types_of}
use Rattle.pattern_coverage.specs.Inhabited.{all_have, in_table}
use Rattle.pattern_coverage.proofs.inhabited.fields_in.Given as goal

abbrev pub invariant-loop-field : goal.invariant-loop-field
invariant-loop-field l = all_have (in_table l.table) (types_of (drop l.field-index l.fields)) ≡ all_have (in_table l.table) (types_of l.fields)
