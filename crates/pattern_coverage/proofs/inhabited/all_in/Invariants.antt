use Rattle.std.proofs.Common.{◌≡◌, drop}
use Rattle.pattern_coverage.specs.Inhabited.{all_have, in_table}
use Rattle.pattern_coverage.proofs.inhabited.all_in.Given as goal

abbrev pub invariant-loop-id : goal.invariant-loop-id
invariant-loop-id l = all_have (in_table l.table) (drop l.id-index l.ids) ≡ all_have (in_table l.table) l.ids
