use Rattle.std.proofs.Common.{◌≡◌, drop}
use Rattle.pattern_coverage.specs.Inhabited.{in_table}
use Rattle.mo_coverage.specs.Places.{tag_left}
use Rattle.mo_coverage.proofs.tags.tag_left.Given as goal

abbrev pub invariant-loop-tag : goal.invariant-loop-tag
invariant-loop-tag l = tag_left (in_table l.table) (drop l.tag-index l.tags) l.labels ≡ tag_left (in_table l.table) l.tags l.labels
