use Rattle.std.proofs.Common.{◌≡◌, drop}
use Rattle.pattern_coverage.specs.Inhabited.{in_table}
use Rattle.shape_patterns.specs.Choice.{tag_left}
use Rattle.shape_patterns.proofs.choice.tag_left.Given as goal

abbrev pub invariant-loop-tag : goal.invariant-loop-tag
invariant-loop-tag l = tag_left (in_table l.table) l.tags l.labels ≡ tag_left (in_table l.table) (drop l.tag-index l.tags) l.labels
