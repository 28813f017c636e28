use Rattle.std.proofs.Common.{◌≡◌, ◌++◌, length}
use Rattle.std.specs.Vec.Iter.{into_iter_items, into_iter_len}
use Rattle.typed_tree.specs.PatternView.{pattern}
use Rattle.pattern_coverage.specs.Cutting.{cut}
use Rattle.pattern_coverage.specs.Followed.{value_head}
use Rattle.pattern_coverage.specs.Inhabited.{in_table}
use Rattle.mo_coverage.specs.Covering.{missed_by}
use Rattle.mo_coverage.specs.Shapes.{all_known}
use Rattle.mo_coverage.proofs.missing.miss.Given as goal

abbrev pub invariant-loop-shape : goal.invariant-loop-shape
invariant-loop-shape l =
    (into_iter_len l.shape-iterator ≡ length (into_iter_items l.shape-iterator))
    × (all_known l.made.items ++ missed_by (cut (value_head l.types) (in_table l.table) (pattern l.typed) l.id) (all_known (into_iter_items l.shape-iterator)) ≡ missed_by (cut (value_head l.types) (in_table l.table) (pattern l.typed) l.id) (all_known l.fn.shapes.items))
