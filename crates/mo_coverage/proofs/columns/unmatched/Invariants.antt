use Rattle.std.proofs.Common.{◌≡◌, ◌++◌, length}
use Rattle.std.specs.Vec.Iter.{into_iter_items, into_iter_len}
use Rattle.mo_coverage.specs.ColumnView.{columns_in}
use Rattle.mo_coverage.specs.Columns.{none_match}
use Rattle.mo_coverage.proofs.columns.unmatched.Given as goal

abbrev pub invariant-loop-column : goal.invariant-loop-column
invariant-loop-column l = (into_iter_len l.column-iterator ≡ length (into_iter_items l.column-iterator)) × (columns_in l.made.items ++ none_match (columns_in (into_iter_items l.column-iterator)) ≡ none_match (columns_in l.fn.columns.items))
