use Rattle.std.proofs.Common.{◌≡◌, ◌++◌, length}
use Rattle.std.specs.Vec.Iter.{into_iter_items, into_iter_len}
use Rattle.mo_coverage.specs.ColumnView.{columns_in}
use Rattle.mo_coverage.specs.Pieces.{pieces_in}
use Rattle.mo_coverage.specs.Columns.{wholes}
use Rattle.pattern_coverage.specs.Known.{Parts}
use Rattle.mo_coverage.proofs.columns.tuples.Given as goal

abbrev pub invariant-loop-column : goal.invariant-loop-column
invariant-loop-column l = (into_iter_len l.column-iterator ≡ length (into_iter_items l.column-iterator)) × (pieces_in l.made.items ++ wholes Parts (columns_in (into_iter_items l.column-iterator)) ≡ wholes Parts (columns_in l.fn.columns.items))
