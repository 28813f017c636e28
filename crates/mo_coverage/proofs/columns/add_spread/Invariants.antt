use Rattle.std.proofs.Common.{◌≡◌, ◌++◌, length}
use Rattle.std.specs.Option.{option_to_list}
use Rattle.std.specs.Vec.Iter.{into_iter_items, into_iter_len}
use Rattle.mo_coverage.specs.ColumnView.{columns_in}
use Rattle.mo_coverage.specs.Columns.{spread}
use Rattle.mo_coverage.specs.Pieces.{pieces_in}
use Rattle.mo_coverage.specs.Shapes.{all_known}
use Rattle.mo_coverage.proofs.columns.add_spread.Given as goal

abbrev pub invariant-loop-piece : goal.invariant-loop-piece
invariant-loop-piece l =
    (into_iter_len l.piece-iterator ≡ length (into_iter_items l.piece-iterator))
    × (columns_in l.columns.items ++ spread l.place (all_known l.parts.items) (pieces_in (into_iter_items l.piece-iterator ++ option_to_list l.last)) ≡ columns_in l.fn.columns.items ++ spread l.place (all_known l.parts.items) (pieces_in l.fn.pieces.items))
