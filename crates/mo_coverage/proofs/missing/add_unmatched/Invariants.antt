use Rattle.std.proofs.Common.{◌≡◌, ◌++◌, length}
use Rattle.std.specs.Vec.Iter.{into_iter_items, into_iter_len}
use Rattle.mo_coverage.specs.Covering.{unmatched}
use Rattle.mo_coverage.specs.Pieces.{pieces_in}
use Rattle.mo_coverage.specs.Shapes.{all_known}
use Rattle.mo_coverage.proofs.missing.add_unmatched.Given as goal

abbrev pub invariant-loop-piece : goal.invariant-loop-piece
invariant-loop-piece l =
    (into_iter_len l.piece-iterator ≡ length (into_iter_items l.piece-iterator))
    × (all_known l.shapes.items ++ unmatched (pieces_in (into_iter_items l.piece-iterator)) ≡ all_known l.fn.shapes.items ++ unmatched (pieces_in l.fn.pieces.items))
