use Rattle.std.proofs.Common.{◌≡◌, ◌++◌, length}
use Rattle.std.specs.Vec.Iter.{into_iter_items, into_iter_len}
use Rattle.pattern_coverage.specs.Cutting.{around}
use Rattle.pattern_coverage.specs.Known.{Holds}
use Rattle.mo_coverage.specs.Pieces.{pieces_in}
use Rattle.mo_coverage.proofs.pieces.add_held.Given as goal

abbrev pub invariant-loop-piece : goal.invariant-loop-piece
invariant-loop-piece l =
    (into_iter_len l.piece-iterator ≡ length (into_iter_items l.piece-iterator))
    × (pieces_in l.pieces.items ++ around Holds (pieces_in (into_iter_items l.piece-iterator)) ≡ pieces_in l.fn.pieces.items ++ around Holds (pieces_in l.fn.inside.items))
