use Rattle.std.proofs.Common.{◌≡◌, ◌++◌, length}
use Rattle.std.specs.Vec.Iter.{into_iter_items, into_iter_len}
use Rattle.mo_coverage.proofs.pieces.add_all.Given as goal

abbrev pub invariant-loop-piece : goal.invariant-loop-piece
invariant-loop-piece l =
    (into_iter_len l.piece-iterator ≡ length (into_iter_items l.piece-iterator))
    × (l.pieces.items ++ into_iter_items l.piece-iterator ≡ l.fn.pieces.items ++ l.fn.more.items)
