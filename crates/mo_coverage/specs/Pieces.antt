-- Pieces of code as pieces.
use Rattle.std.specs.Prelude.{List, map, Option}
use Rattle.pattern_coverage.specs.Cutting as cutting
use Rattle.pattern_coverage.specs.Cutting.{piece}
use Rattle.mo_coverage.specs.declared.shape.Shape.{Shape}
use Rattle.mo_coverage.specs.declared.pieces.Piece.{Piece}
use Rattle.mo_coverage.specs.Openings.{left}
use Rattle.mo_coverage.specs.Shapes.{known, one_known}

abbrev pub piece_in : Piece → cutting.Piece
piece_in p = piece p.matched (known p.known)

abbrev pub pieces_in : List Piece → List cutting.Piece
pieces_in ps = map piece_in ps

abbrev pub left_in : Option Shape → List cutting.Piece
left_in o = left (one_known o)
