-- Lists of pieces to which one is added.
use Rattle.std.proofs.Common.{◌≡◌, List, [], ◌∷◌, ◌++◌, ◌∙◌, ap, append_assoc}
use Rattle.std.proofs.lemmas.List.{map-append}
use Rattle.pattern_coverage.specs.Cutting as cutting
use Rattle.mo_coverage.specs.declared.pieces.Piece.{Piece}
use Rattle.mo_coverage.specs.Pieces.{piece_in, pieces_in}

pub one_added : (ps : List Piece) (p : Piece) (rest : List cutting.Piece) → pieces_in (ps ++ p ∷ []) ++ rest ≡ pieces_in ps ++ piece_in p ∷ rest
one_added ps p rest = ap (λ z. z ++ rest) (map-append piece_in ps (p ∷ [])) ∙ append_assoc (pieces_in ps) (piece_in p ∷ []) rest
