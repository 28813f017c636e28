use Rattle.std.proofs.Common.{subst, sym}
use Rattle.mo_lexer.specs.Found.{PieceIs}
use Rattle.mo_lexer.proofs.PieceLemmas.{number_piece}
use Rattle.mo_lexer.proofs.piece.numeral_at.Goals as goal

pub returns-in-Some-clause-ok : goal.returns-in-Some-clause-ok
returns-in-Some-clause-ok c = λ before. subst (PieceIs before c.args.text.now) (sym c.token.ensures) (number_piece before c.args.text.now c.number_at-number.result c.in-Some.value c.number_at-number.ensures c.in-Some.is)
