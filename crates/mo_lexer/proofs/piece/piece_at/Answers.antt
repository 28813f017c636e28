use Rattle.std.proofs.Common.{subst, sym, ap, ◌∙◌, drop, length, arith, take, get_or, length-drop, ◌-◌}
use Rattle.mo_syntax.specs.Characters as bytes
use Rattle.mo_lexer.specs.Found.{PieceIs, TextIs}
use Rattle.mo_lexer.proofs.Tools.{slice_rest}
use Rattle.mo_lexer.proofs.PieceLemmas.{blank_piece, character_piece, text_piece}
use Rattle.mo_lexer.proofs.piece.piece_at.Goals as goal

pub returns-then-is_blank-clause-ok : goal.returns-then-is_blank-clause-ok
returns-then-is_blank-clause-ok c = blank_piece c.args.before (drop c.args.place c.args.source.now) (omega (arith, length-drop c.args.place c.args.source.now))
    (ap (λ l. bytes.is_blank (get_or l 0 0)) (sym (ap (λ s. take (length s - c.args.place) (drop c.args.place s)) c.as_bytes.ensures.value ∙ slice_rest c.args.place c.args.source.now)) ∙ sym c.is_blank.ensures ∙ c.if-is_blank.true)

pub returns-in_ok-found-in-39-clause-ok : goal.returns-in_ok-found-in-39-clause-ok
returns-in_ok-found-in-39-clause-ok c = subst (PieceIs c.args.before (drop c.args.place c.args.source.now)) (sym c.token.ensures) (character_piece c.args.before (drop c.args.place c.args.source.now) c.in_ok-found-in-39.found c.in_ok-found-in-39.ensures.ok)

pub returns-in_ok-found-in-34-clause-ok : goal.returns-in_ok-found-in-34-clause-ok
returns-in_ok-found-in-34-clause-ok c = subst (PieceIs c.args.before (drop c.args.place c.args.source.now)) (sym c.token-in-34.ensures)
    (text_piece c.args.before (drop c.args.place c.args.source.now) c.in_ok-found-in-34.found
    (subst (λ l. TextIs l c.in_ok-found-in-34.found) (ap (λ s. take (length s - c.args.place) (drop c.args.place s)) c.as_bytes.ensures.value ∙ slice_rest c.args.place c.args.source.now) c.in_ok-found-in-34.ensures.ok))
