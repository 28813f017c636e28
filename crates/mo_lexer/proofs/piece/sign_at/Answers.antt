use Rattle.std.proofs.Common.{subst, sym, ap, ◌∙◌, length, refl}
use Rattle.mo_syntax.specs.declared.token.TokenKind.TheVariants as t
use Rattle.mo_lexer.specs.Found.{PieceIs}
use Rattle.mo_lexer.specs.Marks.{in_context}
use Rattle.mo_lexer.proofs.Tools.{slice_rest}
use Rattle.mo_lexer.proofs.PieceLemmas.{mark_piece, nothing_found, token_found}
use Rattle.mo_lexer.proofs.piece.sign_at.Goals as goal

pub returns-in_default-clause-err : goal.returns-in_default-clause-err
returns-in_default-clause-err c = let n = nothing_found c.args.text.now (sym c.mark_at.ensures.value ∙ c.in_default.is) c.requires.some c.requires.nothing in (refl, n.0, n.1, n.2, n.3)

pub returns-clause-ok : goal.returns-clause-ok
returns-clause-ok c =
    let len = length c.text-len.result.now in
    subst (PieceIs c.args.before c.args.text.now) (sym c.token.ensures)
    (subst (λ mark. PieceIs c.args.before c.args.text.now (token_found (t.Mark mark) len)) (sym (c.in_context-mark.ensures ∙ ap (in_context c.args.before c.in-Some.plain) (slice_rest len c.args.text.now)))
    (mark_piece c.args.before c.args.text.now c.in-Some.plain len (sym c.mark_at.ensures.value ∙ c.in-Some.is) (ap length c.text-len.ensures) c.requires.plain))
