use Rattle.std.proofs.Common.{subst, sym, ap, ◌∙◌, inl, inr, take, [], ◌∷◌}
use Rattle.std.specs.Str.{bytes_eq}
use Rattle.mo_lexer.proofs.Tools.{bytes_same}
use Rattle.mo_syntax.specs.declared.token.TokenKind.TheVariants as t
use Rattle.mo_lexer.specs.Found.{PieceIs}
use Rattle.mo_lexer.proofs.PieceLemmas.{name_piece, NameKind}
use Rattle.mo_lexer.proofs.piece.name_at.Goals.{in-Some, in-None, in-None-2+in_ok-new-in-None-2}
use Rattle.mo_lexer.proofs.piece.name_at.Goals as goal

pub returns-clause-ok : goal.returns-clause-ok
returns-clause-ok c = λ before. subst (PieceIs before c.args.text.now) (sym c.token.ensures)
    (name_piece before c.args.text.now c.match-reserved_word.kind c.run_len-len.result c.run_len-len.ensures.value c.requires
    (elim c.match-reserved_word.branch as (λ _. NameKind (take c.run_len-len.result c.args.text.now) c.match-reserved_word.kind) [
      | in-Some w ↦ inl (w.in-Some.word, sym c.reserved_word.ensures ∙ w.in-Some.is, w.kind-is)
      | in-None w ↦ inr (inl (bytes_same (take c.run_len-len.result c.args.text.now) (95 ∷ []) (ap (bytes_eq (take c.run_len-len.result c.args.text.now)) (sym w.as_slice.ensures) ∙ sym w.eq.ensures ∙ w.if-eq.true), w.kind-is))
      | in-None-2+in_ok-new-in-None-2 w ↦ inr (inr (ap (bytes_eq (take c.run_len-len.result c.args.text.now)) (sym w.as_slice.ensures) ∙ sym w.eq.ensures ∙ w.if-eq.false, sym c.reserved_word.ensures ∙ w.in-None-2.is, w.kind-is ∙ ap t.Identifier w.in_ok-new-in-None-2.ensures))
    ]))
