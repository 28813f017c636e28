use Rattle.std.proofs.Common.{◌∙◌, sym, ap, subst, refl, drop, ◌+◌, ◌≤◌, length}
use Rattle.std.specs.List.{prefix_len}
use Rattle.mo_syntax.specs.Lexed.{is_inside_line}
use Rattle.mo_lexer.specs.Found.{PieceIs}
use Rattle.mo_lexer.specs.Reading.{block_len}
use Rattle.mo_lexer.proofs.Tools.{slice_rest}
use Rattle.mo_lexer.proofs.CommentLemmas.{none_closes}
use Rattle.mo_lexer.proofs.PieceLemmas.{line_opens, block_opens, line_piece, block_piece, comment_found}
use Rattle.mo_lexer.proofs.piece.comment_at.Goals.{then-text-eq47, else-text-eq47+in-Some}
use Rattle.mo_lexer.proofs.piece.comment_at.Goals as goal

pub returns-in-None-clause-err : goal.returns-in-None-clause-err
returns-in-None-clause-err c = (
  refl,
  drop 2 c.args.text.now,
  (block_opens c.args.text.now c.requires c.if-text-eq47.false).whole,
  λ front rest e. none_closes (drop 2 c.args.text.now) front rest (ap (block_len 1) (sym (slice_rest 2 c.args.text.now)) ∙ sym c.block_len.ensures.value ∙ c.in-None.is) e,
)

pub returns-clause-ok : goal.returns-clause-ok
returns-clause-ok c = λ before.
    elim c.if-text-eq47.branch [
      | then-text-eq47 w ↦ subst (λ k. PieceIs before c.args.text.now (comment_found (2 + k))) (sym w.len-is)
          (line_piece before c.args.text.now w.run_len-len.result (line_opens c.args.text.now c.requires w.if-text-eq47.true) (w.run_len-len.ensures.value ∙ ap (prefix_len is_inside_line) (slice_rest 2 c.args.text.now)))
      | else-text-eq47+in-Some w ↦ subst (λ k. PieceIs before c.args.text.now (comment_found (2 + k))) (sym w.len-is)
          (block_piece before c.args.text.now w.in-Some.len (block_opens c.args.text.now c.requires w.if-text-eq47.false) (subst (λ l. w.in-Some.len ≤ length l) (slice_rest 2 c.args.text.now) w.in-Some.ensures.within)
          (ap (block_len 1) (sym (slice_rest 2 c.args.text.now)) ∙ sym w.block_len.ensures.value ∙ w.in-Some.is))
    ]
