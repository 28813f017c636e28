use Rattle.std.proofs.Common.{arith, sym}
use Rattle.mo_lexer.proofs.Tools.{not_both}
use Rattle.mo_lexer.proofs.CommentLemmas.{loop_last, loop_close, loop_open, loop_other, loop_end}
use Rattle.mo_lexer.proofs.comment.block_len.Goals as goal

pub returns-then-comments-eq0-clause-value : goal.returns-then-comments-eq0-clause-value
returns-then-comments-eq0-clause-value c = sym (loop_last c.loop-at.comments c.loop-at.at c.args.body.now c.loop-at-test.true c.loop-at.invariant.3 c.if-byte-eq42.true c.if-next-eq47.true (omega arith))

pub loop-at-preserved-then-next-eq47 : goal.loop-at-preserved-then-next-eq47
loop-at-preserved-then-next-eq47 c = (
  omega arith,
  omega arith,
  omega arith,
  loop_close c.loop-at.comments c.loop-at.at c.args.body.now c.loop-at-test.true c.loop-at.invariant.3 c.if-byte-eq42.true c.if-next-eq47.true (λ one. c.if-comments-eq0.false (omega arith)),
)

pub loop-at-preserved-then-next-eq42 : goal.loop-at-preserved-then-next-eq42
loop-at-preserved-then-next-eq42 c = (
  omega arith,
  omega arith,
  omega arith,
  loop_open c.loop-at.comments c.loop-at.at c.args.body.now c.loop-at-test.true c.loop-at.invariant.3 (not_both _ _ 42 47 c.else-byte-eq42.either) c.if-byte-eq47.true c.if-next-eq42.true,
)

pub loop-at-preserved : goal.loop-at-preserved
loop-at-preserved c = (
  omega arith,
  omega arith,
  omega arith,
  loop_other c.loop-at.comments c.loop-at.at c.args.body.now c.loop-at-test.true c.loop-at.invariant.3 (not_both _ _ 42 47 c.else-byte-eq42.either) (not_both _ _ 47 42 c.else-byte-eq47.either),
)

pub returns-clause-value : goal.returns-clause-value
returns-clause-value c = loop_end c.loop-at.comments c.loop-at.at c.args.body.now c.loop-at-test.false c.loop-at.invariant.3
