use Rattle.std.proofs.Common.{arith}
use Rattle.mo_lexer.proofs.EscapeLemmas.{braced_read, braced_bad}
use Rattle.mo_lexer.proofs.escape.braced_at.Goals as goal

pub returns-in-Some : goal.returns-in-Some
returns-in-Some c = braced_read c.args.text.now c.run_len-len.result c.in-Some.value c.closed_at.result c.run_len-len.ensures.value c.in-Some.ensures.1 c.if-value-le1114111.true c.closed_at.ensures

pub returns-in_default : goal.returns-in_default
returns-in_default c = braced_bad c.args.text.now c.run_len-len.result c.run_len-len.ensures.value (λ small. let e = c.in-Some.ensures.1 in omega (arith, e, c.if-value-le1114111.false))

pub returns-in_default-2 : goal.returns-in_default-2
returns-in_default-2 c = braced_bad c.args.text.now c.run_len-len.result c.run_len-len.ensures.value (λ small. c.in_default.ensures (omega arith))
