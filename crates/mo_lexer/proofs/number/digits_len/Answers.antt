use Rattle.std.proofs.Common.{arith, sym, ap, ◌∙◌}
use Rattle.mo_syntax.specs.Characters as bytes
use Rattle.mo_lexer.proofs.Tools.{slice_rest}
use Rattle.mo_lexer.proofs.NumberLemmas.{digits_more}
use Rattle.mo_lexer.proofs.number.digits_len.Goals as goal

pub loop-len-preserved : goal.loop-len-preserved
loop-len-preserved c = (
  omega arith,
  digits_more c.args.base c.loop-len.len c.args.text.now c.loop-len-test.true
      (ap (bytes.goes_on c.args.base) (sym (slice_rest c.loop-len.len c.args.text.now)) ∙ sym c.if-goes_on.ensures) c.loop-len.invariant.1,
)
