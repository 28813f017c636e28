use Rattle.std.proofs.Common.{arith, sym, ◌∙◌}
use Rattle.query_source.specs.Tokens.{is_digit}
use Rattle.query_source.proofs.Spellings.{all_more, value_more, too_great}
use Rattle.query_source.proofs.words.numeral.Goals as goal

pub returns-then-next-clause-none : goal.returns-then-next-clause-none
returns-then-next-clause-none c = λ number n.
    too_great c.args.digits.now (_) _ number
    (value_more c.args.digits.now c.loop-digit.digit-index c.loop-digit.number c.loop-digit-test.true (sym c.is_digit.ensures ∙ c.if-not-is_digit.false) c.loop-digit.invariant.value) (omega (arith, c.if-next.true)) n

pub loop-digit-preserved : goal.loop-digit-preserved
loop-digit-preserved c = record {
  all_digits = all_more is_digit c.args.digits.now c.loop-digit.digit-index 0 c.loop-digit-test.true c.loop-digit.invariant.all_digits (sym c.is_digit.ensures ∙ c.if-not-is_digit.false);
  value = value_more c.args.digits.now c.loop-digit.digit-index c.loop-digit.number c.loop-digit-test.true (sym c.is_digit.ensures ∙ c.if-not-is_digit.false) c.loop-digit.invariant.value;
  small = omega (arith, c.if-next.false);
}
