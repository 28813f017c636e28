use Rattle.std.proofs.Common.{arith, get_or, ◌∙◌}
use Rattle.std.specs.Char.{digit_value}
use Rattle.mo_lexer.proofs.NumberLemmas.{too_wide, value_end, digit_value_small, wide_product, wide_sum}
use Rattle.mo_lexer.proofs.number.numeral_value.Goals as goal

pub returns-in_err-checked_mul : goal.returns-in_err-checked_mul
returns-in_err-checked_mul c = rw c.from_residual.ensures (λ narrow.
    too_wide c.args.base c.loop-byte.value c.loop-byte.byte-index c.args.digits.now c.loop-byte-test.true c.if-byte-ne95.true
    (wide_product c.loop-byte.value c.from.result c.args.base (digit_value (get_or c.args.digits.now c.loop-byte.byte-index 0)) c.from.ensures c.in_err-checked_mul.ensures)
    (digit_value_small (get_or c.args.digits.now c.loop-byte.byte-index 0)) c.loop-byte.invariant.0 narrow)

pub returns-in_err-value : goal.returns-in_err-value
returns-in_err-value c = rw c.from_residual-in_err-value.ensures (λ narrow.
    too_wide c.args.base c.loop-byte.value c.loop-byte.byte-index c.args.digits.now c.loop-byte-test.true c.if-byte-ne95.true
    (wide_sum c.loop-byte.value c.from.result c.args.base c.in_ok-checked_mul.field-0 c.from-then-byte-ne95.result (digit_value (get_or c.args.digits.now c.loop-byte.byte-index 0)) c.from.ensures c.in_ok-checked_mul.ensures.1 (c.from-then-byte-ne95.ensures ∙ c.digit_value.ensures.value) c.in_err-value.ensures)
    (digit_value_small (get_or c.args.digits.now c.loop-byte.byte-index 0)) c.loop-byte.invariant.0 narrow)

pub returns : goal.returns
returns c = let e = value_end c.args.base c.loop-byte.value c.loop-byte.byte-index c.args.digits.now c.loop-byte-test.false c.loop-byte.invariant.0 in (omega arith, e)
