use Rattle.play_script.proofs.NumberReading.{digits_none, digits_more, digits_refused, digits_all}
use Rattle.play_script.proofs.reading.read_number.Goals as goal

pub loop-byte-init : goal.loop-byte-init
loop-byte-init c = digits_none c.args.word.now

pub loop-byte-preserved : goal.loop-byte-preserved
loop-byte-preserved c =
    digits_more c.args.word.now c.loop-byte.byte-index c.loop-byte.value c.in-Some.more c.loop-byte.invariant c.loop-byte-test.true c.in-Some.ensures.digit c.in-Some.ensures.found c.in-Some.ensures.small

pub returns-in-None-clause-none : goal.returns-in-None-clause-none
returns-in-None-clause-none c = digits_refused c.args.word.now c.loop-byte.byte-index c.loop-byte.value c.loop-byte.invariant c.loop-byte-test.true c.in-None.ensures.none

pub returns-clause-found : goal.returns-clause-found
returns-clause-found c = digits_all c.args.word.now c.loop-byte.byte-index c.loop-byte.value c.loop-byte.invariant c.loop-byte-test.false (c.is_plain.ensures.0 c.if-not-is_plain.false)
