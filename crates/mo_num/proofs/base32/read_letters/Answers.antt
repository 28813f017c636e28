use Rattle.mo_num.proofs.Letters.{reads_none, letter_at}
use Rattle.mo_num.proofs.base32.read_letters.Goals as goal

pub loop-byte-init : goal.loop-byte-init
loop-byte-init c = record { room = c.requires.inline; reads = reads_none c.args.digits.now.items }

pub returns-in-None-clause-digits : goal.returns-in-None-clause-digits
returns-in-None-clause-digits c = λ more below e.
    let d = letter_at c.args.text.now more c.loop-byte.byte-index e below c.loop-byte-test.true in
    c.in-None.ensures d.0 d.1 d.2
