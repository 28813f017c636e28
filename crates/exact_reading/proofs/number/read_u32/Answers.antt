use Rattle.exact_reading.proofs.Numbers.{u32_first}
use Rattle.exact_reading.proofs.number.read_u32.Goals as goal

pub returns-in-len1-up : goal.returns-in-len1-up
returns-in-len1-up g c = u32_first c.args.short c.args.wide c.args.bytes.now c.in-len1-up.len_at_least c.if-byte-lt128.true
