use Rattle.std.proofs.Common.{arith}
use Rattle.candid_write.proofs.Adds.{count_is, ok_then}
use Rattle.candid_write.proofs.header.put_count.Goals as goal

pub returns : goal.returns
returns c = ok_then c.leb_write.result c.leb_write.ensures.ok (λ e. count_is c.args.count _ _ (omega arith) e)
