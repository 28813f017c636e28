use Rattle.candid_write.proofs.Adds.{then_is, ok_then}
use Rattle.candid_write.proofs.header.put_refs.Goals as goal

pub returns : goal.returns
returns c = ok_then c.put_each_ref.result c.put_each_ref.ensures (λ e. then_is c.in_ok-put_count.ensures e)
