use Rattle.candid_write.proofs.Adds.{then_is, ok_then}
use Rattle.candid_write.proofs.header.put_methods.Goals as goal

pub returns : goal.returns
returns c = ok_then c.put_each_method.result c.put_each_method.ensures (λ e. then_is c.in_ok-put_count.ensures e)
