use Rattle.candid_write.proofs.Adds.{then_is, ok_then}
use Rattle.candid_write.proofs.header.put_fields.Goals as goal

pub returns : goal.returns
returns c = ok_then c.put_each_field.result c.put_each_field.ensures (λ e. then_is c.in_ok-put_count.ensures e)
