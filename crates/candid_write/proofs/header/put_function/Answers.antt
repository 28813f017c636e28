use Rattle.candid_write.proofs.Adds.{then_is, ok_then}
use Rattle.candid_write.proofs.header.put_function.Goals as goal

pub returns : goal.returns
returns c = ok_then c.put_annotations.result c.put_annotations.ensures (λ e. then_is c.in_ok-put_refs.ensures (then_is c.in_ok-put_refs-2.ensures e))
