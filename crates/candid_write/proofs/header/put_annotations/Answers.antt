use Rattle.candid_write.proofs.Adds.{bytes_each, ok_then}
use Rattle.candid_write.proofs.header.put_annotations.Goals as goal

pub returns : goal.returns
returns c = ok_then c.put_string.result c.put_string.ensures (λ e. bytes_each c.args.annotations.now _ _ e)
