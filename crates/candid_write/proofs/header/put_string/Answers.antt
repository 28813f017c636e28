use Rattle.candid_write.proofs.Adds.{then_is, text_is, ok_then}
use Rattle.candid_write.proofs.header.put_string.Goals as goal

pub returns : goal.returns
returns c = ok_then c.extend.result c.extend.ensures.ok (λ e. then_is c.in_ok-put_count.ensures (text_is c.args.text.now _ _ e))
