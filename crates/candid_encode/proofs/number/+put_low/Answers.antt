use Rattle.std.proofs.Common.{arith}
use Rattle.candid_write.proofs.Adds.{ok_then}
use Rattle.candid_encode.proofs.Lows.{low_more}
use Rattle.candid_encode.proofs.number.+put_low.Goals as goal

pub returns : goal.returns
returns t c = ok_then c.put_low.result c.put_low.ensures (λ e. low_more c.args.width c.args.value _ _ _ (omega arith) c.in_ok-push.ensures.ok e)
